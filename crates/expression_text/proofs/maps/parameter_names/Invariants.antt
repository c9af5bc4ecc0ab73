use Rattle.std.proofs.Common.{◌≡◌, length}
use Rattle.readers.specs.Readers.{many}
use Rattle.affine_grammar.specs.Reading as spec
use Rattle.affine_grammar.specs.Token as tok
use Rattle.expression_text.proofs.maps.parameter_names.Given as goal

abbrev pub invariant-names : goal.invariant-names
invariant-names l = many (tok.at_sign 44) (spec.next_parameter l.dims) l.initial.names l.initial.tokens ≡ many (tok.at_sign 44) (spec.next_parameter l.dims) l.names l.tokens

abbrev pub decreases-names : goal.decreases-names
decreases-names l = length l.tokens
