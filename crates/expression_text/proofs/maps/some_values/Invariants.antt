use Rattle.std.proofs.Common.{◌≡◌, length}
use Rattle.readers.specs.Readers.{many}
use Rattle.affine_grammar.specs.Reading as spec
use Rattle.affine_grammar.specs.Token as tok
use Rattle.expression_text.proofs.maps.some_values.Given as goal

abbrev pub invariant-values : goal.invariant-values
invariant-values l = many (tok.at_sign 44) spec.next_value l.initial.values l.initial.tokens ≡ many (tok.at_sign 44) spec.next_value l.values l.tokens

abbrev pub decreases-values : goal.decreases-values
decreases-values l = length l.tokens
