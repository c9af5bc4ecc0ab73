use Rattle.std.proofs.Common.{◌≡◌, length}
use Rattle.readers.specs.Readers.{many}
use Rattle.affine_grammar.specs.Reading as spec
use Rattle.affine_grammar.specs.Token as tok
use Rattle.expression_text.proofs.types.sizes.Given as goal

abbrev pub invariant-sizes : goal.invariant-sizes
invariant-sizes l = many tok.at_size spec.one_size l.initial.sizes l.initial.tokens ≡ many tok.at_size spec.one_size l.sizes l.tokens

abbrev pub decreases-sizes : goal.decreases-sizes
decreases-sizes l = length l.tokens
