use Rattle.std.proofs.Common.{◌≡◌, ◌+◌, ◌*◌, length}
use Rattle.readers.specs.Readers.{many}
use Rattle.affine_grammar.specs.Reading as spec
use Rattle.affine_grammar.specs.Token as tok
use Rattle.expression_text.proofs.expressions.+expressions.Given as goal

abbrev pub decreases-factor : goal.decreases-factor
decreases-factor l = 6 * l.left + 2

abbrev pub decreases-other : goal.decreases-other
decreases-other l = 6 * l.left

abbrev pub decreases-product : goal.decreases-product
decreases-product l = 6 * l.left + 3

abbrev pub decreases-sum : goal.decreases-sum
decreases-sum l = 6 * l.left + 5

abbrev pub decreases-summand : goal.decreases-summand
decreases-summand l = 6 * l.left + 4

abbrev pub decreases-unary : goal.decreases-unary
decreases-unary l = 6 * l.left + 1

abbrev pub invariant-product-factors : goal.invariant-product-factors
invariant-product-factors l = many tok.at_product (spec.factor (spec.unary l.leaves l.left)) (l.initial.value, l.initial.state) l.initial.tokens ≡ many tok.at_product (spec.factor (spec.unary l.leaves l.left)) (l.value, l.state) l.tokens

abbrev pub decreases-product-factors : goal.decreases-product-factors
decreases-product-factors l = length l.tokens

abbrev pub invariant-sum-summands : goal.invariant-sum-summands
invariant-sum-summands l = many tok.at_sum (spec.summand (spec.unary l.leaves l.left)) (l.initial.value, l.initial.state) l.initial.tokens ≡ many tok.at_sum (spec.summand (spec.unary l.leaves l.left)) (l.value, l.state) l.tokens

abbrev pub decreases-sum-summands : goal.decreases-sum-summands
decreases-sum-summands l = length l.tokens
