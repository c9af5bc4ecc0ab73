use Rattle.std.proofs.Common.{◌≡◌, length}
use Rattle.readers.specs.Readers.{many}
use Rattle.affine_grammar.specs.Reading as spec
use Rattle.affine_grammar.specs.Token as tok
use Rattle.expression_text.proofs.maps.some_results.Given as goal

abbrev pub invariant-results : goal.invariant-results
invariant-results l = many (tok.at_sign 44) (spec.next_result l.leaves l.several) (l.initial.results, l.initial.state) l.initial.tokens ≡ many (tok.at_sign 44) (spec.next_result l.leaves l.several) (l.results, l.state) l.tokens

abbrev pub decreases-results : goal.decreases-results
decreases-results l = length l.tokens
