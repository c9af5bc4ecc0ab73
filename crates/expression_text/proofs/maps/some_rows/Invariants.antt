use Rattle.std.proofs.Common.{◌≡◌, length}
use Rattle.readers.specs.Readers.{many}
use Rattle.affine_grammar.specs.Reading as spec
use Rattle.affine_grammar.specs.Token as tok
use Rattle.expression_text.proofs.maps.some_rows.Given as goal

abbrev pub invariant-rows : goal.invariant-rows
invariant-rows l = many (tok.at_sign 44) spec.next_row (l.initial.rows, l.initial.state) l.initial.tokens ≡ many (tok.at_sign 44) spec.next_row (l.rows, l.state) l.tokens

abbrev pub decreases-rows : goal.decreases-rows
decreases-rows l = length l.tokens
