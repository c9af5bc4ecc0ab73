-- A row takes a token, so fewer are left.
use Rattle.affine_grammar.proofs.Steps.{row_shorter}
use Rattle.expression_text.proofs.maps.some_rows.Goals as goal

pub rows-smaller : goal.rows-smaller
rows-smaller c = row_shorter (c.rows.rows, c.rows.state) (c.in_ok-rows-2.rows, c.next_row.new.state) c.rows.tokens c.next_row.new.tokens c.in_ok-rows-2.ensures
