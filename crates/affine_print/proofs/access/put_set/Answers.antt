use Rattle.std.proofs.lemmas.Result.{on_ok_weaker}
use Rattle.affine_ast.specs.Spelling.{set_text}
use Rattle.affine_print.proofs.Pieces.{three_pieces}
use Rattle.affine_print.proofs.access.put_set.Goals as goal

pub returns : goal.returns
unfolding set_text
returns c = on_ok_weaker c.put_operands.result (λ e. three_pieces _ _ _ _ _ _ _ c.in_ok-put_opening.ensures (rw c.as_slice.ensures at c.in_ok-put_rows.ensures) e) c.put_operands.ensures
