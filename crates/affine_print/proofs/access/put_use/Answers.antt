use Rattle.std.proofs.lemmas.Result.{on_ok_weaker}
use Rattle.affine_ast.specs.Spelling.{use_text}
use Rattle.affine_print.proofs.Pieces.{three_pieces}
use Rattle.affine_print.proofs.access.put_use.Goals as goal

pub returns : goal.returns
unfolding use_text
returns c = on_ok_weaker c.put_operands.result (λ e. three_pieces _ _ _ _ _ _ _ c.in_ok-put_opening.ensures (rw c.as_slice.ensures at c.in_ok-put_results.ensures) e) (rw c.as_slice-2.ensures at c.put_operands.ensures)
