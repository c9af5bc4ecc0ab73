use Rattle.std.proofs.lemmas.Result.{on_ok_weaker}
use Rattle.affine_ast.specs.Spelling.{wait_text}
use Rattle.affine_print.proofs.Pieces.{four_pieces}
use Rattle.affine_print.proofs.plain.put_wait.Goals as goal

pub returns : goal.returns
unfolding wait_text
returns c = on_ok_weaker c.put_typed.result (λ e. four_pieces _ _ _ _ _ _ _ _ _ c.in_ok-put_first_place.ensures c.in_ok-put.ensures c.in_ok-put_name.ensures e) c.put_typed.ensures
