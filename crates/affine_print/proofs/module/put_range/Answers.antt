use Rattle.std.proofs.lemmas.Result.{on_ok_weaker}
use Rattle.affine_ast.specs.Spelling.{range_text}
use Rattle.affine_print.proofs.Pieces.{three_pieces}
use Rattle.affine_print.proofs.module.put_range.Goals as goal

pub returns : goal.returns
unfolding range_text
returns c = on_ok_weaker c.put-2.result (λ e. three_pieces _ _ _ _ _ _ _ c.in_ok-put.ensures c.in_ok-put_limits.ensures e) c.put-2.ensures
