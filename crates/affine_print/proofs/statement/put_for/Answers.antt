use Rattle.std.proofs.Common.{to_z-of_z}
use Rattle.std.proofs.lemmas.Result.{on_ok_weaker}
use Rattle.affine_ast.specs.Spelling.{for_text}
use Rattle.affine_print.proofs.Pieces.{five_pieces}
use Rattle.affine_print.proofs.statement.put_for.Goals as goal

pub returns : goal.returns
unfolding for_text
returns c =
    let fits = c.ranges.step in
    let stepped = simp to_z-of_z at c.in_ok-put_step.ensures in
    on_ok_weaker c.put-2.result (λ e. five_pieces _ _ _ _ _ _ _ _ _ _ _ c.in_ok-put_named.ensures c.in_ok-put.ensures c.in_ok-put_bounds.ensures stepped e) c.put-2.ensures
