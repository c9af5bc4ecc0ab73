use Rattle.std.proofs.Common.{arith}
use Rattle.affine_ast.specs.Spelling.{row_text}
use Rattle.affine_print.proofs.Pieces.{listed_none, listed_more}
use Rattle.affine_print.proofs.access.put_row_list.Goals as goal

pub loop-place-init : goal.loop-place-init
loop-place-init c = listed_none row_text c.args.out.now.items

pub loop-place-preserved : goal.loop-place-preserved
loop-place-preserved c =
    listed_more row_text c.args.rows.now c.loop-place.place c.index-rows-place.result _ _ _ _ (omega arith) c.index-rows-place.is
    c.loop-place.invariant c.in_ok-put_comma.ensures c.in_ok-put_row.ensures
