use Rattle.std.proofs.Common.{arith}
use Rattle.std.proofs.lemmas.Result.{on_ok_weaker}
use Rattle.affine_print.proofs.Conditions.{one_region, two_regions}
use Rattle.affine_print.proofs.Pieces.{lines_none, one_more_line}
use Rattle.affine_print.proofs.statement.+statements.Goals as goal

pub put_stmts-loop-stmt-init : goal.put_stmts-loop-stmt-init
put_stmts-loop-stmt-init t c = lines_none c.args.margin.now c.args.out.now.items

pub put_stmts-loop-stmt-preserved : goal.put_stmts-loop-stmt-preserved
put_stmts-loop-stmt-preserved t c =
    one_more_line c.args.margin.now c.args.stmts.now c.loop-stmt.stmt-index c.stmt-item.result _ _ _ (omega arith) c.stmt-item.is
    c.loop-stmt.invariant c.in_ok-put_stmt.ensures

pub put_what-returns-in-None : goal.put_what-returns-in-None
put_what-returns-in-None t c =
    let arm = c.in-If in
    let begun = rw (c.as_slice-in-If.ensures, c.as_slice-in-If-2.ensures) at c.in_ok-put_first_region-in-If.ensures in
    on_ok_weaker c.put_close.result (λ e. one_region c.args.margin.now arm.set arm.operands arm.first arm.other _ _ _ _ arm.is c.in-None.is begun e) c.put_close.ensures

pub put_what-returns-in_ok-put_else-in-Some : goal.put_what-returns-in_ok-put_else-in-Some
put_what-returns-in_ok-put_else-in-Some t c =
    let arm = c.in-If in
    let begun = rw (c.as_slice-in-If.ensures, c.as_slice-in-If-2.ensures) at c.in_ok-put_first_region-in-If.ensures in
    let behind = rw c.as_slice-in-Some.ensures at c.in_ok-put_else-in-Some.ensures in
    on_ok_weaker c.put_close-in-Some.result
    (λ e. two_regions c.args.margin.now arm.set arm.operands arm.first arm.other c.in-Some.other _ _ _ _ _ arm.is c.in-Some.is begun behind e) c.put_close-in-Some.ensures
