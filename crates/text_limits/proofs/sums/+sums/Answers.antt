use Rattle.std.proofs.Common.{◌∙◌, ap, arith}
use Rattle.affine_ast.specs.declared.stmt.What as what
use Rattle.std.specs.Prelude.{sum_by}
use Rattle.affine_ast.proofs.Nests.{plain_unless}
use Rattle.plan_laws.specs.Limits.{row_operands, rows_fit}
use Rattle.text_limits.specs.Capped.{measured}
use Rattle.module_work.proofs.Weights.{lighter_statement, lighter_body, lighter_first, lighter_other}
use Rattle.text_limits.proofs.Heads.{for_is, if_is, if_else_is, plain_is}
use Rattle.text_limits.proofs.Tallied.{list_step, list_end, list_whole}
use Rattle.text_limits.proofs.sums.+sums.Goals as goal

pub of_stmt-sums_of-requires : goal.of_stmt-sums_of-requires
of_stmt-sums_of-requires t c =
    (lighter_body c.args.stmt.now.line c.args.stmt.now.what t c.in-For.var c.in-For.lower c.in-For.upper c.in-For.step c.in-For.body c.as_slice.result.now c.in-For.is c.as_slice.ensures c.decreases, tt)

pub of_stmt-sums_of-requires-in-If : goal.of_stmt-sums_of-requires-in-If
of_stmt-sums_of-requires-in-If t c =
    (lighter_first c.args.stmt.now.line c.args.stmt.now.what t c.in-If.set c.in-If.operands c.in-If.first c.in-If.other c.as_slice-in-If-2.result.now c.in-If.is c.as_slice-in-If-2.ensures c.decreases, tt)

pub of_stmt-sums_of-requires-in-Some : goal.of_stmt-sums_of-requires-in-Some
of_stmt-sums_of-requires-in-Some t c =
    let is = c.in-If.is ∙ ap (what.If c.in-If.set c.in-If.operands c.in-If.first) c.in-Some.is in
    (lighter_other c.args.stmt.now.line c.args.stmt.now.what t c.in-If.set c.in-If.operands c.in-If.first c.in-Some.other c.as_slice-in-Some.result.now is c.as_slice-in-Some.ensures c.decreases, tt)

pub of_stmt-returns-in-For : goal.of_stmt-returns-in-For
of_stmt-returns-in-For t c =
    for_is c.args.round.loops c.args.round.ifs c.args.stmt.now.line c.args.stmt.now.what c.in-For.var c.in-For.lower c.in-For.upper c.in-For.step c.in-For.body c.as_slice.result.now
    c.of_bound.result c.of_bound-in-For.result c.and.result c.in_loop.result.loops c.in_loop.result.ifs c.head-head.result c.sums_of.result c.plus.result
    c.in-For.is c.as_slice.ensures c.of_bound.ensures c.of_bound-in-For.ensures c.and.ensures c.head-head.ensures c.in_loop.ensures.loops c.in_loop.ensures.ifs c.sums_of.ensures c.plus.ensures

pub of_stmt-returns-in-None : goal.of_stmt-returns-in-None
of_stmt-returns-in-None t c =
    let is = c.in-If.is ∙ ap (what.If c.in-If.set c.in-If.operands c.in-If.first) c.in-None.is in
    if_is c.args.round.loops c.args.round.ifs c.args.stmt.now.line c.args.stmt.now.what c.in-If.set c.in-If.operands c.in-If.first c.as_slice-in-If-2.result.now
    c.of_rows.result c.in_condition-inner.result.loops c.in_condition-inner.result.ifs c.head-head-in-If.result c.sums_of-in-If.result c.plus-sums.result
    is c.as_slice-in-If-2.ensures (c.of_rows.ensures ∙ ap (λ rows. measured (sum_by row_operands rows) (rows_fit rows)) c.as_slice-in-If.ensures) c.head-head-in-If.ensures c.in_condition-inner.ensures.ifs c.in_condition-inner.ensures.loops c.sums_of-in-If.ensures c.plus-sums.ensures

pub of_stmt-returns-in-Some : goal.of_stmt-returns-in-Some
of_stmt-returns-in-Some t c =
    let is = c.in-If.is ∙ ap (what.If c.in-If.set c.in-If.operands c.in-If.first) c.in-Some.is in
    if_else_is c.args.round.loops c.args.round.ifs c.args.stmt.now.line c.args.stmt.now.what c.in-If.set c.in-If.operands c.in-If.first c.in-Some.other c.as_slice-in-If-2.result.now c.as_slice-in-Some.result.now
    c.of_rows.result c.in_condition-inner.result.loops c.in_condition-inner.result.ifs c.head-head-in-If.result c.sums_of-in-If.result c.plus-sums.result c.sums_of-in-Some.result c.plus-in-Some.result
    is c.as_slice-in-If-2.ensures c.as_slice-in-Some.ensures (c.of_rows.ensures ∙ ap (λ rows. measured (sum_by row_operands rows) (rows_fit rows)) c.as_slice-in-If.ensures) c.head-head-in-If.ensures c.in_condition-inner.ensures.ifs c.in_condition-inner.ensures.loops c.sums_of-in-If.ensures c.plus-sums.ensures
    c.sums_of-in-Some.ensures c.plus-in-Some.ensures

pub of_stmt-returns-in_default : goal.of_stmt-returns-in_default
of_stmt-returns-in_default t c =
    plain_is c.args.round.loops c.args.round.ifs c.args.stmt.now.line c.args.stmt.now.what _ (plain_unless c.args.stmt.now.what c.in_default.not-For c.in_default.not-If) c.of_plain_stmt.ensures

pub sums_of-of_stmt-requires : goal.sums_of-of_stmt-requires
sums_of-of_stmt-requires t c = (lighter_statement c.args.stmts.now c.loop-stmt.stmt-index c.stmt-item.result t c.loop-stmt-test.true c.stmt-item.is c.decreases, tt)

pub sums_of-loop-stmt-preserved : goal.sums_of-loop-stmt-preserved
sums_of-loop-stmt-preserved t c = record {
  left =
      list_step c.args.round.loops c.args.round.ifs c.args.stmts.now c.loop-stmt.stmt-index c.stmt-item.result c.loop-stmt.sums c.of_stmt.result c.plus-sums.result _
      c.loop-stmt-test.true c.stmt-item.is c.of_stmt.ensures c.plus-sums.ensures c.loop-stmt.invariant.left;
  whole = list_whole c.loop-stmt.sums c.of_stmt.result c.plus-sums.result c.plus-sums.ensures;
}

pub sums_of-returns : goal.sums_of-returns
sums_of-returns t c = list_end c.args.round.loops c.args.round.ifs c.args.stmts.now c.loop-stmt.stmt-index c.loop-stmt.sums _ (omega arith) c.loop-stmt.invariant.whole c.loop-stmt.invariant.left
