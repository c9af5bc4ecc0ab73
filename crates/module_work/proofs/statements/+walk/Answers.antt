use Rattle.std.proofs.Common.{◌≡◌, ◌∙◌, ◌+◌, sym, ap, subst, arith, rules, w64, SFits, ◌<ℤ◌, pos}
use Rattle.std.specs.Prelude.{IfOk}
use Rattle.std.proofs.lemmas.Int.{to_z-of_z}
use Rattle.affine_expr.specs.Bounded.{range_at}
use Rattle.affine_ast.specs.Intervals.{first_turn, last_end}
use Rattle.affine_ast.specs.Nest.{Nothing, nest, put_what}
use Rattle.affine_ast.specs.declared.stmt.What as what
use Rattle.affine_ast.specs.Nest.{is_region}
use Rattle.affine_ast.proofs.Nests.{region-Value, region-Load, region-Store, region-RawLoad, region-RawStore, region-Constant, region-Binary, region-Cast, region-Alloc, region-Dealloc, region-Start, region-Wait, region-Return}
use Rattle.direct_meaning.specs.Work.{turn_count, full_work}
use Rattle.module_work.specs.Saturated.{saturated}
use Rattle.module_work.specs.Table.{ranges_of, put_back}
use Rattle.module_work.specs.Workable.{Workable}
use Rattle.module_work.proofs.Tables.{ranges_back}
use Rattle.module_work.proofs.Weights.{lighter_statement, lighter_body, lighter_first, lighter_other}
use Rattle.module_work.proofs.Works.{plain_workable, loop_workable, loop_steps, first_workable, other_workable, if_steps, if_else_ok, kept_region, small_total, list_asks, list_step, list_passes, list_end}
use Rattle.module_work.proofs.statements.+walk.Goals as goal

pub list-statement-requires : goal.list-statement-requires
list-statement-requires t c = (lighter_statement c.args.stmts.now c.loop-stmt.stmt-index c.stmt-item.result t c.loop-stmt-test.true c.stmt-item.is c.decreases, (list_asks c.args.stmts.now c.loop-stmt.stmt-index c.stmt-item.result (ranges_of c.loop-stmt.ranges.entries) c.loop-stmt-test.true c.stmt-item.is c.loop-stmt.invariant.workable, c.loop-stmt.invariant.small))

pub statement-enter_loop-requires-clause-lower : goal.statement-enter_loop-requires-clause-lower
statement-enter_loop-requires-clause-lower t c = (loop_workable c.args.stmt.now.line c.in-For.var c.in-For.lower c.in-For.upper c.in-For.step c.in-For.body (ranges_of c.args.ranges.now.entries) (subst (λ w. Workable (put_what w c.args.stmt.now.line Nothing) (ranges_of c.args.ranges.now.entries)) c.in-For.is c.requires.workable)).0

pub statement-enter_loop-requires-clause-upper : goal.statement-enter_loop-requires-clause-upper
statement-enter_loop-requires-clause-upper t c = (loop_workable c.args.stmt.now.line c.in-For.var c.in-For.lower c.in-For.upper c.in-For.step c.in-For.body (ranges_of c.args.ranges.now.entries) (subst (λ w. Workable (put_what w c.args.stmt.now.line Nothing) (ranges_of c.args.ranges.now.entries)) c.in-For.is c.requires.workable)).1

pub statement-enter_loop-requires-clause-step : goal.statement-enter_loop-requires-clause-step
statement-enter_loop-requires-clause-step t c = subst (λ z. pos 0 <ℤ z) (sym (to_z-of_z w64 c.in-For.step (let f : SFits w64 c.in-For.step = search rules in f))) (loop_workable c.args.stmt.now.line c.in-For.var c.in-For.lower c.in-For.upper c.in-For.step c.in-For.body (ranges_of c.args.ranges.now.entries) (subst (λ w. Workable (put_what w c.args.stmt.now.line Nothing) (ranges_of c.args.ranges.now.entries)) c.in-For.is c.requires.workable)).2

pub statement-list-requires : goal.statement-list-requires
statement-list-requires t c = (lighter_body c.args.stmt.now.line c.args.stmt.now.what t c.in-For.var c.in-For.lower c.in-For.upper c.in-For.step c.in-For.body c.as_slice.result.now c.in-For.is c.as_slice.ensures c.decreases, (subst (λ ss. Workable (nest ss) (ranges_of c.enter_loop.new.ranges.entries)) (sym c.as_slice.ensures) (subst (Workable (nest c.in-For.body)) (sym c.in_ok-entered-in-For.ensures.ranges) (loop_workable c.args.stmt.now.line c.in-For.var c.in-For.lower c.in-For.upper c.in-For.step c.in-For.body (ranges_of c.args.ranges.now.entries) (subst (λ w. Workable (put_what w c.args.stmt.now.line Nothing) (ranges_of c.args.ranges.now.entries)) c.in-For.is c.requires.workable)).3), omega arith))

pub statement-list-requires-in-If : goal.statement-list-requires-in-If
statement-list-requires-in-If t c = (lighter_first c.args.stmt.now.line c.args.stmt.now.what t c.in-If.set c.in-If.operands c.in-If.first c.in-If.other c.as_slice-in-If.result.now c.in-If.is c.as_slice-in-If.ensures c.decreases, (subst (λ ss. Workable (nest ss) (ranges_of c.args.ranges.now.entries)) (sym c.as_slice-in-If.ensures) (first_workable c.args.stmt.now.line c.in-If.set c.in-If.operands c.in-If.first (ranges_of c.args.ranges.now.entries) c.in-If.other (subst (λ w. Workable (put_what w c.args.stmt.now.line Nothing) (ranges_of c.args.ranges.now.entries)) c.in-If.is c.requires.workable)), c.requires.total))

pub statement-list-requires-in-Some : goal.statement-list-requires-in-Some
statement-list-requires-in-Some t c = (lighter_other c.args.stmt.now.line c.args.stmt.now.what t c.in-If.set c.in-If.operands c.in-If.first c.in-Some.other c.as_slice-in-Some.result.now (c.in-If.is ∙ ap (what.If c.in-If.set c.in-If.operands c.in-If.first) c.in-Some.is) c.as_slice-in-Some.ensures c.decreases, (subst (λ ss. Workable (nest ss) (ranges_of c.list-in-If.new.ranges.entries)) (sym c.as_slice-in-Some.ensures) (subst (Workable (nest c.in-Some.other)) (sym c.in_ok-total-in-If.ensures.ranges) (other_workable c.args.stmt.now.line c.in-If.set c.in-If.operands c.in-If.first (ranges_of c.args.ranges.now.entries) c.in-Some.other (subst (λ o. Workable (put_what (what.If c.in-If.set c.in-If.operands c.in-If.first o) c.args.stmt.now.line Nothing) (ranges_of c.args.ranges.now.entries)) c.in-Some.is (subst (λ w. Workable (put_what w c.args.stmt.now.line Nothing) (ranges_of c.args.ranges.now.entries)) c.in-If.is c.requires.workable)))), small_total c.in_ok-total-in-If.total _ c.in_ok-total-in-If.ensures.work))

pub statement-with_plain-requires-clause-region : goal.statement-with_plain-requires-clause-region
statement-with_plain-requires-clause-region t c = (ap is_region c.in-Value.is ∙ region-Value c.in-Value.result c.in-Value.pick c.in-Value.at)

pub statement-with_plain-requires-clause-workable : goal.statement-with_plain-requires-clause-workable
statement-with_plain-requires-clause-workable t c = plain_workable c.args.stmt.now.what c.args.stmt.now.line (ranges_of c.args.ranges.now.entries) (ap is_region c.in-Value.is ∙ region-Value c.in-Value.result c.in-Value.pick c.in-Value.at) c.requires.workable

pub statement-returns-in-Value-clause-steps : goal.statement-returns-in-Value-clause-steps
statement-returns-in-Value-clause-steps t c = c.with_plain.ensures.steps c.args.stmt.now.line

pub statement-with_plain-requires-in-Load-clause-region : goal.statement-with_plain-requires-in-Load-clause-region
statement-with_plain-requires-in-Load-clause-region t c = (ap is_region c.in-Load.is ∙ region-Load c.in-Load.result c.in-Load.memref c.in-Load.at c.in-Load.ty)

pub statement-with_plain-requires-in-Load-clause-workable : goal.statement-with_plain-requires-in-Load-clause-workable
statement-with_plain-requires-in-Load-clause-workable t c = plain_workable c.args.stmt.now.what c.args.stmt.now.line (ranges_of c.args.ranges.now.entries) (ap is_region c.in-Load.is ∙ region-Load c.in-Load.result c.in-Load.memref c.in-Load.at c.in-Load.ty) c.requires.workable

pub statement-returns-in-Load-clause-steps : goal.statement-returns-in-Load-clause-steps
statement-returns-in-Load-clause-steps t c = c.with_plain-in-Load.ensures.steps c.args.stmt.now.line

pub statement-with_plain-requires-in-Store-clause-region : goal.statement-with_plain-requires-in-Store-clause-region
statement-with_plain-requires-in-Store-clause-region t c = (ap is_region c.in-Store.is ∙ region-Store c.in-Store.value c.in-Store.memref c.in-Store.at c.in-Store.ty)

pub statement-with_plain-requires-in-Store-clause-workable : goal.statement-with_plain-requires-in-Store-clause-workable
statement-with_plain-requires-in-Store-clause-workable t c = plain_workable c.args.stmt.now.what c.args.stmt.now.line (ranges_of c.args.ranges.now.entries) (ap is_region c.in-Store.is ∙ region-Store c.in-Store.value c.in-Store.memref c.in-Store.at c.in-Store.ty) c.requires.workable

pub statement-returns-in-Store-clause-steps : goal.statement-returns-in-Store-clause-steps
statement-returns-in-Store-clause-steps t c = c.with_plain-in-Store.ensures.steps c.args.stmt.now.line

pub statement-with_plain-requires-in-RawLoad-clause-region : goal.statement-with_plain-requires-in-RawLoad-clause-region
statement-with_plain-requires-in-RawLoad-clause-region t c = (ap is_region c.in-RawLoad.is ∙ region-RawLoad c.in-RawLoad.result c.in-RawLoad.memref c.in-RawLoad.at c.in-RawLoad.ty)

pub statement-with_plain-requires-in-RawLoad-clause-workable : goal.statement-with_plain-requires-in-RawLoad-clause-workable
statement-with_plain-requires-in-RawLoad-clause-workable t c = plain_workable c.args.stmt.now.what c.args.stmt.now.line (ranges_of c.args.ranges.now.entries) (ap is_region c.in-RawLoad.is ∙ region-RawLoad c.in-RawLoad.result c.in-RawLoad.memref c.in-RawLoad.at c.in-RawLoad.ty) c.requires.workable

pub statement-returns-in-RawLoad-clause-steps : goal.statement-returns-in-RawLoad-clause-steps
statement-returns-in-RawLoad-clause-steps t c = c.with_plain-in-RawLoad.ensures.steps c.args.stmt.now.line

pub statement-with_plain-requires-in-RawStore-clause-region : goal.statement-with_plain-requires-in-RawStore-clause-region
statement-with_plain-requires-in-RawStore-clause-region t c = (ap is_region c.in-RawStore.is ∙ region-RawStore c.in-RawStore.value c.in-RawStore.memref c.in-RawStore.at c.in-RawStore.ty)

pub statement-with_plain-requires-in-RawStore-clause-workable : goal.statement-with_plain-requires-in-RawStore-clause-workable
statement-with_plain-requires-in-RawStore-clause-workable t c = plain_workable c.args.stmt.now.what c.args.stmt.now.line (ranges_of c.args.ranges.now.entries) (ap is_region c.in-RawStore.is ∙ region-RawStore c.in-RawStore.value c.in-RawStore.memref c.in-RawStore.at c.in-RawStore.ty) c.requires.workable

pub statement-returns-in-RawStore-clause-steps : goal.statement-returns-in-RawStore-clause-steps
statement-returns-in-RawStore-clause-steps t c = c.with_plain-in-RawStore.ensures.steps c.args.stmt.now.line

pub statement-with_plain-requires-in-Constant-clause-region : goal.statement-with_plain-requires-in-Constant-clause-region
statement-with_plain-requires-in-Constant-clause-region t c = (ap is_region c.in-Constant.is ∙ region-Constant c.in-Constant.result c.in-Constant.value c.in-Constant.ty)

pub statement-with_plain-requires-in-Constant-clause-workable : goal.statement-with_plain-requires-in-Constant-clause-workable
statement-with_plain-requires-in-Constant-clause-workable t c = plain_workable c.args.stmt.now.what c.args.stmt.now.line (ranges_of c.args.ranges.now.entries) (ap is_region c.in-Constant.is ∙ region-Constant c.in-Constant.result c.in-Constant.value c.in-Constant.ty) c.requires.workable

pub statement-returns-in-Constant-clause-steps : goal.statement-returns-in-Constant-clause-steps
statement-returns-in-Constant-clause-steps t c = c.with_plain-in-Constant.ensures.steps c.args.stmt.now.line

pub statement-with_plain-requires-in-Binary-clause-region : goal.statement-with_plain-requires-in-Binary-clause-region
statement-with_plain-requires-in-Binary-clause-region t c = (ap is_region c.in-Binary.is ∙ region-Binary c.in-Binary.result c.in-Binary.op c.in-Binary.left c.in-Binary.right c.in-Binary.ty)

pub statement-with_plain-requires-in-Binary-clause-workable : goal.statement-with_plain-requires-in-Binary-clause-workable
statement-with_plain-requires-in-Binary-clause-workable t c = plain_workable c.args.stmt.now.what c.args.stmt.now.line (ranges_of c.args.ranges.now.entries) (ap is_region c.in-Binary.is ∙ region-Binary c.in-Binary.result c.in-Binary.op c.in-Binary.left c.in-Binary.right c.in-Binary.ty) c.requires.workable

pub statement-returns-in-Binary-clause-steps : goal.statement-returns-in-Binary-clause-steps
statement-returns-in-Binary-clause-steps t c = c.with_plain-in-Binary.ensures.steps c.args.stmt.now.line

pub statement-with_plain-requires-in-Cast-clause-region : goal.statement-with_plain-requires-in-Cast-clause-region
statement-with_plain-requires-in-Cast-clause-region t c = (ap is_region c.in-Cast.is ∙ region-Cast c.in-Cast.result c.in-Cast.kind c.in-Cast.value c.in-Cast.from c.in-Cast.to)

pub statement-with_plain-requires-in-Cast-clause-workable : goal.statement-with_plain-requires-in-Cast-clause-workable
statement-with_plain-requires-in-Cast-clause-workable t c = plain_workable c.args.stmt.now.what c.args.stmt.now.line (ranges_of c.args.ranges.now.entries) (ap is_region c.in-Cast.is ∙ region-Cast c.in-Cast.result c.in-Cast.kind c.in-Cast.value c.in-Cast.from c.in-Cast.to) c.requires.workable

pub statement-returns-in-Cast-clause-steps : goal.statement-returns-in-Cast-clause-steps
statement-returns-in-Cast-clause-steps t c = c.with_plain-in-Cast.ensures.steps c.args.stmt.now.line

pub statement-with_plain-requires-in-Alloc-clause-region : goal.statement-with_plain-requires-in-Alloc-clause-region
statement-with_plain-requires-in-Alloc-clause-region t c = (ap is_region c.in-Alloc.is ∙ region-Alloc c.in-Alloc.result c.in-Alloc.ty)

pub statement-with_plain-requires-in-Alloc-clause-workable : goal.statement-with_plain-requires-in-Alloc-clause-workable
statement-with_plain-requires-in-Alloc-clause-workable t c = plain_workable c.args.stmt.now.what c.args.stmt.now.line (ranges_of c.args.ranges.now.entries) (ap is_region c.in-Alloc.is ∙ region-Alloc c.in-Alloc.result c.in-Alloc.ty) c.requires.workable

pub statement-returns-in-Alloc-clause-steps : goal.statement-returns-in-Alloc-clause-steps
statement-returns-in-Alloc-clause-steps t c = c.with_plain-in-Alloc.ensures.steps c.args.stmt.now.line

pub statement-with_plain-requires-in-Dealloc-clause-region : goal.statement-with_plain-requires-in-Dealloc-clause-region
statement-with_plain-requires-in-Dealloc-clause-region t c = (ap is_region c.in-Dealloc.is ∙ region-Dealloc c.in-Dealloc.memref c.in-Dealloc.ty)

pub statement-with_plain-requires-in-Dealloc-clause-workable : goal.statement-with_plain-requires-in-Dealloc-clause-workable
statement-with_plain-requires-in-Dealloc-clause-workable t c = plain_workable c.args.stmt.now.what c.args.stmt.now.line (ranges_of c.args.ranges.now.entries) (ap is_region c.in-Dealloc.is ∙ region-Dealloc c.in-Dealloc.memref c.in-Dealloc.ty) c.requires.workable

pub statement-returns-in-Dealloc-clause-steps : goal.statement-returns-in-Dealloc-clause-steps
statement-returns-in-Dealloc-clause-steps t c = c.with_plain-in-Dealloc.ensures.steps c.args.stmt.now.line

pub statement-with_plain-requires-in-Start-clause-region : goal.statement-with_plain-requires-in-Start-clause-region
statement-with_plain-requires-in-Start-clause-region t c = (ap is_region c.in-Start.is ∙ region-Start c.in-Start.from c.in-Start.from_at c.in-Start.to c.in-Start.to_at c.in-Start.tag c.in-Start.tag_at c.in-Start.count c.in-Start.stride c.in-Start.types)

pub statement-with_plain-requires-in-Start-clause-workable : goal.statement-with_plain-requires-in-Start-clause-workable
statement-with_plain-requires-in-Start-clause-workable t c = plain_workable c.args.stmt.now.what c.args.stmt.now.line (ranges_of c.args.ranges.now.entries) (ap is_region c.in-Start.is ∙ region-Start c.in-Start.from c.in-Start.from_at c.in-Start.to c.in-Start.to_at c.in-Start.tag c.in-Start.tag_at c.in-Start.count c.in-Start.stride c.in-Start.types) c.requires.workable

pub statement-returns-in-Start-clause-steps : goal.statement-returns-in-Start-clause-steps
statement-returns-in-Start-clause-steps t c = c.with_plain-in-Start.ensures.steps c.args.stmt.now.line

pub statement-with_plain-requires-in-Wait-clause-region : goal.statement-with_plain-requires-in-Wait-clause-region
statement-with_plain-requires-in-Wait-clause-region t c = (ap is_region c.in-Wait.is ∙ region-Wait c.in-Wait.tag c.in-Wait.tag_at c.in-Wait.count c.in-Wait.ty)

pub statement-with_plain-requires-in-Wait-clause-workable : goal.statement-with_plain-requires-in-Wait-clause-workable
statement-with_plain-requires-in-Wait-clause-workable t c = plain_workable c.args.stmt.now.what c.args.stmt.now.line (ranges_of c.args.ranges.now.entries) (ap is_region c.in-Wait.is ∙ region-Wait c.in-Wait.tag c.in-Wait.tag_at c.in-Wait.count c.in-Wait.ty) c.requires.workable

pub statement-returns-in-Wait-clause-steps : goal.statement-returns-in-Wait-clause-steps
statement-returns-in-Wait-clause-steps t c = c.with_plain-in-Wait.ensures.steps c.args.stmt.now.line

pub statement-with_plain-requires-in-Return-clause-region : goal.statement-with_plain-requires-in-Return-clause-region
statement-with_plain-requires-in-Return-clause-region t c = (ap is_region c.in-Return.is ∙ region-Return)

pub statement-with_plain-requires-in-Return-clause-workable : goal.statement-with_plain-requires-in-Return-clause-workable
statement-with_plain-requires-in-Return-clause-workable t c = plain_workable c.args.stmt.now.what c.args.stmt.now.line (ranges_of c.args.ranges.now.entries) (ap is_region c.in-Return.is ∙ region-Return) c.requires.workable

pub statement-returns-in-Return-clause-steps : goal.statement-returns-in-Return-clause-steps
statement-returns-in-Return-clause-steps t c = c.with_plain-in-Return.ensures.steps c.args.stmt.now.line

pub statement-returns-in_ok-set-in-For-clause-steps : goal.statement-returns-in_ok-set-in-For-clause-steps
statement-returns-in_ok-set-in-For-clause-steps t c =
    loop_steps c.args.stmt.now.line c.in-For.var c.in-For.lower c.in-For.upper c.in-For.step c.in-For.body (ranges_of c.args.ranges.now.entries) c.args.total c.sum.result c.in_ok-inside-in-For.inside c.in_ok-entered-in-For.entered.turns c.product.result c.args.stmt.now.what (ranges_of c.set.new.ranges.entries) c.in-For.is
    (c.in_ok-entered-in-For.ensures.turns ∙ ap (turn_count (first_turn (ranges_of c.args.ranges.now.entries) c.in-For.lower) (last_end (ranges_of c.args.ranges.now.entries) c.in-For.upper)) (to_z-of_z w64 c.in-For.step (let f : SFits w64 c.in-For.step = search rules in f)))
    (c.in_ok-inside-in-For.ensures.work ∙ (λ i. saturated (0 + full_work (nest (c.as_slice.ensures i)) (c.in_ok-entered-in-For.ensures.ranges i))))
    c.product.ensures c.sum.ensures (ranges_back (ranges_of c.args.ranges.now.entries) (ranges_of c.enter_loop.new.ranges.entries) (ranges_of c.list.new.ranges.entries) (ranges_of c.set.new.ranges.entries) c.in-For.var _ (range_at c.in_ok-entered-in-For.entered.outside) c.in_ok-entered-in-For.ensures.ranges c.in_ok-inside-in-For.ensures.ranges c.in_ok-set-in-For.ensures c.in_ok-entered-in-For.ensures.outside)

pub statement-returns-in_ok-set-in-For-clause-kept : goal.statement-returns-in_ok-set-in-For-clause-kept
statement-returns-in_ok-set-in-For-clause-kept t c = ap (put_back c.args.before.now.items) (ranges_back (ranges_of c.args.ranges.now.entries) (ranges_of c.enter_loop.new.ranges.entries) (ranges_of c.list.new.ranges.entries) (ranges_of c.set.new.ranges.entries) c.in-For.var _ (range_at c.in_ok-entered-in-For.entered.outside) c.in_ok-entered-in-For.ensures.ranges c.in_ok-inside-in-For.ensures.ranges c.in_ok-set-in-For.ensures c.in_ok-entered-in-For.ensures.outside)

pub statement-returns-in-None-clause-steps : goal.statement-returns-in-None-clause-steps
statement-returns-in-None-clause-steps t c =
    if_steps c.args.stmt.now.line c.in-If.set c.in-If.operands c.in-If.first (ranges_of c.args.ranges.now.entries) c.args.total c.in_ok-total-in-If.total c.args.stmt.now.what (ranges_of c.list-in-If.new.ranges.entries)
    (c.in-If.is ∙ ap (what.If c.in-If.set c.in-If.operands c.in-If.first) c.in-None.is)
    (c.in_ok-total-in-If.ensures.work ∙ ap (λ ss. saturated (c.args.total + full_work (nest ss) (ranges_of c.args.ranges.now.entries))) c.as_slice-in-If.ensures) c.in_ok-total-in-If.ensures.ranges

pub statement-returns-in-Some-clause-steps : goal.statement-returns-in-Some-clause-steps
statement-returns-in-Some-clause-steps t c =
    if_else_ok c.args.stmt.now.line c.in-If.set c.in-If.operands c.in-If.first (ranges_of c.args.ranges.now.entries) c.list-in-Some.result c.in-Some.other c.args.total c.in_ok-total-in-If.total c.args.stmt.now.what (ranges_of c.list-in-Some.new.ranges.entries) (ranges_of c.list-in-If.new.ranges.entries)
    (c.in-If.is ∙ ap (what.If c.in-If.set c.in-If.operands c.in-If.first) c.in-Some.is)
    (c.in_ok-total-in-If.ensures.work ∙ ap (λ ss. saturated (c.args.total + full_work (nest ss) (ranges_of c.args.ranges.now.entries))) c.as_slice-in-If.ensures) c.in_ok-total-in-If.ensures.ranges
    (subst (λ ss. IfOk c.list-in-Some.result (λ next. next ≡ saturated (c.in_ok-total-in-If.total + full_work (nest ss) (ranges_of c.list-in-If.new.ranges.entries)))) c.as_slice-in-Some.ensures c.list-in-Some.ensures.work) c.list-in-Some.ensures.ranges

pub statement-returns-in-Some-clause-kept : goal.statement-returns-in-Some-clause-kept
statement-returns-in-Some-clause-kept t c = kept_region c.list-in-Some.result c.args.before.now.items (ranges_of c.args.ranges.now.entries) (ranges_of c.list-in-If.new.ranges.entries) (ranges_of c.list-in-Some.new.ranges.entries) c.in_ok-total-in-If.ensures.ranges c.list-in-Some.ensures.ranges

pub list-loop-stmt-preserved : goal.list-loop-stmt-preserved
list-loop-stmt-preserved t c = record {
  work = list_step _ c.loop-stmt.next c.in_ok-next.next c.args.stmts.now c.loop-stmt.stmt-index c.stmt-item.result (ranges_of c.loop-stmt.ranges.entries) (ranges_of c.statement.new.ranges.entries) c.loop-stmt-test.true c.stmt-item.is c.loop-stmt.invariant.work c.in_ok-next.ensures.steps;
  small = c.in_ok-next.ensures.steps.small;
  workable = list_passes c.loop-stmt.next c.in_ok-next.next c.args.stmts.now c.loop-stmt.stmt-index c.stmt-item.result (ranges_of c.loop-stmt.ranges.entries) (ranges_of c.statement.new.ranges.entries) c.loop-stmt-test.true c.stmt-item.is c.loop-stmt.invariant.workable c.in_ok-next.ensures.steps;
  kept = c.in_ok-next.ensures.kept ∙ c.loop-stmt.invariant.kept;
}

pub list-returns-clause-work : goal.list-returns-clause-work
list-returns-clause-work t c = list_end _ c.loop-stmt.next c.args.stmts.now c.loop-stmt.stmt-index (ranges_of c.loop-stmt.ranges.entries) (omega arith) c.loop-stmt.invariant.small c.loop-stmt.invariant.work
