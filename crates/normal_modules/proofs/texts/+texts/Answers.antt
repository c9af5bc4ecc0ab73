use Rattle.std.proofs.Common.{rules, arith, ◌∙◌, ap, w64, SFits}
use Rattle.std.specs.Prelude.{IfOk, Result, Ok, Err, Some, None}
use Rattle.std.proofs.lemmas.Int.{to_z-of_z}
use Rattle.affine_ast.specs.declared.stmt.What as what
use Rattle.affine_ast.specs.Nest.{nest}
use Rattle.module_work.proofs.Weights.{lighter_statement, lighter_body, lighter_first, lighter_other}
use Rattle.normal_modules.proofs.Changes.{for_changed, if_changed, if_else_changed, load_changed, store_changed, start_changed, wait_changed, other_changed, change_first, change_step, change_end}
use Rattle.normal_modules.proofs.texts.+texts.Goals as goal

where_ok : {A E : Type 0} {P Q : A → Type 0} (r : Result A E) → ((a : A) → P a → Q a) → IfOk r P → IfOk r Q
where_ok (Ok a) so h = so a h
where_ok (Err e) so h = tt

pub normal_what-normal_all-requires : goal.normal_what-normal_all-requires
normal_what-normal_all-requires t c = (lighter_body c.args.stmt.now.line c.args.stmt.now.what t c.in-For.var c.in-For.lower c.in-For.upper c.in-For.step c.in-For.body c.as_slice.result.now c.in-For.is c.as_slice.ensures c.decreases, tt)

pub normal_what-normal_all-requires-in-If : goal.normal_what-normal_all-requires-in-If
normal_what-normal_all-requires-in-If t c = (lighter_first c.args.stmt.now.line c.args.stmt.now.what t c.in-If.set c.in-If.operands c.in-If.first c.in-If.other c.as_slice-in-If.result.now c.in-If.is c.as_slice-in-If.ensures c.decreases, tt)

pub normal_what-normal_all-requires-in-Some : goal.normal_what-normal_all-requires-in-Some
normal_what-normal_all-requires-in-Some t c = (
  lighter_other c.args.stmt.now.line c.args.stmt.now.what t c.in-If.set c.in-If.operands c.in-If.first c.in-Some.other c.as_slice-in-Some.result.now
      (c.in-If.is ∙ ap (what.If c.in-If.set c.in-If.operands c.in-If.first) c.in-Some.is) c.as_slice-in-Some.ensures c.decreases,
  tt,
)

pub normal_what-returns-in_ok-body-in-For : goal.normal_what-returns-in_ok-body-in-For
normal_what-returns-in_ok-body-in-For t c =
    let same = to_z-of_z w64 c.in-For.step (let f : SFits w64 c.in-For.step = search rules in f) in
    where_ok c.loop_over.result
    (λ made is. for_changed c.args.stmt.now.what made c.in-For.var c.in-For.lower c.in-For.upper c.in-For.step c.in-For.body c.as_slice.result.now c.in_ok-body-in-For.body
    c.in-For.is c.as_slice.ensures c.in_ok-body-in-For.ensures (is ∙ ap (λ z. what.For c.in-For.var c.in-For.lower c.in-For.upper z c.in_ok-body-in-For.body) same))
    c.loop_over.ensures

pub normal_what-returns-in-None : goal.normal_what-returns-in-None
normal_what-returns-in-None t c =
    where_ok c.condition_over.result
    (λ made is. if_changed c.args.stmt.now.what made c.in-If.set c.in-If.operands c.in-If.first c.as_slice-in-If.result.now c.in_ok-first-in-If.first
    (c.in-If.is ∙ ap (what.If c.in-If.set c.in-If.operands c.in-If.first) c.in-None.is) c.as_slice-in-If.ensures c.in_ok-first-in-If.ensures
    (is ∙ ap (λ names. what.If c.in-If.set names c.in_ok-first-in-If.first None) c.as_slice-in-None.ensures))
    c.condition_over.ensures

pub normal_what-returns-in_ok-other-in-Some : goal.normal_what-returns-in_ok-other-in-Some
normal_what-returns-in_ok-other-in-Some t c =
    where_ok c.condition_over-in-Some.result
    (λ made is. if_else_changed c.args.stmt.now.what made c.in-If.set c.in-If.operands c.in-If.first c.in-Some.other c.as_slice-in-If.result.now c.as_slice-in-Some.result.now c.in_ok-first-in-If.first c.in_ok-other-in-Some.other
    (c.in-If.is ∙ ap (what.If c.in-If.set c.in-If.operands c.in-If.first) c.in-Some.is) c.as_slice-in-If.ensures c.as_slice-in-Some.ensures c.in_ok-first-in-If.ensures c.in_ok-other-in-Some.ensures
    (is ∙ ap (λ names. what.If c.in-If.set names c.in_ok-first-in-If.first (Some c.in_ok-other-in-Some.other)) c.as_slice-in-Some-2.ensures))
    c.condition_over-in-Some.ensures

pub normal_what-returns-in-Load : goal.normal_what-returns-in-Load
normal_what-returns-in-Load t c = where_ok c.normal_load.result (λ made is. load_changed c.args.stmt.now.what made c.in-Load.result c.in-Load.memref c.in-Load.at c.in-Load.ty c.in-Load.is is) c.normal_load.ensures

pub normal_what-returns-in-Store : goal.normal_what-returns-in-Store
normal_what-returns-in-Store t c = where_ok c.normal_store.result (λ made is. store_changed c.args.stmt.now.what made c.in-Store.value c.in-Store.memref c.in-Store.at c.in-Store.ty c.in-Store.is is) c.normal_store.ensures

pub normal_what-returns-in-Start : goal.normal_what-returns-in-Start
normal_what-returns-in-Start t c = where_ok c.normal_start.result (λ made is. start_changed c.args.stmt.now.what made c.in-Start.from c.in-Start.from_at c.in-Start.to c.in-Start.to_at c.in-Start.tag c.in-Start.tag_at c.in-Start.count c.in-Start.stride c.in-Start.types c.in-Start.is is) c.normal_start.ensures

pub normal_what-returns-in-Wait : goal.normal_what-returns-in-Wait
normal_what-returns-in-Wait t c = where_ok c.normal_wait.result (λ made is. wait_changed c.args.stmt.now.what made c.in-Wait.tag c.in-Wait.tag_at c.in-Wait.count c.in-Wait.ty c.in-Wait.is is) c.normal_wait.ensures

pub normal_what-returns-in_default : goal.normal_what-returns-in_default
normal_what-returns-in_default t c =
    where_ok c.copy.result
    (λ made is. other_changed c.args.stmt.now.what c.in_default.not-Load c.in_default.not-Store c.in_default.not-Start c.in_default.not-Wait made c.in_default.not-For c.in_default.not-If is)
    c.copy.ensures

pub normal_all-loop-stmt-init : goal.normal_all-loop-stmt-init
normal_all-loop-stmt-init t c = change_first c.new-made.result (nest c.args.stmts.now) c.new-made.ensures

pub normal_all-normal_what-requires : goal.normal_all-normal_what-requires
normal_all-normal_what-requires t c = (lighter_statement c.args.stmts.now c.loop-stmt.stmt-index c.stmt-item.result t c.loop-stmt-test.true c.stmt-item.is c.decreases, tt)

pub normal_all-loop-stmt-preserved : goal.normal_all-loop-stmt-preserved
normal_all-loop-stmt-preserved t c =
    change_step c.args.stmts.now c.loop-stmt.stmt-index c.stmt-item.result c.with_line.result c.in_ok-what.what c.loop-stmt.made c.push.new.self _
    c.loop-stmt-test.true c.stmt-item.is c.with_line.ensures.line c.with_line.ensures.what c.in_ok-what.ensures c.in_ok-push.ensures.ok c.loop-stmt.invariant

pub normal_all-returns : goal.normal_all-returns
normal_all-returns t c = change_end c.args.stmts.now c.loop-stmt.stmt-index c.loop-stmt.made _ (omega arith) c.loop-stmt.invariant
