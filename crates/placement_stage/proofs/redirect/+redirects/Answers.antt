use Rattle.std.proofs.Common.{rules, arith, ◌∙◌, ap, w64, SFits}
use Rattle.std.specs.Prelude.{IfOk, Result, Ok, Err, Some, None}
use Rattle.std.proofs.lemmas.Int.{to_z-of_z}
use Rattle.affine_ast.specs.declared.stmt.What as what
use Rattle.affine_ast.specs.Nest.{nest}
use Rattle.module_work.proofs.Weights.{lighter_statement, lighter_body, lighter_first, lighter_other}
use Rattle.placement_code.specs.Placed.{placement_of}
use Rattle.placement_stage.proofs.Redirections.{small_step, small_body, small_first_region, small_other_region, small_load, small_store, for_redirected, if_redirected, if_else_redirected, load_redirected, store_redirected, other_redirected, redirect_first, redirect_step, redirect_end}
use Rattle.placement_stage.proofs.redirect.+redirects.Goals as goal

where_ok : {A E : Type 0} {P Q : A → Type 0} (r : Result A E) → ((a : A) → P a → Q a) → IfOk r P → IfOk r Q
where_ok (Ok a) so h = so a h
where_ok (Err e) so h = tt

pub redirected-redirected_all-requires : goal.redirected-redirected_all-requires
redirected-redirected_all-requires t c = (
  lighter_body c.args.stmt.now.line c.args.stmt.now.what t c.in-For.var c.in-For.lower c.in-For.upper c.in-For.step c.in-For.body c.as_slice.result.now c.in-For.is c.as_slice.ensures c.decreases,
  (c.requires.placed, small_body c.args.stmt.now.what c.in-For.var c.in-For.lower c.in-For.upper c.in-For.step c.in-For.body c.as_slice.result.now c.in-For.is c.as_slice.ensures c.requires.constants),
)

pub redirected-redirected_all-requires-in-If : goal.redirected-redirected_all-requires-in-If
redirected-redirected_all-requires-in-If t c = (
  lighter_first c.args.stmt.now.line c.args.stmt.now.what t c.in-If.set c.in-If.operands c.in-If.first c.in-If.other c.as_slice-in-If.result.now c.in-If.is c.as_slice-in-If.ensures c.decreases,
  (c.requires.placed, small_first_region c.args.stmt.now.what c.in-If.set c.in-If.operands c.in-If.first c.in-If.other c.as_slice-in-If.result.now c.in-If.is c.as_slice-in-If.ensures c.requires.constants),
)

pub redirected-redirected_all-requires-in-Some : goal.redirected-redirected_all-requires-in-Some
redirected-redirected_all-requires-in-Some t c =
    let is = c.in-If.is ∙ ap (what.If c.in-If.set c.in-If.operands c.in-If.first) c.in-Some.is in (
      lighter_other c.args.stmt.now.line c.args.stmt.now.what t c.in-If.set c.in-If.operands c.in-If.first c.in-Some.other c.as_slice-in-Some.result.now is c.as_slice-in-Some.ensures c.decreases,
      (c.requires.placed, small_other_region c.args.stmt.now.what c.in-If.set c.in-If.operands c.in-If.first c.in-Some.other c.as_slice-in-Some.result.now is c.as_slice-in-Some.ensures c.requires.constants),
    )

pub redirected-redirected_load-requires-clause-constants : goal.redirected-redirected_load-requires-clause-constants
redirected-redirected_load-requires-clause-constants t c = small_load c.args.stmt.now.what c.in-Load.result c.in-Load.memref c.in-Load.at c.in-Load.ty c.in-Load.is c.requires.constants

pub redirected-redirected_store-requires-clause-constants : goal.redirected-redirected_store-requires-clause-constants
redirected-redirected_store-requires-clause-constants t c = small_store c.args.stmt.now.what c.in-Store.value c.in-Store.memref c.in-Store.at c.in-Store.ty c.in-Store.is c.requires.constants

pub redirected-returns-in_ok-body-in-For : goal.redirected-returns-in_ok-body-in-For
redirected-returns-in_ok-body-in-For t c =
    let same = to_z-of_z w64 c.in-For.step (let f : SFits w64 c.in-For.step = search rules in f) in
    where_ok c.loop_over.result
    (λ made is. for_redirected (placement_of c.args.placed.now) c.args.stmt.now.what made c.in-For.var c.in-For.lower c.in-For.upper c.in-For.step c.in-For.body c.as_slice.result.now c.in_ok-body-in-For.body
    c.in-For.is c.as_slice.ensures c.in_ok-body-in-For.ensures (is ∙ ap (λ z. what.For c.in-For.var c.in-For.lower c.in-For.upper z c.in_ok-body-in-For.body) same))
    c.loop_over.ensures

pub redirected-returns-in-None : goal.redirected-returns-in-None
redirected-returns-in-None t c =
    where_ok c.condition_over.result
    (λ made is. if_redirected (placement_of c.args.placed.now) c.args.stmt.now.what made c.in-If.set c.in-If.operands c.in-If.first c.as_slice-in-If.result.now c.in_ok-first-in-If.first
    (c.in-If.is ∙ ap (what.If c.in-If.set c.in-If.operands c.in-If.first) c.in-None.is) c.as_slice-in-If.ensures c.in_ok-first-in-If.ensures
    (is ∙ ap (λ names. what.If c.in-If.set names c.in_ok-first-in-If.first None) c.as_slice-in-None.ensures))
    c.condition_over.ensures

pub redirected-returns-in_ok-other-in-Some : goal.redirected-returns-in_ok-other-in-Some
redirected-returns-in_ok-other-in-Some t c =
    where_ok c.condition_over-in-Some.result
    (λ made is. if_else_redirected (placement_of c.args.placed.now) c.args.stmt.now.what made c.in-If.set c.in-If.operands c.in-If.first c.in-Some.other c.as_slice-in-If.result.now c.as_slice-in-Some.result.now c.in_ok-first-in-If.first c.in_ok-other-in-Some.other
    (c.in-If.is ∙ ap (what.If c.in-If.set c.in-If.operands c.in-If.first) c.in-Some.is) c.as_slice-in-If.ensures c.as_slice-in-Some.ensures c.in_ok-first-in-If.ensures c.in_ok-other-in-Some.ensures
    (is ∙ ap (λ names. what.If c.in-If.set names c.in_ok-first-in-If.first (Some c.in_ok-other-in-Some.other)) c.as_slice-in-Some-2.ensures))
    c.condition_over-in-Some.ensures

pub redirected-returns-in-Load : goal.redirected-returns-in-Load
redirected-returns-in-Load t c =
    where_ok c.redirected_load.result
    (λ made is. load_redirected (placement_of c.args.placed.now) c.args.stmt.now.what made c.in-Load.result c.in-Load.memref c.in-Load.at c.in-Load.ty c.in-Load.is is)
    c.redirected_load.ensures

pub redirected-returns-in-Store : goal.redirected-returns-in-Store
redirected-returns-in-Store t c =
    where_ok c.redirected_store.result
    (λ made is. store_redirected (placement_of c.args.placed.now) c.args.stmt.now.what made c.in-Store.value c.in-Store.memref c.in-Store.at c.in-Store.ty c.in-Store.is is)
    c.redirected_store.ensures

pub redirected-returns-in_default : goal.redirected-returns-in_default
redirected-returns-in_default t c =
    where_ok c.copy.result
    (λ made is. other_redirected (placement_of c.args.placed.now) c.args.stmt.now.what made c.in_default.not-For c.in_default.not-If c.in_default.not-Load c.in_default.not-Store is)
    c.copy.ensures

pub redirected_all-loop-stmt-init : goal.redirected_all-loop-stmt-init
redirected_all-loop-stmt-init t c = record {
  same = redirect_first (placement_of c.args.placed.now) c.new-made.result (nest c.args.stmts.now) c.new-made.ensures;
  small = c.requires.constants;
}

pub redirected_all-redirected-requires : goal.redirected_all-redirected-requires
redirected_all-redirected-requires t c = (
  lighter_statement c.args.stmts.now c.loop-stmt.stmt-index c.stmt-item.result t c.loop-stmt-test.true c.stmt-item.is c.decreases,
  (c.requires.placed, (small_step c.args.stmts.now c.loop-stmt.stmt-index c.stmt-item.result c.loop-stmt-test.true c.stmt-item.is c.loop-stmt.invariant.small).0),
)

pub redirected_all-loop-stmt-preserved : goal.redirected_all-loop-stmt-preserved
redirected_all-loop-stmt-preserved t c = record {
  same =
      redirect_step (placement_of c.args.placed.now) c.args.stmts.now c.loop-stmt.stmt-index c.stmt-item.result c.with_line.result c.in_ok-what.what c.loop-stmt.made c.push.new.self _
      c.loop-stmt-test.true c.stmt-item.is c.with_line.ensures.line c.with_line.ensures.what c.in_ok-what.ensures c.in_ok-push.ensures.ok c.loop-stmt.invariant.same;
  small = (small_step c.args.stmts.now c.loop-stmt.stmt-index c.stmt-item.result c.loop-stmt-test.true c.stmt-item.is c.loop-stmt.invariant.small).1;
}

pub redirected_all-returns : goal.redirected_all-returns
redirected_all-returns t c = redirect_end (placement_of c.args.placed.now) c.args.stmts.now c.loop-stmt.stmt-index c.loop-stmt.made _ (omega arith) c.loop-stmt.invariant.same
