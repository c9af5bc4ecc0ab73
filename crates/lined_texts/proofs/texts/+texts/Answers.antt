use Rattle.std.proofs.Common.{rules, arith, ◌∙◌, ap, w64, SFits}
use Rattle.std.specs.Prelude.{IfOk, Result, Ok, Err, Some, None}
use Rattle.std.proofs.lemmas.Int.{to_z-of_z}
use Rattle.affine_ast.specs.declared.stmt.What as what
use Rattle.lined_texts.proofs.Lines.{for_lined, if_lined, if_else_lined, plain_lined, lines_begin, lines_go_on, lines_end}
use Rattle.lined_texts.proofs.texts.+texts.Goals as goal

where_ok : {A E : Type 0} {P Q : A → Type 0} (r : Result A E) → ((a : A) → P a → Q a) → IfOk r P → IfOk r Q
where_ok (Ok a) so h = so a h
where_ok (Err e) so h = tt

pub lined_what-returns-in_ok-body-in-For : goal.lined_what-returns-in_ok-body-in-For
lined_what-returns-in_ok-body-in-For t c =
    let same = to_z-of_z w64 c.in-For.step (let f : SFits w64 c.in-For.step = search rules in f) in
    where_ok c.loop_over.result
    (λ made is. for_lined c.args.stmt.now.what made c.in-For.var c.in-For.lower c.in-For.upper c.in-For.step c.in-For.body c.as_slice.result.now c.in_ok-body-in-For.body
    c.in-For.is c.as_slice.ensures c.in_ok-body-in-For.ensures (is ∙ ap (λ z. what.For c.in-For.var c.in-For.lower c.in-For.upper z c.in_ok-body-in-For.body) same))
    c.loop_over.ensures

pub lined_what-returns-in-None : goal.lined_what-returns-in-None
lined_what-returns-in-None t c =
    where_ok c.condition_over.result
    (λ made is. if_lined c.args.stmt.now.what made c.in-If.set c.in-If.operands c.in-If.first c.as_slice-in-If.result.now c.in_ok-first-in-If.first
    (c.in-If.is ∙ ap (what.If c.in-If.set c.in-If.operands c.in-If.first) c.in-None.is) c.as_slice-in-If.ensures c.in_ok-first-in-If.ensures
    (is ∙ ap (λ names. what.If c.in-If.set names c.in_ok-first-in-If.first None) c.as_slice-in-None.ensures))
    c.condition_over.ensures

pub lined_what-returns-in_ok-other-in-Some : goal.lined_what-returns-in_ok-other-in-Some
lined_what-returns-in_ok-other-in-Some t c =
    where_ok c.condition_over-in-Some.result
    (λ made is. if_else_lined c.args.stmt.now.what made c.in-If.set c.in-If.operands c.in-If.first c.in-Some.other c.as_slice-in-If.result.now c.as_slice-in-Some.result.now c.in_ok-first-in-If.first c.in_ok-other-in-Some.other
    (c.in-If.is ∙ ap (what.If c.in-If.set c.in-If.operands c.in-If.first) c.in-Some.is) c.as_slice-in-If.ensures c.as_slice-in-Some.ensures c.in_ok-first-in-If.ensures c.in_ok-other-in-Some.ensures
    (is ∙ ap (λ names. what.If c.in-If.set names c.in_ok-first-in-If.first (Some c.in_ok-other-in-Some.other)) c.as_slice-in-Some-2.ensures))
    c.condition_over-in-Some.ensures

pub lined_what-returns-in_default : goal.lined_what-returns-in_default
lined_what-returns-in_default t c =
    where_ok c.copy.result (λ made is. plain_lined c.args.stmt.now.what made c.in_default.not-For c.in_default.not-If is) c.copy.ensures

pub lined_text-loop-stmt-init : goal.lined_text-loop-stmt-init
lined_text-loop-stmt-init t c = lines_begin c.args.stmts.now c.new-made.result c.new-made.ensures

pub lined_text-loop-stmt-preserved : goal.lined_text-loop-stmt-preserved
lined_text-loop-stmt-preserved t c =
    lines_go_on c.args.stmts.now c.loop-stmt.stmt-index c.stmt-item.result c.with_line.result c.in_ok-what.what c.loop-stmt.made c.push.new.self
    c.loop-stmt-test.true c.stmt-item.is c.with_line.ensures.line c.with_line.ensures.what c.in_ok-what.ensures c.in_ok-push.ensures.ok c.loop-stmt.invariant

pub lined_text-returns : goal.lined_text-returns
lined_text-returns t c = lines_end c.args.stmts.now c.loop-stmt.stmt-index c.loop-stmt.made (omega arith) c.loop-stmt.invariant
