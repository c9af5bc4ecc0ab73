use Rattle.std.proofs.Common.{get_or, ◌∙◌, ap, sym, take, length, arith, rules, w64, SFits}
use Rattle.std.proofs.lemmas.Int.{to_z-of_z}
use Rattle.affine_ast.specs.declared.stmt.What as what
use Rattle.affine_ast.specs.Nest.{nest}
use Rattle.affine_ast.specs.Validity.{judged, rule_of_condition, told, then_told}
use Rattle.affine_ast.specs.Scope.{in_condition}
use Rattle.affine_rules.specs.Scoped.{around_of}
use Rattle.affine_verify.proofs.Walks.{prefix, behind_first, extends_both, loop_before, loop_inside, loop_ends, condition_before, first_before, first_ends, condition_ends, second_before, second_ends, around_behind, list_step, list_end, on_ok, entered_ok, comes_ok, steps_ok, head_refused, region_refused, list_refused}
use Rattle.affine_verify.proofs.Released.{each_at, each_length}
use Rattle.affine_verify.proofs.walk.+walk.Goals as goal

pub list-returns-then-is_err-clause-told : goal.list-returns-then-is_err-clause-told
list-returns-then-is_err-clause-told t c =
    let e = each_at c.args.stmts.now c.loop-place.place c.index-stmts-place.result c.index.result.now (omega arith) c.index-stmts-place.is (c.index.ensures ∙ ap (λ bs. get_or bs c.loop-place.place c.index.result.now) c.in_ok-once.ensures) in
    list_refused c.step-stepped.result _ _ _ _ (sym c.is_err.ensures.value ∙ c.if-is_err.true) (c.loop-place.invariant.told ∙ list_step c.args.stmts.now c.loop-place.place c.index-stmts-place.result (around_of c.loop-place.scoped) (omega arith) c.index-stmts-place.is) (c.step-stepped.ensures.told _ e)

pub list-index-requires : goal.list-index-requires
list-index-requires t c = omega (arith, ap length c.in_ok-once.ensures, each_length c.args.stmts.now)

pub list-loop-place-preserved : goal.list-loop-place-preserved
list-loop-place-preserved t c =
    let e = each_at c.args.stmts.now c.loop-place.place c.index-stmts-place.result c.index.result.now (omega arith) c.index-stmts-place.is (c.index.ensures ∙ ap (λ bs. get_or bs c.loop-place.place c.index.result.now) c.in_ok-once.ensures) in
    record {
      told = c.loop-place.invariant.told ∙ list_step c.args.stmts.now c.loop-place.place c.index-stmts-place.result (around_of c.loop-place.scoped) (omega arith) c.index-stmts-place.is ∙ steps_ok c.step-stepped.result _ _ (sym c.is_err.ensures.value ∙ c.if-is_err.false) (c.step-stepped.ensures.told _ e);
      kept = extends_both c.args.scoped.now c.loop-place.scoped c.step-stepped.new.scoped c.loop-place.invariant.kept (on_ok c.step-stepped.result (sym c.is_err.ensures.value ∙ c.if-is_err.false) (c.step-stepped.ensures.kept _ e));
      small = on_ok c.step-stepped.result (sym c.is_err.ensures.value ∙ c.if-is_err.false) (c.step-stepped.ensures.small _ e);
    }

pub list-returns-clause-told : goal.list-returns-clause-told
list-returns-clause-told t c = c.loop-place.invariant.told ∙ list_end c.args.stmts.now c.loop-place.place (around_of c.loop-place.scoped) (omega arith)

pub step-returns-then-is_err-clause-told : goal.step-returns-then-is_err-clause-told
step-returns-then-is_err-clause-told t c = λ rest e. head_refused c.enter_loop-entered.result c.args.stmt.now.line _ _ c.count.new.scoped c.enter_loop-entered.new.scoped _ _ _ (sym c.is_err.ensures.value ∙ c.if-is_err.true) c.enter_loop-entered.ensures.entered (loop_before c.args.stmt.now.what c.args.stmt.now.line rest c.args.scoped.now c.count.new.scoped c.count.ensures.around c.in-For.var c.in-For.lower c.in-For.upper _ c.in-For.body (c.in-For.is ∙ ap (λ z. what.For c.in-For.var c.in-For.lower c.in-For.upper z c.in-For.body) (sym (to_z-of_z w64 c.in-For.step (let f : SFits w64 c.in-For.step = search rules in f)))))

pub step-returns-then-is_err-2-clause-told : goal.step-returns-then-is_err-2-clause-told
step-returns-then-is_err-2-clause-told t c = λ rest e. region_refused c.list-walked.result _ _ _ _ _ (sym c.is_err-in-For.ensures.value ∙ c.if-is_err-2.true) c.list-walked.ensures.told (loop_inside c.args.stmt.now.what c.args.stmt.now.line rest c.args.scoped.now c.count.new.scoped c.count.ensures.around c.in-For.var c.in-For.lower c.in-For.upper _ c.in-For.body c.as_slice.result.now c.enter_loop-entered.new.scoped (c.in-For.is ∙ ap (λ z. what.For c.in-For.var c.in-For.lower c.in-For.upper z c.in-For.body) (sym (to_z-of_z w64 c.in-For.step (let f : SFits w64 c.in-For.step = search rules in f)))) c.as_slice.ensures (entered_ok c.enter_loop-entered.result c.args.stmt.now.line _ _ c.count.new.scoped c.enter_loop-entered.new.scoped (sym c.is_err.ensures.value ∙ c.if-is_err.false) c.enter_loop-entered.ensures.entered).0 (entered_ok c.enter_loop-entered.result c.args.stmt.now.line _ _ c.count.new.scoped c.enter_loop-entered.new.scoped (sym c.is_err.ensures.value ∙ c.if-is_err.false) c.enter_loop-entered.ensures.entered).1)

pub step-returns-else-is_err-2-clause-told : goal.step-returns-else-is_err-2-clause-told
step-returns-else-is_err-2-clause-told t c = λ rest e.
    loop_ends c.args.stmt.now.what c.args.stmt.now.line rest c.args.scoped.now c.count.new.scoped c.count.ensures.around c.in-For.var c.in-For.lower c.in-For.upper _ c.in-For.body c.as_slice.result.now c.enter_loop-entered.new.scoped c.leave.new.scoped _ (c.in-For.is ∙ ap (λ z. what.For c.in-For.var c.in-For.lower c.in-For.upper z c.in-For.body) (sym (to_z-of_z w64 c.in-For.step (let f : SFits w64 c.in-For.step = search rules in f)))) c.as_slice.ensures (entered_ok c.enter_loop-entered.result c.args.stmt.now.line _ _ c.count.new.scoped c.enter_loop-entered.new.scoped (sym c.is_err.ensures.value ∙ c.if-is_err.false) c.enter_loop-entered.ensures.entered).0 (entered_ok c.enter_loop-entered.result c.args.stmt.now.line _ _ c.count.new.scoped c.enter_loop-entered.new.scoped (sym c.is_err.ensures.value ∙ c.if-is_err.false) c.enter_loop-entered.ensures.entered).1
    (comes_ok c.list-walked.result _ _ (sym c.is_err-in-For.ensures.value ∙ c.if-is_err-2.false) c.list-walked.ensures.told)
    (around_behind c.args.scoped.now c.list-walked.new.scoped c.leave.new.scoped c.list-walked.new.scoped.totals (prefix c.args.scoped.now.names.entries c.enter_loop-entered.new.scoped.names.entries c.list-walked.new.scoped.names.entries (prefix c.args.scoped.now.names.entries c.count.new.scoped.names.entries c.enter_loop-entered.new.scoped.names.entries c.count.ensures.kept.names (entered_ok c.enter_loop-entered.result c.args.stmt.now.line _ _ c.count.new.scoped c.enter_loop-entered.new.scoped (sym c.is_err.ensures.value ∙ c.if-is_err.false) c.enter_loop-entered.ensures.entered).2) (on_ok c.list-walked.result (sym c.is_err-in-For.ensures.value ∙ c.if-is_err-2.false) c.list-walked.ensures.kept).names) (prefix c.args.scoped.now.released.keys c.enter_loop-entered.new.scoped.released.keys c.list-walked.new.scoped.released.keys (prefix c.args.scoped.now.released.keys c.count.new.scoped.released.keys c.enter_loop-entered.new.scoped.released.keys c.count.ensures.kept.released (entered_ok c.enter_loop-entered.result c.args.stmt.now.line _ _ c.count.new.scoped c.enter_loop-entered.new.scoped (sym c.is_err.ensures.value ∙ c.if-is_err.false) c.enter_loop-entered.ensures.entered).3) (on_ok c.list-walked.result (sym c.is_err-in-For.ensures.value ∙ c.if-is_err-2.false) c.list-walked.ensures.kept).released) (c.leave.ensures.names ∙ ap (λ k. take k c.list-walked.new.scoped.names.entries) c.mark_of-outside.ensures.names) (c.leave.ensures.released ∙ ap (λ k. take k c.list-walked.new.scoped.released.keys) c.mark_of-outside.ensures.released) (c.leave.ensures.loops ∙ c.mark_of-outside.ensures.loops) (c.leave.ensures.ifs ∙ c.mark_of-outside.ensures.ifs) c.leave.ensures.totals)

pub step-returns-then-is_err-3-clause-told : goal.step-returns-then-is_err-3-clause-told
step-returns-then-is_err-3-clause-told t c = λ rest e. head_refused c.enter_condition-met.result c.args.stmt.now.line _ _ c.count-in-If.new.scoped c.enter_condition-met.new.scoped _ _ _ (sym c.is_err-in-If.ensures.value ∙ c.if-is_err-3.true) c.enter_condition-met.ensures.entered
    (condition_before c.args.stmt.now.what c.args.stmt.now.line rest c.args.scoped.now c.count-in-If.new.scoped c.count-in-If.ensures.around c.in-If.set c.in-If.operands c.in-If.first c.in-If.other c.in-If.is ∙ ap (λ ns. judged c.args.stmt.now.line (rule_of_condition (around_of c.count-in-If.new.scoped) c.in-If.set ns) (then_told (told (nest c.in-If.first) (in_condition (around_of c.count-in-If.new.scoped))) (behind_first c.args.stmt.now.what c.args.stmt.now.line rest c.args.scoped.now c.count-in-If.new.scoped c.count-in-If.ensures.around c.in-If.other))) (sym c.as_slice-in-If.ensures))

pub step-returns-then-is_err-4-clause-told : goal.step-returns-then-is_err-4-clause-told
step-returns-then-is_err-4-clause-told t c = λ rest e. region_refused c.list-first_walked.result _ _ _ _ _ (sym c.is_err-in-If-2.ensures.value ∙ c.if-is_err-4.true) c.list-first_walked.ensures.told (first_before c.args.stmt.now.what c.args.stmt.now.line rest c.args.scoped.now c.count-in-If.new.scoped c.count-in-If.ensures.around c.in-If.set c.in-If.operands c.as_slice-in-If.result.now c.in-If.first c.as_slice-in-If-2.result.now c.in-If.other c.enter_condition-met.new.scoped c.in-If.is c.as_slice-in-If.ensures c.as_slice-in-If-2.ensures (entered_ok c.enter_condition-met.result c.args.stmt.now.line _ _ c.count-in-If.new.scoped c.enter_condition-met.new.scoped (sym c.is_err-in-If.ensures.value ∙ c.if-is_err-3.false) c.enter_condition-met.ensures.entered).0 (entered_ok c.enter_condition-met.result c.args.stmt.now.line _ _ c.count-in-If.new.scoped c.enter_condition-met.new.scoped (sym c.is_err-in-If.ensures.value ∙ c.if-is_err-3.false) c.enter_condition-met.ensures.entered).1)

pub step-returns-in-None-clause-told : goal.step-returns-in-None-clause-told
step-returns-in-None-clause-told t c = λ rest e.
    condition_ends c.args.stmt.now.what c.args.stmt.now.line rest c.args.scoped.now c.count-in-If.new.scoped c.count-in-If.ensures.around c.in-If.other _ c.leave-in-None.new.scoped c.in-None.is (first_ends c.args.stmt.now.what c.args.stmt.now.line rest c.args.scoped.now c.count-in-If.new.scoped c.count-in-If.ensures.around _ c.in-If.other _ (first_before c.args.stmt.now.what c.args.stmt.now.line rest c.args.scoped.now c.count-in-If.new.scoped c.count-in-If.ensures.around c.in-If.set c.in-If.operands c.as_slice-in-If.result.now c.in-If.first c.as_slice-in-If-2.result.now c.in-If.other c.enter_condition-met.new.scoped c.in-If.is c.as_slice-in-If.ensures c.as_slice-in-If-2.ensures (entered_ok c.enter_condition-met.result c.args.stmt.now.line _ _ c.count-in-If.new.scoped c.enter_condition-met.new.scoped (sym c.is_err-in-If.ensures.value ∙ c.if-is_err-3.false) c.enter_condition-met.ensures.entered).0 (entered_ok c.enter_condition-met.result c.args.stmt.now.line _ _ c.count-in-If.new.scoped c.enter_condition-met.new.scoped (sym c.is_err-in-If.ensures.value ∙ c.if-is_err-3.false) c.enter_condition-met.ensures.entered).1) (comes_ok c.list-first_walked.result _ _ (sym c.is_err-in-If-2.ensures.value ∙ c.if-is_err-4.false) c.list-first_walked.ensures.told))
    (around_behind c.args.scoped.now c.leave-in-If.new.scoped c.leave-in-None.new.scoped c.list-first_walked.new.scoped.totals (ap (take (length c.args.scoped.now.names.entries)) ((c.leave-in-If.ensures.names ∙ ap (λ k. take k c.list-first_walked.new.scoped.names.entries) c.mark_of-inside.ensures.names) ∙ (on_ok c.list-first_walked.result (sym c.is_err-in-If-2.ensures.value ∙ c.if-is_err-4.false) c.list-first_walked.ensures.kept).names) ∙ (prefix c.args.scoped.now.names.entries c.count-in-If.new.scoped.names.entries c.enter_condition-met.new.scoped.names.entries c.count-in-If.ensures.kept.names (entered_ok c.enter_condition-met.result c.args.stmt.now.line _ _ c.count-in-If.new.scoped c.enter_condition-met.new.scoped (sym c.is_err-in-If.ensures.value ∙ c.if-is_err-3.false) c.enter_condition-met.ensures.entered).2)) (ap (take (length c.args.scoped.now.released.keys)) ((c.leave-in-If.ensures.released ∙ ap (λ k. take k c.list-first_walked.new.scoped.released.keys) c.mark_of-inside.ensures.released) ∙ (on_ok c.list-first_walked.result (sym c.is_err-in-If-2.ensures.value ∙ c.if-is_err-4.false) c.list-first_walked.ensures.kept).released) ∙ (prefix c.args.scoped.now.released.keys c.count-in-If.new.scoped.released.keys c.enter_condition-met.new.scoped.released.keys c.count-in-If.ensures.kept.released (entered_ok c.enter_condition-met.result c.args.stmt.now.line _ _ c.count-in-If.new.scoped c.enter_condition-met.new.scoped (sym c.is_err-in-If.ensures.value ∙ c.if-is_err-3.false) c.enter_condition-met.ensures.entered).3)) (c.leave-in-None.ensures.names ∙ ap (λ k. take k c.leave-in-If.new.scoped.names.entries) c.mark_of-around.ensures.names) (c.leave-in-None.ensures.released ∙ ap (λ k. take k c.leave-in-If.new.scoped.released.keys) c.mark_of-around.ensures.released) (c.leave-in-None.ensures.loops ∙ c.mark_of-around.ensures.loops) (c.leave-in-None.ensures.ifs ∙ c.mark_of-around.ensures.ifs) (c.leave-in-None.ensures.totals ∙ c.leave-in-If.ensures.totals))

pub step-returns-then-is_err-5-clause-told : goal.step-returns-then-is_err-5-clause-told
step-returns-then-is_err-5-clause-told t c = λ rest e. region_refused c.list-other_walked.result _ _ _ _ _ (sym c.is_err-in-Some.ensures.value ∙ c.if-is_err-5.true) c.list-other_walked.ensures.told
    (second_before c.args.stmt.now.what c.args.stmt.now.line rest c.args.scoped.now c.count-in-If.new.scoped c.count-in-If.ensures.around c.in-If.other c.in-Some.other c.as_slice-in-Some.result.now _ c.enter_condition-met.new.scoped c.leave-in-If.new.scoped c.in-Some.is c.as_slice-in-Some.ensures (first_ends c.args.stmt.now.what c.args.stmt.now.line rest c.args.scoped.now c.count-in-If.new.scoped c.count-in-If.ensures.around _ c.in-If.other _ (first_before c.args.stmt.now.what c.args.stmt.now.line rest c.args.scoped.now c.count-in-If.new.scoped c.count-in-If.ensures.around c.in-If.set c.in-If.operands c.as_slice-in-If.result.now c.in-If.first c.as_slice-in-If-2.result.now c.in-If.other c.enter_condition-met.new.scoped c.in-If.is c.as_slice-in-If.ensures c.as_slice-in-If-2.ensures (entered_ok c.enter_condition-met.result c.args.stmt.now.line _ _ c.count-in-If.new.scoped c.enter_condition-met.new.scoped (sym c.is_err-in-If.ensures.value ∙ c.if-is_err-3.false) c.enter_condition-met.ensures.entered).0 (entered_ok c.enter_condition-met.result c.args.stmt.now.line _ _ c.count-in-If.new.scoped c.enter_condition-met.new.scoped (sym c.is_err-in-If.ensures.value ∙ c.if-is_err-3.false) c.enter_condition-met.ensures.entered).1) (comes_ok c.list-first_walked.result _ _ (sym c.is_err-in-If-2.ensures.value ∙ c.if-is_err-4.false) c.list-first_walked.ensures.told)) (entered_ok c.enter_condition-met.result c.args.stmt.now.line _ _ c.count-in-If.new.scoped c.enter_condition-met.new.scoped (sym c.is_err-in-If.ensures.value ∙ c.if-is_err-3.false) c.enter_condition-met.ensures.entered).1 (around_behind c.enter_condition-met.new.scoped c.list-first_walked.new.scoped c.leave-in-If.new.scoped c.list-first_walked.new.scoped.totals (on_ok c.list-first_walked.result (sym c.is_err-in-If-2.ensures.value ∙ c.if-is_err-4.false) c.list-first_walked.ensures.kept).names (on_ok c.list-first_walked.result (sym c.is_err-in-If-2.ensures.value ∙ c.if-is_err-4.false) c.list-first_walked.ensures.kept).released (c.leave-in-If.ensures.names ∙ ap (λ k. take k c.list-first_walked.new.scoped.names.entries) c.mark_of-inside.ensures.names) (c.leave-in-If.ensures.released ∙ ap (λ k. take k c.list-first_walked.new.scoped.released.keys) c.mark_of-inside.ensures.released) (c.leave-in-If.ensures.loops ∙ c.mark_of-inside.ensures.loops) (c.leave-in-If.ensures.ifs ∙ c.mark_of-inside.ensures.ifs) c.leave-in-If.ensures.totals))

pub step-returns-else-is_err-5-clause-told : goal.step-returns-else-is_err-5-clause-told
step-returns-else-is_err-5-clause-told t c = λ rest e.
    second_ends c.args.stmt.now.what c.args.stmt.now.line rest c.args.scoped.now c.count-in-If.new.scoped c.count-in-If.ensures.around _ _ c.leave-in-Some.new.scoped
    (second_before c.args.stmt.now.what c.args.stmt.now.line rest c.args.scoped.now c.count-in-If.new.scoped c.count-in-If.ensures.around c.in-If.other c.in-Some.other c.as_slice-in-Some.result.now _ c.enter_condition-met.new.scoped c.leave-in-If.new.scoped c.in-Some.is c.as_slice-in-Some.ensures (first_ends c.args.stmt.now.what c.args.stmt.now.line rest c.args.scoped.now c.count-in-If.new.scoped c.count-in-If.ensures.around _ c.in-If.other _ (first_before c.args.stmt.now.what c.args.stmt.now.line rest c.args.scoped.now c.count-in-If.new.scoped c.count-in-If.ensures.around c.in-If.set c.in-If.operands c.as_slice-in-If.result.now c.in-If.first c.as_slice-in-If-2.result.now c.in-If.other c.enter_condition-met.new.scoped c.in-If.is c.as_slice-in-If.ensures c.as_slice-in-If-2.ensures (entered_ok c.enter_condition-met.result c.args.stmt.now.line _ _ c.count-in-If.new.scoped c.enter_condition-met.new.scoped (sym c.is_err-in-If.ensures.value ∙ c.if-is_err-3.false) c.enter_condition-met.ensures.entered).0 (entered_ok c.enter_condition-met.result c.args.stmt.now.line _ _ c.count-in-If.new.scoped c.enter_condition-met.new.scoped (sym c.is_err-in-If.ensures.value ∙ c.if-is_err-3.false) c.enter_condition-met.ensures.entered).1) (comes_ok c.list-first_walked.result _ _ (sym c.is_err-in-If-2.ensures.value ∙ c.if-is_err-4.false) c.list-first_walked.ensures.told)) (entered_ok c.enter_condition-met.result c.args.stmt.now.line _ _ c.count-in-If.new.scoped c.enter_condition-met.new.scoped (sym c.is_err-in-If.ensures.value ∙ c.if-is_err-3.false) c.enter_condition-met.ensures.entered).1 (around_behind c.enter_condition-met.new.scoped c.list-first_walked.new.scoped c.leave-in-If.new.scoped c.list-first_walked.new.scoped.totals (on_ok c.list-first_walked.result (sym c.is_err-in-If-2.ensures.value ∙ c.if-is_err-4.false) c.list-first_walked.ensures.kept).names (on_ok c.list-first_walked.result (sym c.is_err-in-If-2.ensures.value ∙ c.if-is_err-4.false) c.list-first_walked.ensures.kept).released (c.leave-in-If.ensures.names ∙ ap (λ k. take k c.list-first_walked.new.scoped.names.entries) c.mark_of-inside.ensures.names) (c.leave-in-If.ensures.released ∙ ap (λ k. take k c.list-first_walked.new.scoped.released.keys) c.mark_of-inside.ensures.released) (c.leave-in-If.ensures.loops ∙ c.mark_of-inside.ensures.loops) (c.leave-in-If.ensures.ifs ∙ c.mark_of-inside.ensures.ifs) c.leave-in-If.ensures.totals))
    (comes_ok c.list-other_walked.result _ _ (sym c.is_err-in-Some.ensures.value ∙ c.if-is_err-5.false) c.list-other_walked.ensures.told)
    (around_behind c.args.scoped.now c.list-other_walked.new.scoped c.leave-in-Some.new.scoped c.list-other_walked.new.scoped.totals (prefix c.args.scoped.now.names.entries c.leave-in-If.new.scoped.names.entries c.list-other_walked.new.scoped.names.entries (ap (take (length c.args.scoped.now.names.entries)) ((c.leave-in-If.ensures.names ∙ ap (λ k. take k c.list-first_walked.new.scoped.names.entries) c.mark_of-inside.ensures.names) ∙ (on_ok c.list-first_walked.result (sym c.is_err-in-If-2.ensures.value ∙ c.if-is_err-4.false) c.list-first_walked.ensures.kept).names) ∙ (prefix c.args.scoped.now.names.entries c.count-in-If.new.scoped.names.entries c.enter_condition-met.new.scoped.names.entries c.count-in-If.ensures.kept.names (entered_ok c.enter_condition-met.result c.args.stmt.now.line _ _ c.count-in-If.new.scoped c.enter_condition-met.new.scoped (sym c.is_err-in-If.ensures.value ∙ c.if-is_err-3.false) c.enter_condition-met.ensures.entered).2)) (on_ok c.list-other_walked.result (sym c.is_err-in-Some.ensures.value ∙ c.if-is_err-5.false) c.list-other_walked.ensures.kept).names) (prefix c.args.scoped.now.released.keys c.leave-in-If.new.scoped.released.keys c.list-other_walked.new.scoped.released.keys (ap (take (length c.args.scoped.now.released.keys)) ((c.leave-in-If.ensures.released ∙ ap (λ k. take k c.list-first_walked.new.scoped.released.keys) c.mark_of-inside.ensures.released) ∙ (on_ok c.list-first_walked.result (sym c.is_err-in-If-2.ensures.value ∙ c.if-is_err-4.false) c.list-first_walked.ensures.kept).released) ∙ (prefix c.args.scoped.now.released.keys c.count-in-If.new.scoped.released.keys c.enter_condition-met.new.scoped.released.keys c.count-in-If.ensures.kept.released (entered_ok c.enter_condition-met.result c.args.stmt.now.line _ _ c.count-in-If.new.scoped c.enter_condition-met.new.scoped (sym c.is_err-in-If.ensures.value ∙ c.if-is_err-3.false) c.enter_condition-met.ensures.entered).3)) (on_ok c.list-other_walked.result (sym c.is_err-in-Some.ensures.value ∙ c.if-is_err-5.false) c.list-other_walked.ensures.kept).released) (c.leave-in-Some.ensures.names ∙ ap (λ k. take k c.list-other_walked.new.scoped.names.entries) c.mark_of-around.ensures.names) (c.leave-in-Some.ensures.released ∙ ap (λ k. take k c.list-other_walked.new.scoped.released.keys) c.mark_of-around.ensures.released) (c.leave-in-Some.ensures.loops ∙ c.mark_of-around.ensures.loops) (c.leave-in-Some.ensures.ifs ∙ c.mark_of-around.ensures.ifs) c.leave-in-Some.ensures.totals)
