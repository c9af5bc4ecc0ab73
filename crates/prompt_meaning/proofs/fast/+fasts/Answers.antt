use Rattle.std.proofs.Common.{arith, subst}
use Rattle.prompt_meaning.proofs.Adding.{AddsAll, AddsForm, if_ok, adds_for, adds_if, adds_both, adds_plain, adds_next, adds_end}
use Rattle.prompt_meaning.proofs.fast.+fasts.Goals as goal

pub add_fasts-loop-statement-preserved : goal.add_fasts-loop-statement-preserved
add_fasts-loop-statement-preserved t c = adds_next c.args.statements.now c.loop-statement.statement-index c.args.fasts.now.items c.loop-statement.fasts.items c.statement-item.result c.add_form.new.fasts.items c.loop-statement-test.true c.loop-statement.invariant
    (subst (λ s. AddsForm s c.loop-statement.fasts.items c.add_form.new.fasts.items) c.statement-item.is c.in_ok-add_form.ensures)

pub add_fasts-returns : goal.add_fasts-returns
add_fasts-returns t c = adds_end c.args.statements.now c.loop-statement.statement-index c.args.fasts.now.items c.loop-statement.fasts.items (omega (arith, c.loop-statement-test.false)) c.loop-statement.invariant

pub add_form-returns-in-For : goal.add_form-returns-in-For
add_form-returns-in-For t c =
    if_ok c.add_fasts.result _ _
    (λ h line rest. adds_for c.args.form.now line rest c.args.fasts.now.items c.add_fasts.new.fasts.items c.in-For.var c.in-For.lower c.in-For.upper c.in-For.step c.in-For.inside c.in-For.body c.in-For.is
    (subst (λ ss. AddsAll ss c.args.fasts.now.items c.add_fasts.new.fasts.items) c.as_slice.ensures h)) c.add_fasts.ensures

pub add_form-returns-in-None : goal.add_form-returns-in-None
add_form-returns-in-None t c = λ line rest.
    adds_if c.args.form.now line rest c.args.fasts.now.items c.add_fasts-in-If.new.fasts.items c.in-If.set c.in-If.operands c.in-If.first c.in-If.first_inside c.in-If.other_inside c.in-If.other c.in-If.is c.in-None.is
    (subst (λ ss. AddsAll ss c.args.fasts.now.items c.add_fasts-in-If.new.fasts.items) c.as_slice-in-If.ensures c.in_ok-add_fasts-in-If.ensures)

pub add_form-returns-in-Some : goal.add_form-returns-in-Some
add_form-returns-in-Some t c =
    if_ok c.add_fasts-in-Some.result _ _
    (λ h line rest. adds_both c.args.form.now line rest c.args.fasts.now.items c.add_fasts-in-Some.new.fasts.items c.in-If.set c.in-If.operands c.in-If.first c.in-If.first_inside c.in-If.other_inside c.in-If.other c.in-Some.other c.add_fasts-in-If.new.fasts.items c.in-If.is c.in-Some.is
    (subst (λ ss. AddsAll ss c.args.fasts.now.items c.add_fasts-in-If.new.fasts.items) c.as_slice-in-If.ensures c.in_ok-add_fasts-in-If.ensures)
    (subst (λ ss. AddsAll ss c.add_fasts-in-If.new.fasts.items c.add_fasts-in-Some.new.fasts.items) c.as_slice-in-Some.ensures h)) c.add_fasts-in-Some.ensures

pub add_form-returns-in-Plain : goal.add_form-returns-in-Plain
add_form-returns-in-Plain t c =
    if_ok c.add_plain.result _ _
    (λ h line rest. adds_plain c.args.form.now line rest c.args.fasts.now.items c.add_plain.new.fasts.items c.in-Plain.plain c.in-Plain.is h) c.add_plain.ensures
