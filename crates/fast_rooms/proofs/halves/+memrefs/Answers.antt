use Rattle.std.proofs.Common.{arith, subst}
use Rattle.fast_rooms.proofs.Adding.{AddsAll, AddsForm, if_ok, adds_for, adds_if, adds_both, adds_plain, adds_next, adds_end}
use Rattle.fast_rooms.proofs.halves.+memrefs.Goals as goal

pub add_memrefs-loop-statement-preserved : goal.add_memrefs-loop-statement-preserved
add_memrefs-loop-statement-preserved t c = adds_next c.args.statements.now c.loop-statement.statement-index c.args.memrefs.now.items c.loop-statement.memrefs.items c.statement-item.result c.add_form.new.memrefs.items c.loop-statement-test.true c.loop-statement.invariant
    (subst (λ s. AddsForm s c.loop-statement.memrefs.items c.add_form.new.memrefs.items) c.statement-item.is c.in_ok-add_form.ensures)

pub add_memrefs-returns : goal.add_memrefs-returns
add_memrefs-returns t c = adds_end c.args.statements.now c.loop-statement.statement-index c.args.memrefs.now.items c.loop-statement.memrefs.items (omega (arith, c.loop-statement-test.false)) c.loop-statement.invariant

pub add_form-returns-in-For : goal.add_form-returns-in-For
add_form-returns-in-For t c =
    if_ok c.add_memrefs.result _ _
    (λ h line rest. adds_for c.args.form.now line rest c.args.memrefs.now.items c.add_memrefs.new.memrefs.items c.in-For.var c.in-For.lower c.in-For.upper c.in-For.step c.in-For.inside c.in-For.body c.in-For.is
    (subst (λ ss. AddsAll ss c.args.memrefs.now.items c.add_memrefs.new.memrefs.items) c.as_slice.ensures h)) c.add_memrefs.ensures

pub add_form-returns-in-None : goal.add_form-returns-in-None
add_form-returns-in-None t c = λ line rest.
    adds_if c.args.form.now line rest c.args.memrefs.now.items c.add_memrefs-in-If.new.memrefs.items c.in-If.set c.in-If.operands c.in-If.first c.in-If.first_inside c.in-If.other_inside c.in-If.other c.in-If.is c.in-None.is
    (subst (λ ss. AddsAll ss c.args.memrefs.now.items c.add_memrefs-in-If.new.memrefs.items) c.as_slice-in-If.ensures c.in_ok-add_memrefs-in-If.ensures)

pub add_form-returns-in-Some : goal.add_form-returns-in-Some
add_form-returns-in-Some t c =
    if_ok c.add_memrefs-in-Some.result _ _
    (λ h line rest. adds_both c.args.form.now line rest c.args.memrefs.now.items c.add_memrefs-in-Some.new.memrefs.items c.in-If.set c.in-If.operands c.in-If.first c.in-If.first_inside c.in-If.other_inside c.in-If.other c.in-Some.other c.add_memrefs-in-If.new.memrefs.items c.in-If.is c.in-Some.is
    (subst (λ ss. AddsAll ss c.args.memrefs.now.items c.add_memrefs-in-If.new.memrefs.items) c.as_slice-in-If.ensures c.in_ok-add_memrefs-in-If.ensures)
    (subst (λ ss. AddsAll ss c.add_memrefs-in-If.new.memrefs.items c.add_memrefs-in-Some.new.memrefs.items) c.as_slice-in-Some.ensures h)) c.add_memrefs-in-Some.ensures

pub add_form-returns-in-Plain : goal.add_form-returns-in-Plain
add_form-returns-in-Plain t c =
    if_ok c.add_plain.result _ _
    (λ h line rest. adds_plain c.args.form.now line rest c.args.memrefs.now.items c.add_plain.new.memrefs.items c.in-Plain.plain c.in-Plain.is h) c.add_plain.ensures
