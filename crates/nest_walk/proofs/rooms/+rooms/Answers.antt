use Rattle.std.proofs.Common.{refl, ap, ◌∙◌, arith}
use Rattle.std.specs.Prelude.{Some, None}
use Rattle.walk_program.specs.declared.statement.Form as form
use Rattle.nest_walk.specs.Ready.{room}
use Rattle.nest_walk.proofs.RoomLaws.{if_some, needs_for, needs_if, needs_plain, room_end, room_step}
use Rattle.nest_walk.proofs.rooms.+rooms.Goals as goal

pub room_needed-loop-i-init : goal.room_needed-loop-i-init
room_needed-loop-i-init t c = record { within = omega arith; so_far = room_end c.args.statements.now }

pub room_needed-loop-i-preserved : goal.room_needed-loop-i-preserved
room_needed-loop-i-preserved t c =
    let i = c.loop-i.invariant in
    record {
      within = omega (arith, i.within);
      so_far = room_step c.args.statements.now c.loop-i.i c.loop-i.need c.in_ok-need.need c.index-statements-i.result (omega (arith, c.loop-i-test.true)) i.within i.so_far c.in_ok-need.ensures;
    }

pub room_with-returns-in_ok-room_needed-in-For : goal.room_with-returns-in_ok-room_needed-in-For
room_with-returns-in_ok-room_needed-in-For t c =
    if_some c.loop_room.result _ _ (λ n e. needs_for c.args.form.now c.args.rest c.in_ok-room_needed-in-For.field-0 n c.in-For.var c.in-For.lower c.in-For.upper c.in-For.step c.in-For.inside c.in-For.body c.in-For.is (c.in_ok-room_needed-in-For.ensures ∙ ap room c.as_slice.ensures) e) c.loop_room.ensures

pub room_with-returns-in-None : goal.room_with-returns-in-None
room_with-returns-in-None t c =
    if_some c.condition_room.result _ _ (λ n e. needs_if c.args.form.now c.args.rest c.in_ok-first-in-If.first 0 n c.in-If.set c.in-If.operands c.in-If.first c.in-If.first_inside c.in-If.other_inside None (c.in-If.is ∙ ap (λ o. form.If c.in-If.set c.in-If.operands c.in-If.first c.in-If.first_inside o c.in-If.other_inside) c.in-None.is)
    (c.in_ok-first-in-If.ensures ∙ ap room c.as_slice-in-If.ensures) refl e) c.condition_room.ensures

pub room_with-returns-in_ok-room_needed-in-Some : goal.room_with-returns-in_ok-room_needed-in-Some
room_with-returns-in_ok-room_needed-in-Some t c =
    if_some c.condition_room-in-Some.result _ _ (λ n e. needs_if c.args.form.now c.args.rest c.in_ok-first-in-If.first c.in_ok-room_needed-in-Some.field-0 n c.in-If.set c.in-If.operands c.in-If.first c.in-If.first_inside c.in-If.other_inside (Some c.in-Some.other) (c.in-If.is ∙ ap (λ o. form.If c.in-If.set c.in-If.operands c.in-If.first c.in-If.first_inside o c.in-If.other_inside) c.in-Some.is)
    (c.in_ok-first-in-If.ensures ∙ ap room c.as_slice-in-If.ensures) (c.in_ok-room_needed-in-Some.ensures ∙ ap room c.as_slice-in-Some.ensures) e) c.condition_room-in-Some.ensures

pub room_with-returns-in-Plain : goal.room_with-returns-in-Plain
room_with-returns-in-Plain t c = if_some c.plain_room.result _ _ (λ n e. needs_plain c.args.form.now c.args.rest n c.in-Plain.field-0 c.in-Plain.is e) c.plain_room.ensures
