use Rattle.std.proofs.Common.{◌∙◌, sym}
use Rattle.walk_actions.specs.Meant.{meant}
use Rattle.nest_meaning.specs.Held.{state_at}
use Rattle.nest_meaning.proofs.Runs.{can_now, can_next, folds_next, faults, ends_here, ended, faulted, settles, lands_here, step_is, same_twice}
use Rattle.nest_meaning.proofs.plain.run.Goals as goal

pub settle-effect-requires-clause-can : goal.settle-effect-requires-clause-can
settle-effect-requires-clause-can c =
    let action = meant c.loop-action.walk.names c.next.new.self.subscripts c.in-Some.action in
    settles c.loop-action.walk.names c.loop-action.machine.registers c.loop-action.machine.registers c.loop-action.machine.slow.items c.in-Some.action c.next.new.self.subscripts c.subscripts.result.now c.loop-action.invariant.names c.subscripts.ensures
    (can_now c.loop-action.walk.left c.next.new.self.left action (state_at c.loop-action.machine) c.in-Some.ensures.taken c.loop-action.invariant.runs)

pub take-requires-clause-lands : goal.take-requires-clause-lands
take-requires-clause-lands c =
    let action = meant c.loop-action.walk.names c.next.new.self.subscripts c.in-Some.action in
    lands_here c.loop-action.walk.names c.loop-action.machine.registers c.settle-effect.new.self c.loop-action.machine.slow.items c.in-Some.action c.next.new.self.subscripts c.subscripts.result.now c.loop-action.invariant.names c.subscripts.ensures
    c.settle-effect.result c.settle-effect.ensures.same c.settle-effect.ensures.effect
    (can_now c.loop-action.walk.left c.next.new.self.left action (state_at c.loop-action.machine) c.in-Some.ensures.taken c.loop-action.invariant.runs)

pub returns-in-Err-clause-ends : goal.returns-in-Err-clause-ends
returns-in-Err-clause-ends c =
    let action = meant c.loop-action.walk.names c.next.new.self.subscripts c.in-Some.action in
    let step = step_is c.loop-action.walk.names c.loop-action.machine.registers c.settle-effect.new.self c.loop-action.machine.slow.items c.in-Some.action c.next.new.self.subscripts c.subscripts.result.now c.loop-action.invariant.names c.subscripts.ensures
    c.settle-effect.result c.settle-effect.ensures.same c.settle-effect.ensures.effect _ c.in-Err.ensures.takes in
    faulted _ c.in-Err.kind (state_at c.take.new.self) (faults c.loop-action.walk.left c.next.new.self.left action (state_at c.loop-action.machine) c.in-Some.ensures.taken _ (state_at c.take.new.self) c.in-Err.kind c.loop-action.invariant.folds step)

pub loop-action-preserved : goal.loop-action-preserved
loop-action-preserved c =
    let action = meant c.loop-action.walk.names c.next.new.self.subscripts c.in-Some.action in
    let step = step_is c.loop-action.walk.names c.loop-action.machine.registers c.settle-effect.new.self c.loop-action.machine.slow.items c.in-Some.action c.next.new.self.subscripts c.subscripts.result.now c.loop-action.invariant.names c.subscripts.ensures
    c.settle-effect.result c.settle-effect.ensures.same c.settle-effect.ensures.effect _ c.in_default-take.ensures.takes in
    record {
      names = c.in_default-take.ensures.same.names ∙ (λ i. (c.settle-effect.ensures.same i).names) ∙ c.loop-action.invariant.names ∙ sym c.in-Some.ensures.names;
      runs = can_next c.loop-action.walk.left c.next.new.self.left action (state_at c.loop-action.machine) c.in-Some.ensures.taken (state_at c.take.new.self) c.loop-action.invariant.runs step;
      same = same_twice c.args.machine.now c.loop-action.machine c.take.new.self c.loop-action.invariant.same (record { names = c.in_default-take.ensures.same.names ∙ (λ i. (c.settle-effect.ensures.same i).names); slow = c.in_default-take.ensures.same.slow });
      folds = folds_next c.loop-action.walk.left c.next.new.self.left action (state_at c.loop-action.machine) c.in-Some.ensures.taken _ (state_at c.take.new.self) c.loop-action.invariant.folds step;
    }

pub returns-clause-ends : goal.returns-clause-ends
returns-clause-ends c = ended _ (state_at c.loop-action.machine) (ends_here _ c.loop-action.walk.left (state_at c.loop-action.machine) c.loop-action.invariant.folds c.in_default.ensures.was)
