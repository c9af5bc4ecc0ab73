use Rattle.std.proofs.Common.{ap, arith, length}
use Rattle.nest_walk.specs.Standing.{Standing}
use Rattle.nest_walk.specs.Jobs.{stand_of}
use Rattle.nest_walk.proofs.Stands.{branch_fits}
use Rattle.nest_walk.proofs.Steps.{first_moved, other_moved}
use Rattle.nest_walk.proofs.position.Position.start_condition.Goals as goal

pub holds-requires-clause-safe : goal.holds-requires-clause-safe
holds-requires-clause-safe c = (branch_fits (stand_of c.args.self.now) c.requires.there.0 c.args.set.now c.args.operands.now _ c.args.first_inside c.requires.there.1 _ c.args.other_inside c.args.rest c.requires.ready c.requires.there.2).1

pub push-requires : goal.push-requires
push-requires c = record { room = omega (arith, (branch_fits (stand_of c.args.self.now) c.requires.there.0 c.args.set.now c.args.operands.now _ c.args.first_inside c.requires.there.1 _ c.args.other_inside c.args.rest c.requires.ready c.requires.there.2).2, ap (λ (m : Standing). length m.frames) c.holds.ensures.at, ap (λ (m : Standing). m.capacity) c.holds.ensures.at) }

pub overflow_add-before : goal.overflow_add-before
overflow_add-before c = omega (arith, (branch_fits (stand_of c.args.self.now) c.requires.there.0 c.args.set.now c.args.operands.now _ c.args.first_inside c.requires.there.1 _ c.args.other_inside c.args.rest c.requires.ready c.requires.there.2).3, c.counts-before.ensures.fasts, ap (λ (m : Standing). m.bindings.fasts) c.holds.ensures.at)

pub overflow_add-before-else-holds : goal.overflow_add-before-else-holds
overflow_add-before-else-holds c = omega (arith, (branch_fits (stand_of c.args.self.now) c.requires.there.0 c.args.set.now c.args.operands.now _ c.args.first_inside c.requires.there.1 _ c.args.other_inside c.args.rest c.requires.ready c.requires.there.2).4, c.counts-before.ensures.tags, ap (λ (m : Standing). m.bindings.tags) c.holds.ensures.at)

pub push-requires-else-holds : goal.push-requires-else-holds
push-requires-else-holds c = record { room = omega (arith, (branch_fits (stand_of c.args.self.now) c.requires.there.0 c.args.set.now c.args.operands.now _ c.args.first_inside c.requires.there.1 _ c.args.other_inside c.args.rest c.requires.ready c.requires.there.2).2, ap (λ (m : Standing). length m.frames) c.holds.ensures.at, ap (λ (m : Standing). m.capacity) c.holds.ensures.at, ap (λ (m : Standing). length m.frames) c.count.ensures, ap (λ (m : Standing). m.capacity) c.count.ensures) }

pub returns-then-holds : goal.returns-then-holds
returns-then-holds c =
    first_moved (stand_of c.args.self.now) _ _ _ c.requires.there.0 c.args.set.now c.args.operands.now c.args.first c.args.first_inside c.requires.there.1 _ c.args.other_inside c.args.rest c.requires.ready c.requires.there.2
    c.if-holds.ensures.value (ap stand_of c.holds.ensures.at) (ap stand_of c.push.ensures) (ap stand_of c.take.ensures)

pub returns-else-holds : goal.returns-else-holds
returns-else-holds c =
    other_moved (stand_of c.args.self.now) (stand_of c.holds.new.self) _ _ _ c.requires.there.0 c.args.set.now c.args.operands.now _ c.args.first_inside c.requires.there.1 c.args.other c.args.other_inside c.args.rest _ _ c.requires.ready c.requires.there.2
    c.if-holds.ensures.value (omega (arith, c.counts-before.ensures.fasts)) (omega (arith, c.counts-before.ensures.tags)) (ap stand_of c.holds.ensures.at) (ap stand_of c.count.ensures) (ap stand_of c.push-else-holds.ensures) (ap stand_of c.take-else-holds.ensures)
