use Rattle.std.proofs.Common.{rules, refl, ap, arith, length}
use Rattle.std.proofs.lemmas.Int.{ints, to_z-of_z}
use mir.Val.{SFits}
use mir.Syntax.{w64}
use Rattle.nest_walk.specs.Standing.{Standing}
use Rattle.nest_walk.specs.Jobs.{stand_of}
use Rattle.nest_walk.proofs.Frames.{under_stand}
use Rattle.nest_walk.proofs.Stands.{turn_fits}
use Rattle.nest_walk.proofs.Steps.{turned, ended}
use Rattle.nest_walk.proofs.position.Position.turn.Goals as goal

pub later-next-requires-clause-step : goal.later-next-requires-clause-step
later-next-requires-clause-step c =
    let s : SFits w64 c.args.step = search rules in
    simp to_z-of_z (turn_fits _ c.args.var c.args.before c.args.at c.args.upper c.args.step c.args.start c.args.inside c.args.body c.args.self.now.frames c.requires.ready c.requires.empty refl).1

pub know-requires : goal.know-requires
know-requires c =
    let fits = turn_fits _ c.args.var c.args.before c.args.at c.args.upper c.args.step c.args.start c.args.inside c.args.body c.args.self.now.frames c.requires.ready c.requires.empty refl in
    record { name = omega (arith, fits.0, ap (λ (m : Standing). length m.bindings.names) c.push.ensures) }

pub know-requires-else-at-upper : goal.know-requires-else-at-upper
know-requires-else-at-upper c = record { name = (turn_fits _ c.args.var c.args.before c.args.at c.args.upper c.args.step c.args.start c.args.inside c.args.body c.args.self.now.frames c.requires.ready c.requires.empty refl).0 }

pub overflow_add-start : goal.overflow_add-start
overflow_add-start c = omega (arith, (turn_fits _ c.args.var c.args.before c.args.at c.args.upper c.args.step c.args.start c.args.inside c.args.body c.args.self.now.frames c.requires.ready c.requires.empty refl).2)

pub overflow_add-start-else-at-upper : goal.overflow_add-start-else-at-upper
overflow_add-start-else-at-upper c = omega (arith, (turn_fits _ c.args.var c.args.before c.args.at c.args.upper c.args.step c.args.start c.args.inside c.args.body c.args.self.now.frames c.requires.ready c.requires.empty refl).3)

pub returns-then-at-upper : goal.returns-then-at-upper
returns-then-at-upper c =
    let a : SFits w64 c.args.at = search rules in
    let u : SFits w64 c.args.upper = search rules in
    let s : SFits w64 c.args.step = search rules in
    let n : SFits w64 c.later-next.result = search rules in
    turned (stand_of c.args.self.now) _ _ _ _ c.args.var c.args.before c.args.at c.later-next.result c.args.upper c.args.step c.args.start c.args.inside c.args.body c.requires.ready c.requires.empty (omega (arith, ints, c.if-at-upper.true))
    (simp to_z-of_z at c.later-next.ensures.later) (simp to_z-of_z at c.later-next.ensures.turns)
    (ap stand_of (simp to_z-of_z at c.push.ensures)) (simp to_z-of_z at (under_stand _ _ _ c.know.ensures.at)) (ap stand_of c.count.ensures) (ap stand_of c.take.ensures)

pub returns-else-at-upper : goal.returns-else-at-upper
returns-else-at-upper c =
    ended (stand_of c.args.self.now) _ _ c.args.var c.args.before c.args.at c.args.upper c.args.step c.args.start c.args.inside c.args.body c.requires.ready c.requires.empty (omega (arith, ints, c.if-at-upper.false))
    (under_stand _ _ _ c.know-else-at-upper.ensures.at) (ap stand_of c.count-else-at-upper.ensures)
