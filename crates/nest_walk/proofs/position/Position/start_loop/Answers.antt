use Rattle.std.proofs.Common.{rules, sym, ap, ◌∙◌, subst, arith, length}
use Rattle.std.proofs.lemmas.Int.{to_z-of_z}
use mir.Val.{SFits}
use mir.Syntax.{w64}
use Rattle.valid_laws.specs.Safe.{SafeBound}
use Rattle.walk_program.specs.Reading.{bound_of}
use Rattle.nest_walk.specs.Standing.{Standing}
use Rattle.nest_walk.specs.Jobs.{Stand, stand_of}
use Rattle.nest_walk.proofs.Stands.{loop_fits}
use Rattle.nest_walk.proofs.Steps.{loop_moved}
use Rattle.nest_walk.proofs.position.Position.start_loop.Goals as goal

pub lower-at-requires-clause-safe : goal.lower-at-requires-clause-safe
lower-at-requires-clause-safe c = (loop_fits (stand_of c.args.self.now) c.requires.there.0 c.args.var c.args.lower.now c.args.upper.now c.args.step c.args.inside c.args.body c.args.rest c.requires.ready c.requires.there.1).3.lower

pub upper-upper-requires-clause-safe : goal.upper-upper-requires-clause-safe
upper-upper-requires-clause-safe c = subst (λ (m : Stand). SafeBound m.env (bound_of m.names c.args.upper.now)) (sym (ap stand_of c.lower-at.ensures.at)) (loop_fits (stand_of c.args.self.now) c.requires.there.0 c.args.var c.args.lower.now c.args.upper.now c.args.step c.args.inside c.args.body c.args.rest c.requires.ready c.requires.there.1).3.upper

pub push-requires : goal.push-requires
push-requires c =
    let same = c.upper-upper.ensures.at ∙ c.lower-at.ensures.at in
    record { room = omega (arith, (loop_fits (stand_of c.args.self.now) c.requires.there.0 c.args.var c.args.lower.now c.args.upper.now c.args.step c.args.inside c.args.body c.args.rest c.requires.ready c.requires.there.1).4, ap (λ (m : Standing). length m.frames) same, ap (λ (m : Standing). m.capacity) same) }

pub push-requires-2 : goal.push-requires-2
push-requires-2 c =
    let same = c.upper-upper.ensures.at ∙ c.lower-at.ensures.at in
    record { room = omega (arith, (loop_fits (stand_of c.args.self.now) c.requires.there.0 c.args.var c.args.lower.now c.args.upper.now c.args.step c.args.inside c.args.body c.args.rest c.requires.ready c.requires.there.1).4, ap (λ (m : Standing). length m.frames) same, ap (λ (m : Standing). m.capacity) same, ap (λ (m : Standing). length m.frames) c.push.ensures, ap (λ (m : Standing). m.capacity) c.push.ensures) }

pub returns : goal.returns
returns c =
    let s : SFits w64 c.args.step = search rules in
    let a : SFits w64 c.lower-at.result = search rules in
    let u : SFits w64 c.upper-upper.result = search rules in
    loop_moved (stand_of c.args.self.now) (stand_of c.lower-at.new.self) (stand_of c.upper-upper.new.self) _ _ _ c.requires.there.0 c.args.var c.args.lower.now c.args.upper.now c.args.step c.args.inside _ c.known-before.result c.lower-at.result c.upper-upper.result c.args.body c.args.rest c.requires.ready c.requires.there.1
    c.lower-at.ensures.value c.upper-upper.ensures.value c.known-before.ensures c.counts-start.ensures.fasts c.counts-start.ensures.tags
    (ap stand_of c.lower-at.ensures.at) (ap stand_of c.upper-upper.ensures.at) (ap stand_of c.push.ensures) (ap stand_of (simp to_z-of_z at c.push-2.ensures)) (ap stand_of c.take.ensures)
