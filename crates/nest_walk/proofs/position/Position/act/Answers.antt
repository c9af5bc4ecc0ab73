use Rattle.std.proofs.Common.{◌≡◌, sym, ap, ◌∙◌, subst, arith, length}
use Rattle.valid_laws.specs.Safe.{SafePlain, CountsFit}
use Rattle.walk_program.specs.Reading.{plain_of}
use Rattle.walk_actions.specs.Changed.{changed}
use Rattle.walk_actions.specs.Looked.{env_of}
use Rattle.nest_walk.specs.Standing.{Standing}
use Rattle.nest_walk.specs.Jobs.{stand_of}
use Rattle.direct_meaning.specs.Actions.{after_plain}
use Rattle.walk_actions.specs.Meant.{meant}
use Rattle.nest_walk.proofs.Stands.{plain_fits}
use Rattle.nest_walk.proofs.Steps.{acted_at, still_ready}
use Rattle.nest_walk.proofs.position.Position.act.Goals as goal

pub action-action-requires-clause-safe : goal.action-action-requires-clause-safe
action-action-requires-clause-safe c = (plain_fits (stand_of c.args.self.now) c.requires.there.0 c.args.plain.now c.args.rest c.requires.ready c.requires.there.1).1

pub change_of-change-requires-clause-safe : goal.change_of-change-requires-clause-safe
change_of-change-requires-clause-safe c = subst (λ (m : Standing). SafePlain (env_of m.bindings) (plain_of m.bindings.names c.args.plain.now)) (sym c.action-action.ensures.at) (plain_fits (stand_of c.args.self.now) c.requires.there.0 c.args.plain.now c.args.rest c.requires.ready c.requires.there.1).1

-- where the subscripts alone are others
others : (p a b : Standing) → a ≡ record p { subscripts = a.subscripts } → b ≡ a → b ≡ record p { subscripts = b.subscripts }
others p a b q r = r ∙ q ∙ (λ i. record p { subscripts = sym (ap (λ (m : Standing). m.subscripts) r) i })

pub change-requires-clause-ready : goal.change-requires-clause-ready
change-requires-clause-ready c = still_ready c.args.self.now _ c.requires.ready (others c.args.self.now _ _ c.action-action.ensures.at c.change_of-change.ensures.at)

pub change-requires-clause-fits : goal.change-requires-clause-fits
change-requires-clause-fits c = subst CountsFit (sym (ap (λ (m : Standing). changed m.bindings.names c.change_of-change.result (env_of m.bindings)) c.change_of-change.ensures.at ∙ c.change_of-change.ensures.value ∙ ap (λ (m : Standing). after_plain (plain_of m.bindings.names c.args.plain.now) (env_of m.bindings)) c.action-action.ensures.at)) (plain_fits (stand_of c.args.self.now) c.requires.there.0 c.args.plain.now c.args.rest c.requires.ready c.requires.there.1).3

pub change-requires-clause-room : goal.change-requires-clause-room
change-requires-clause-room c =
    omega (arith, (plain_fits (stand_of c.args.self.now) c.requires.there.0 c.args.plain.now c.args.rest c.requires.ready c.requires.there.1).2, ap (λ (m : Standing). length m.frames) c.action-action.ensures.at, ap (λ (m : Standing). m.capacity) c.action-action.ensures.at, ap (λ (m : Standing). length m.frames) c.change_of-change.ensures.at, ap (λ (m : Standing). m.capacity) c.change_of-change.ensures.at)

pub returns-clause-acted : goal.returns-clause-acted
returns-clause-acted c =
    let uses = ap (λ (m : Standing). m.subscripts) c.take.ensures ∙ ap (λ m. m.subscripts) c.change.ensures.at ∙ ap (λ (m : Standing). m.subscripts) c.change_of-change.ensures.at in
    acted_at c.args.self.now c.change_of-change.new.self c.change.new.self c.take.new.self c.requires.there.0 c.args.plain.now c.args.rest _ _ c.requires.ready c.requires.there.1
    (others c.args.self.now _ _ c.action-action.ensures.at c.change_of-change.ensures.at)
    (ap (λ (m : Standing). changed m.bindings.names c.change_of-change.result (env_of m.bindings)) c.change_of-change.ensures.at ∙ c.change_of-change.ensures.value ∙ ap (λ (m : Standing). after_plain (plain_of m.bindings.names c.args.plain.now) (env_of m.bindings)) c.action-action.ensures.at)
    c.change.ensures c.take.ensures
    ((λ i. meant c.args.self.now.bindings.names (uses i) c.action-action.result) ∙ c.action-action.ensures.value)
