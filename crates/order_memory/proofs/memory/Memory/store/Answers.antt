use Rattle.std.proofs.Common.{rules, refl, sym, subst, Err, w64}
use Rattle.std.proofs.lemmas.Int.{to_z-of_z}
use Rattle.walk_actions.specs.declared.action.Place.TheVariants.{Slow, Fast}
use Rattle.bus_model.specs.declared.step.FaultKind.TheVariants.{Bounds}
use Rattle.walk_actions.specs.Meant.{place_meant}
use Rattle.order_meaning.specs.Machine.{store}
use Rattle.order_memory.specs.Reaches.{PlaceIn}
use Rattle.order_memory.specs.Tied.{Follows}
use Rattle.order_memory.proofs.memory.Memory.store.Goals as goal

pub returns-in-Slow-clause-follows : goal.returns-in-Slow-clause-follows
returns-in-Slow-clause-follows c = λ rooms x t i. subst (λ p. Follows rooms c.store_slow.result (store c.args.value (place_meant p) x) c.store_slow.new.self) (sym c.in-Slow.is) (subst (λ z. Follows rooms c.store_slow.result (store z (place_meant (Slow c.in-Slow.place)) x) c.store_slow.new.self) (to_z-of_z w64 c.args.value (search rules)) (c.store_slow.ensures.follows rooms x t))

pub returns-in-Fast-clause-follows : goal.returns-in-Fast-clause-follows
returns-in-Fast-clause-follows c = λ rooms x t i. subst (λ p. Follows rooms c.store_fast.result (store c.args.value (place_meant p) x) c.store_fast.new.self) (sym c.in-Fast.is)
    (subst (λ z. Follows rooms c.store_fast.result (store z (place_meant (Fast c.in-Fast.number c.in-Fast.half c.in-Fast.cell)) x) c.store_fast.new.self) (to_z-of_z w64 c.args.value (search rules))
    (c.store_fast.ensures.follows rooms x t (subst (λ p. PlaceIn rooms x (place_meant p)) c.in-Fast.is i).0))

pub returns-in-Outside-clause-follows : goal.returns-in-Outside-clause-follows
returns-in-Outside-clause-follows c = λ rooms x t i. subst (λ p. Follows rooms (Err Bounds) (store c.args.value (place_meant p) x) c.args.self.now) (sym c.in-Outside.is) (x, refl, t)
