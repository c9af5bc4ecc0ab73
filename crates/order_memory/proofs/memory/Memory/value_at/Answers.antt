use Rattle.std.proofs.Common.{refl, sym, subst, Err}
use Rattle.bus_model.specs.declared.step.FaultKind.TheVariants.{Bounds}
use Rattle.walk_actions.specs.Meant.{place_meant}
use Rattle.order_memory.specs.Reaches.{PlaceIn}
use Rattle.order_memory.specs.Tied.{Gives}
use Rattle.order_memory.proofs.memory.Memory.value_at.Goals as goal

pub returns-in-Slow : goal.returns-in-Slow
returns-in-Slow c = λ rooms x t i. subst (λ p. Gives c.load_slow.result (place_meant p) x) (sym c.in-Slow.is) (c.load_slow.ensures rooms x t)

pub returns-in-Fast : goal.returns-in-Fast
returns-in-Fast c = λ rooms x t i. subst (λ p. Gives c.load_fast.result (place_meant p) x) (sym c.in-Fast.is) (c.load_fast.ensures rooms x t (subst (λ p. PlaceIn rooms x (place_meant p)) c.in-Fast.is i).0)

pub returns-in-Outside : goal.returns-in-Outside
returns-in-Outside c = λ rooms x t i. subst (λ p. Gives (Err Bounds) (place_meant p) x) (sym c.in-Outside.is) (λ r. refl)
