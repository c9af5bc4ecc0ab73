-- A machine after a step, made or refused.
use Rattle.std.proofs.Common.{List, [], ◌∷◌, ◌++◌, Result, Ok, Err}
use Rattle.bus_model.specs.declared.step.Step.{Step}
use Rattle.order_machine.specs.declared.machine.Machine.{Machine}
use Rattle.order_machine.specs.Standing.{Setting, IsAt, IsSomewhere, Steps}

pub goes_on : (E : Type 0) (m m' : Machine) (step : Step) (r : Result (Unit {0}) E) → IsSomewhere m → ((s : Setting) (steps : List Step) → IsAt s steps m → Steps s steps step r m') → IsSomewhere m'
goes_on E m m' step (Ok done) at h = (at.0, at.1 ++ step ∷ [], (h at.0 at.1 at.2).1)
goes_on E m m' step (Err e) at h = (at.0, at.1, (h at.0 at.1 at.2).1)
