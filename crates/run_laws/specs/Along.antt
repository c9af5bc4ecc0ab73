-- What holds along a run.
use Rattle.std.specs.Prelude.{◌≡◌, List, [], ◌∷◌}
use Rattle.direct_meaning.specs.Action.{Action}
use Rattle.direct_meaning.specs.Direct.{State, End, direct_step}

-- P holds of each action that a run comes to, in the state in which it comes to it: nothing is said behind a fault
abbrev pub Along : (Action → State → Type 0) → List Action → State → Type 0
Along P [] s = Unit {0}
Along P (a ∷ more) s = P a s × ((t : State) → direct_step a s ≡ End t → Along P more t)
