-- What holds along a run.
use Rattle.std.specs.Prelude.{◌≡◌, List, [], ◌∷◌}
use Rattle.direct_meaning.specs.Action.{Action}
use Rattle.direct_meaning.specs.Direct.{Outcome, End}

-- P holds of each action that a run by these steps comes to, in the state in which it comes to it: nothing is said behind a fault
abbrev pub Along : {S : Type 0} → (Action → S → Outcome S) → (Action → S → Type 0) → List Action → S → Type 0
Along step P [] s = Unit {0}
Along {S = S} step P (a ∷ more) s = P a s × ((t : S) → step a s ≡ End t → Along step P more t)
