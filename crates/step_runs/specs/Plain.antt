-- Actions of both runs that start, wait, allocate and release nothing.
use Rattle.std.specs.Prelude.{◌≡◌, ℕ, ℤ, List, [], ◌∷◌, None}
use Rattle.bus_model.specs.declared.transfer.Transfer.{Transfer}
use Rattle.direct_meaning.specs.Action.{Slow, Action, Known, Sets, Loads, Stores, RawLoads, RawStores, Operates, Converts, Faults, Returns}
use Rattle.direct_meaning.specs.Static.{place_at}
use Rattle.step_runs.specs.Stage.{Stage, place_in}
use Rattle.step_runs.specs.Steps.{Step, Both, moved, home_in, MayLoad, MayStore}

-- these actions, in the second run with their places moved
abbrev pub boths : Stage → List Action → List Step
boths s [] = []
boths s (a ∷ xs) = Both a (moved s a) ∷ boths s xs

module _ (large : ℕ) (ring : ℕ → ℕ → Transfer) where
  -- what it takes, said of the stage before them all
  abbrev pub AllowedPlain : Stage → Action → Type 0
  AllowedPlain s Known = Unit {0}
  AllowedPlain s (Sets r z) = Unit {0}
  AllowedPlain s (Loads r q) = MayLoad large ring s q
  AllowedPlain s (Stores x q) = MayStore large ring s q
  AllowedPlain s (RawLoads r home sizes subscripts) = (zs : List ℤ) → (place_at (home_in s home) sizes zs ≡ place_in s (place_at home sizes zs)) × MayLoad large ring s (place_at home sizes zs)
  AllowedPlain s (RawStores x home sizes subscripts) = (zs : List ℤ) → (place_at (home_in s home) sizes zs ≡ place_in s (place_at home sizes zs)) × MayStore large ring s (place_at home sizes zs) × ((p : ℕ) → place_at home sizes zs ≡ Slow p → s.lives p ≡ None)
  AllowedPlain s (Operates r op bits a b) = Unit {0}
  AllowedPlain s (Converts r kind from to x) = Unit {0}
  AllowedPlain s (Faults k) = Unit {0}
  AllowedPlain s Returns = Unit {0}
  AllowedPlain s a = ⊥
