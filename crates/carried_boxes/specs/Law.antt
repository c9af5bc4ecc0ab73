-- The shape of a box and the backward test are one.
use Rattle.std.specs.Prelude.{◌≡◌, ◌≤◌, true, not, List, [], ◌∷◌}
use Rattle.boxes.specs.Boxes.{Side, shape, is_mixed}
use Rattle.staged_plans.specs.Plans.{chunks_of}
use Rattle.carried_boxes.specs.Backward.{is_carried, chunks}

-- each extent is at least 1
abbrev pub HasElements : List Side → Type 0
HasElements [] = Unit {0}
HasElements (d ∷ ds) = (1 ≤ d.extent) × HasElements ds

-- a box with elements is of a mixed shape exactly where the test doesn't pass, and where it passes the shape gives its stride and chunk
abbrev pub TestsAgree : Type 0
TestsAgree = (ds : List Side) → HasElements ds → (is_mixed (shape ds) ≡ not (is_carried ds)) × (is_carried ds ≡ true → chunks_of (shape ds) ≡ chunks ds)
