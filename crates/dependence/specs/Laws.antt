-- What a clash says of two visits of a loop.
use Rattle.std.specs.Prelude.{◌≡◌, ℕ, ◌<◌, ℤ, pos, false, List, ◌++◌, length, Ok}
use Rattle.constraint_set.specs.Points.{LinearSystem, AreWide, PointOf}
use Rattle.nest_domain.specs.Boxes.{Dimension, AllWithin, AllIn, later_turn, AreOver}
use Rattle.dependence.specs.Clashes.{clash}

-- where there is no clash at a distance, two visits of the loop's outside at this distance have no element in both boxes
abbrev pub NoClashIsApart : Type 0
NoClashIsApart = (first second : List Dimension) (outside : LinearSystem) (n : ℕ) (sizes : List ℕ) (i : ℕ) (t : ℤ) → AreWide outside.vars outside.rows → AreOver n first → AreOver n second → i < n → clash first second outside n sizes i t ≡ Ok false
    → (os ls ms xs : List ℤ) → length os ≡ n → PointOf outside (os ++ ls) (pos 1) → PointOf outside (later_turn os i t ++ ms) (pos 1)
    → AllWithin first sizes os → AllWithin second sizes (later_turn os i t) → AllIn first sizes os xs → AllIn second sizes (later_turn os i t) xs → ⊥
