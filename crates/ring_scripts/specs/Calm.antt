-- Where boxes don't clash at a distance, the transfers of turns so far apart have no place in common; and what goes to another memref meets
-- none of them.
use Rattle.std.specs.Prelude.{◌≡◌, ℕ, ◌<◌, ℤ, pos, false, List, ◌++◌, length, Ok}
use Rattle.bus_model.specs.declared.transfer.Transfer.{Transfer}
use Rattle.bus_model.specs.Places.{slow_place, meets}
use Rattle.constraint_set.specs.Points.{LinearSystem, AreWide, PointOf}
use Rattle.nest_domain.specs.Boxes.{Dimension, AllWithin, AllIn, later_turn, AreOver}
use Rattle.direct_meaning.specs.Action.{Slow}
use Rattle.direct_meaning.specs.Static.{cell_in, slow_at}
use Rattle.direct_meaning.specs.Transfers.{overlap}
use Rattle.dependence.specs.Clashes.{clash}
use Rattle.placement_texts.specs.Boxes.{is_of}

-- of a memref that begins at the slow place `first`: each element of the transfer is one whose subscripts lie in the box, where the outer
-- variables have these values
abbrev pub CarriesBox : ℕ → List ℕ → List Dimension → List ℤ → Transfer → Type 0
CarriesBox first sizes ds os u = (k : ℕ) → k < u.count → (xs : List ℤ) × AllIn ds sizes os xs × (slow_at first (cell_in sizes xs) ≡ Slow (slow_place u k))

-- no clash of a box with itself at a distance: a transfer of one turn and one of the turn so much later, whichever starts first, have no slow
-- place in common
abbrev pub NoClashIsCalm : Type 0
NoClashIsCalm = (first : ℕ) (sizes : List ℕ) (ds : List Dimension) (outside : LinearSystem) (n i : ℕ) (t : ℤ) → AreWide outside.vars outside.rows → AreOver n ds → i < n → clash ds ds outside n sizes i t ≡ Ok false
    → (os ls ms : List ℤ) → length os ≡ n → PointOf outside (os ++ ls) (pos 1) → PointOf outside (later_turn os i t ++ ms) (pos 1) → AllWithin ds sizes os → AllWithin ds sizes (later_turn os i t)
    → (u w : Transfer) → CarriesBox first sizes ds os u → CarriesBox first sizes ds (later_turn os i t) w
    → (overlap u w ≡ false) × (overlap w u ≡ false)

-- a place that is none of the memref's is no place of the transfer
abbrev pub ElsewhereIsCalm : Type 0
ElsewhereIsCalm = (first : ℕ) (sizes : List ℕ) (ds : List Dimension) (os : List ℤ) (u : Transfer) (p : ℕ) → CarriesBox first sizes ds os u → is_of first sizes p ≡ false → meets u p ≡ false
