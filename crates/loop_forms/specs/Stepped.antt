-- The turns of a loop as so many numbers with the step between them.
use Rattle.std.specs.Prelude.{ℕ, zero, suc, ◌/◌, ℤ, pos, ◌+ℤ◌, ◌-ℤ◌, List, [], ◌∷◌, int_lt, if◌then◌else◌}
use Rattle.direct_meaning.specs.Turns.{gap}

-- a, a + s and so on, n numbers
abbrev pub stepped : ℤ → ℤ → ℕ → List ℤ
stepped a s zero = []
stepped a s (suc n) = a ∷ stepped (a +ℤ s) s n

-- how many turns a loop from a to b by s has
abbrev pub turn_total : ℤ → ℤ → ℕ → ℕ
turn_total a b s = if int_lt a b then suc (gap (b -ℤ a -ℤ pos 1) / s) else 0
