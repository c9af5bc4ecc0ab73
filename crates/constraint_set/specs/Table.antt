-- A table from coefficients to constants, as the list of its rows.
use Rattle.std.specs.Prelude.{◌≡◌, List, map, Option, Some, None, ℤ, Vec}
use Rattle.std.specs.Int.{int_min}
use Rattle.std.specs.declared.alloc.Global.{Global}
use Rattle.constraint_set.specs.Points.{LinearRow}

abbrev pub row_list : List (Vec ℤ Global × ℤ) → List LinearRow
row_list es = map (λ e. record { coefs = e.0.items; constant = e.1 }) es

-- the constant that a place keeps: the lesser of the one that is there, if any, and the new one
abbrev pub IsLesser : Option ℤ → ℤ → ℤ → Type 0
IsLesser None new kept = kept ≡ new
IsLesser (Some old) new kept = kept ≡ int_min old new
