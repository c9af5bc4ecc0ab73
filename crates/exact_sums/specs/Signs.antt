-- Signs of products.
use Rattle.std.specs.Prelude.{ℤ, pos, Bool, not, if◌then◌else◌, int_lt}

-- whether the factors have different signs, where 0 counts as positive
abbrev pub is_negative_product : ℤ → ℤ → Bool
is_negative_product x y = if int_lt x (pos 0) then not (int_lt y (pos 0)) else int_lt y (pos 0)
