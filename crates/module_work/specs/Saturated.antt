-- Works that stay at 2 ^ 127 once they reach it.
use Rattle.std.specs.Prelude.{ℕ, ◌^◌, min}

abbrev pub saturated : ℕ → ℕ
saturated n = min n (2 ^ 127)
