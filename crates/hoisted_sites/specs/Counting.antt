-- Counting accesses down.
use Rattle.std.specs.Prelude.{ℕ, ◌-◌, nat_lt, if◌then◌else◌, Option, Some, None}

-- so many, less these, where there aren't more of these
abbrev pub left_of : ℕ → ℕ → Option ℕ
left_of left taken = if nat_lt left taken then None else Some (left - taken)
