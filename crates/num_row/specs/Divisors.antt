-- The greatest common divisor as a value that computes.
use Rattle.std.specs.Prelude.{ℕ, zero, suc, ◌+◌, ◌%◌, if◌then◌else◌, ◌&&◌, ◌==◌}

-- the greatest number from 1 up to a limit that divides both a and b, and 0 where the limit is 0
abbrev pub greatest_divisor : ℕ → ℕ → ℕ → ℕ
greatest_divisor zero a b = 0
greatest_divisor (suc n) a b = if (a % suc n == 0) && (b % suc n == 0) then suc n else greatest_divisor n a b

-- the greatest common divisor of a and b: none is above a + b but at 0 and 0, where it is taken as 0
unfoldable pub gcd_of : ℕ → ℕ → ℕ
gcd_of a b = greatest_divisor (a + b) a b
