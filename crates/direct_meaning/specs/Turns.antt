-- The turns of a loop.
use Rattle.std.specs.Prelude.{ℕ, zero, suc, ℤ, pos, negsuc, ◌+ℤ◌, ◌-ℤ◌, List, [], ◌∷◌, int_lt, if◌then◌else◌}
use Rattle.std.specs.Int.{int_max}

-- how far above zero a number lies
abbrev pub gap : ℤ → ℕ
gap (pos n) = n
gap (negsuc n) = 0

-- a, a + s, a + 2 s and so on below b, at most n of them
abbrev pub turns_within : ℕ → ℤ → ℤ → ℤ → List ℤ
turns_within zero a b s = []
turns_within (suc n) a b s = if int_lt a b then a ∷ turns_within n (a +ℤ s) b s else []

-- the numbers a, a + s, a + 2 s and so on below b, in order. A step is positive in every valid module; another one counts
-- as 1. There are at most b - a of them
unfoldable pub turns : ℤ → ℤ → ℤ → List ℤ
turns a b s = turns_within (gap (b -ℤ a)) a b (int_max (pos 1) s)

-- the numbers from k on, n of them
abbrev pub from_on : ℕ → ℕ → List ℕ
from_on k zero = []
from_on k (suc n) = k ∷ from_on (suc k) n

-- 0, 1 and so on below n
abbrev pub below : ℕ → List ℕ
below n = from_on 0 n
