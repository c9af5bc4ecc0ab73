-- Integers that fit 128 bits with a sign, and sums of products formed in them.
use Rattle.std.specs.Prelude.{◌^◌, Bool, if◌then◌else◌, nat_lt, Option, Some, None, ℤ, pos, negsuc, ◌+ℤ◌, ◌*ℤ◌, option_and_then}

-- for `do`: what comes next takes the value, and none stays none
infixl 10 ◌>>=◌
abbrev pub ◌>>=◌ : {A B : Type 0} → Option A → (A → Option B) → Option B
o >>= f = option_and_then f o

-- whether z lies from -2 ^ 127 up to, and not including, 2 ^ 127; `negsuc n` is -(n + 1)
abbrev pub fits_i128 : ℤ → Bool
fits_i128 (pos n) = nat_lt n (2 ^ 127)
fits_i128 (negsuc n) = nat_lt n (2 ^ 127)

-- the integer itself where it fits, and none elsewhere
unfoldable pub narrowed : ℤ → Option ℤ
narrowed z = if fits_i128 z then Some z else None

-- `a * x + b * y`, and none where one of the products or their sum doesn't fit
unfoldable pub combined : ℤ → ℤ → ℤ → ℤ → Option ℤ
combined a x b y = do
  first ← narrowed (a *ℤ x)
  second ← narrowed (b *ℤ y)
  narrowed (first +ℤ second)
