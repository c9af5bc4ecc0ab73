-- Numbers modulo a power of two, and the signed range that holds one number of each class.
use Rattle.std.specs.Prelude.{◌≡◌, ℕ, ◌-◌, ◌^◌, ◌≤◌, ℤ, pos, neg_ℤ, ◌+ℤ◌, ◌-ℤ◌, ◌*ℤ◌, ◌≤ℤ◌, ◌<ℤ◌, unsigned_abs}
use Rattle.std.specs.Int.{int_rem_euclid}

-- the widths, in bits, of the numbers here
abbrev pub IsWidth : ℕ → Type 0
IsWidth bits = (2 ≤ bits) × (bits ≤ 64)

-- z lies in the signed range of that many bits: from -2 ^ (bits - 1) up to, and not including, 2 ^ (bits - 1)
pub record InRange (bits : ℕ) (z : ℤ) : Type 0 where
  pub least : neg_ℤ (pos (2 ^ (bits - 1))) ≤ℤ z
  pub most : z <ℤ pos (2 ^ (bits - 1))

-- y and z are equal modulo 2 ^ bits: they differ by a multiple of it
pub record SameModulo (bits : ℕ) (y z : ℤ) : Type 0 where
  pub turns : ℤ
  pub same : y ≡ z +ℤ turns *ℤ pos (2 ^ bits)

-- `number` is the one number of the signed range that is equal to z modulo 2 ^ bits
pub record IsReduced (bits : ℕ) (z number : ℤ) : Type 0 where
  pub inside : InRange bits number
  pub same : SameModulo bits number z
  pub only : (other : ℤ) → InRange bits other → SameModulo bits other z → other ≡ number

-- that number: the range begins at -2 ^ (bits - 1), and z lies this far above its beginning, modulo 2 ^ bits
unfoldable pub wrapped : ℕ → ℤ → ℤ
wrapped bits z = int_rem_euclid (z +ℤ pos (2 ^ (bits - 1))) (pos (2 ^ bits)) -ℤ pos (2 ^ (bits - 1))

-- z read without a sign: modulo 2 ^ bits, from 0 up
unfoldable pub unsigned : ℕ → ℤ → ℕ
unsigned bits z = unsigned_abs (int_rem_euclid z (pos (2 ^ bits)))

-- z is no further from 0 than the product of two numbers of 64 bits can be
pub record IsWithinProducts (z : ℤ) : Type 0 where
  pub least : neg_ℤ (pos (2 ^ 126)) ≤ℤ z
  pub most : z ≤ℤ pos (2 ^ 126)
