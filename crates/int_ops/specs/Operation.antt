-- What each operation is: its exact value over the integers, and where it is the fault `divide`.
use Rattle.std.specs.Prelude.{ℕ, ◌-◌, ◌/◌, ◌%◌, ◌^◌, max, min, Bool, false, if◌then◌else◌, ◌&&◌, ◌||◌, Option, Some, None, ℤ, pos, negsuc, neg_ℤ, ◌+ℤ◌, ◌-ℤ◌, ◌*ℤ◌, ◌≤ℤ◌, ◌<ℤ◌, bit_and, bit_or, bit_xor, int_div, int_lt}
use Rattle.std.specs.Ordering.{int_eq}
use Rattle.std.specs.Int.{int_div_euclid, int_max, int_min}
use Rattle.int_ops.specs.Wrapped.{wrapped, unsigned}
use Rattle.int_ops.specs.declared.operation.Op.{Op}
use Rattle.int_ops.specs.declared.operation.Op.TheVariants.{Add, Sub, Mul, DivS, RemS, DivU, RemU, FloorDivS, CeilDivS, And, Or, Xor, MaxS, MinS, MaxU, MinU}

-- the quotient rounded down, for a divisor of either sign
abbrev pub quotient_down : ℤ → ℤ → ℤ
quotient_down a b = if int_lt b (pos 0) then int_div_euclid (neg_ℤ a) (neg_ℤ b) else int_div_euclid a b

-- the quotient rounded up
abbrev pub quotient_up : ℤ → ℤ → ℤ
quotient_up a b = neg_ℤ (quotient_down (neg_ℤ a) b)

-- q is the quotient of a by b rounded down: a lies from q * b on and before (q + 1) * b, on the side of b's sign
pub record IsQuotientDown (a b q : ℤ) : Type 0 where
  pub at_positive : pos 0 <ℤ b → ((q *ℤ b) ≤ℤ a) × (a <ℤ (q *ℤ b +ℤ b))
  pub at_negative : b <ℤ pos 0 → (a ≤ℤ (q *ℤ b)) × ((q *ℤ b +ℤ b) <ℤ a)

-- q is that quotient rounded up: a lies behind (q - 1) * b and up to q * b, on the side of b's sign
pub record IsQuotientUp (a b q : ℤ) : Type 0 where
  pub at_positive : pos 0 <ℤ b → (a ≤ℤ (q *ℤ b)) × ((q *ℤ b) <ℤ (a +ℤ b))
  pub at_negative : b <ℤ pos 0 → ((q *ℤ b) ≤ℤ a) × ((a +ℤ b) <ℤ (q *ℤ b))

-- the exact value of an operation on two numbers of that many bits; `int_div` rounds toward zero
abbrev pub exact_value : Op → ℕ → ℤ → ℤ → ℤ
exact_value Add bits a b = a +ℤ b
exact_value Sub bits a b = a -ℤ b
exact_value Mul bits a b = a *ℤ b
exact_value DivS bits a b = int_div a b
exact_value RemS bits a b = a -ℤ b *ℤ int_div a b
exact_value DivU bits a b = pos (unsigned bits a / unsigned bits b)
exact_value RemU bits a b = pos (unsigned bits a % unsigned bits b)
exact_value FloorDivS bits a b = quotient_down a b
exact_value CeilDivS bits a b = quotient_up a b
exact_value And bits a b = pos (bit_and (unsigned bits a) (unsigned bits b))
exact_value Or bits a b = pos (bit_or (unsigned bits a) (unsigned bits b))
exact_value Xor bits a b = pos (bit_xor (unsigned bits a) (unsigned bits b))
exact_value MaxS bits a b = int_max a b
exact_value MinS bits a b = int_min a b
exact_value MaxU bits a b = pos (max (unsigned bits a) (unsigned bits b))
exact_value MinU bits a b = pos (min (unsigned bits a) (unsigned bits b))

-- the divisor is zero
abbrev pub is_zero_divisor : ℤ → Bool
is_zero_divisor b = int_eq b (pos 0)

-- the least number divided by -1, whose quotient is one past the greatest
abbrev pub is_least_by_minus_one : ℕ → ℤ → ℤ → Bool
is_least_by_minus_one bits a b = int_eq a (neg_ℤ (pos (2 ^ (bits - 1)))) && int_eq b (negsuc 0)

-- whether an operation on these operands is the fault `divide`
abbrev pub is_divide_fault : Op → ℕ → ℤ → ℤ → Bool
is_divide_fault DivS bits a b = is_zero_divisor b || is_least_by_minus_one bits a b
is_divide_fault FloorDivS bits a b = is_zero_divisor b || is_least_by_minus_one bits a b
is_divide_fault CeilDivS bits a b = is_zero_divisor b || is_least_by_minus_one bits a b
is_divide_fault RemS bits a b = is_zero_divisor b
is_divide_fault DivU bits a b = is_zero_divisor b
is_divide_fault RemU bits a b = is_zero_divisor b
is_divide_fault _ bits a b = false

-- what an operation gives: none at the fault, else the number of the signed range that its exact value is modulo 2 ^ bits
unfoldable pub operation : Op → ℕ → ℤ → ℤ → Option ℤ
operation op bits a b = if is_divide_fault op bits a b then None else Some (wrapped bits (exact_value op bits a b))
