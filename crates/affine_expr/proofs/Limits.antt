-- The limits of intervals, -2 ^ 62 and 2 ^ 62.
use Rattle.std.proofs.Common.{◌≡◌, ◌^◌, Bool, true, false, ◌||◌, ℤ, pos, neg_ℤ, int_lt, ◌≤ℤ◌, Some, FitsSigned, refl, arith}
use Rattle.std.proofs.lemmas.Int.{ints}
use Rattle.std.specs.Int.{w64, w128}
use Rattle.affine_expr.specs.Pure.{is_outside}
use Rattle.affine_expr.specs.Guarded.{small}

-- a number lies within the limits
pub record IsInside (z : ℤ) : Type 0 where
  pub low : neg_ℤ (pos (2 ^ 62)) ≤ℤ z
  pub high : z ≤ℤ pos (2 ^ 62)

inside_by : (z : ℤ) (s t : Bool) → int_lt z (neg_ℤ (pos (2 ^ 62))) ≡ s → int_lt (pos (2 ^ 62)) z ≡ t → (s || t) ≡ false → IsInside z
inside_by z true t e f g = cc
inside_by z false true e f g = cc
inside_by z false false e f g = record { low = omega (arith, ints, e); high = omega (arith, ints, f) }

pub is_inside : (z : ℤ) → is_outside z ≡ false → IsInside z
is_inside z h = inside_by z _ _ refl refl h

outside_by : (z : ℤ) (s t : Bool) → int_lt z (neg_ℤ (pos (2 ^ 62))) ≡ s → int_lt (pos (2 ^ 62)) z ≡ t → IsInside z → (s || t) ≡ false
outside_by z true t e f h = absurd (omega (arith, ints, e))
outside_by z false true e f h = absurd (omega (arith, ints, f))
outside_by z false false e f h = refl

pub not_outside : (z : ℤ) → IsInside z → is_outside z ≡ false
not_outside z h = outside_by z _ _ refl refl h

pub fits_w64 : (z : ℤ) → is_outside z ≡ false → FitsSigned w64 z
fits_w64 z h = let k = is_inside z h in omega (arith, ints)

pub fits_w128 : (z : ℤ) → is_outside z ≡ false → FitsSigned w128 z
fits_w128 z h = let k = is_inside z h in omega (arith, ints)

pub small_is : (z : ℤ) → is_outside z ≡ false → small z ≡ Some z
unfolding small
small_is z h = rw h refl
