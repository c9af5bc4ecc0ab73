-- What the guarded operations give, and what they say of their numbers.
use Rattle.std.proofs.Common.{◌≡◌, ◌≤◌, ◌^◌, Bool, true, false, cond, ℤ, pos, neg_ℤ, ◌*ℤ◌, ◌<ℤ◌, int_lt, Some, None, IsSome, FitsSigned, refl, ap, ◌∙◌, arith}
use Rattle.std.specs.Prelude.{unsigned_abs}
use Rattle.std.proofs.lemmas.Int.{ints, fits_signed_mul}
use Rattle.std.specs.Int.{w128, int_div_euclid, int_rem_euclid}
use Rattle.affine_expr.specs.Value.{floor_div, ceil_div, floor_mod}
use Rattle.affine_expr.specs.Bounded.{◌>>=◌}
use Rattle.affine_expr.specs.Pure.{is_outside}
use Rattle.affine_expr.specs.Guarded.{small, small_one, small_two, divided}
use Rattle.affine_expr.proofs.Divisions.{floor_is, ceil_is, mod_is}
use Rattle.affine_expr.proofs.Limits.{is_inside, small_is}

-- both numbers of a guarded operation are within the limits
pub record AreInside (x y : ℤ) : Type 0 where
  pub first : is_outside x ≡ false
  pub second : is_outside y ≡ false

two_by : (f : ℤ → ℤ → ℤ) (x y : ℤ) (s t : Bool) → is_outside x ≡ s → is_outside y ≡ t
    → IsSome (cond s None (Some x) >>= (λ u. cond t None (Some y) >>= (λ v. Some (f u v)))) → AreInside x y
two_by f x y true t d e h = absurd (let z : ⊥ = cc in z)
two_by f x y false true d e h = absurd (let z : ⊥ = cc in z)
two_by f x y false false d e h = record { first = d; second = e }

pub two_inside : (f : ℤ → ℤ → ℤ) (x y : ℤ) → IsSome (small_two f x y) → AreInside x y
unfolding small_two small
two_inside f x y h = two_by f x y (is_outside x) (is_outside y) refl refl h

pub two_is : (f : ℤ → ℤ → ℤ) (x y : ℤ) → AreInside x y → small_two f x y ≡ Some (f x y)
unfolding small_two
two_is f x y h = rw (small_is x h.first, small_is y h.second) refl

pub one_is : (f : ℤ → ℤ) (x : ℤ) → is_outside x ≡ false → small_one f x ≡ Some (f x)
unfolding small_one
one_is f x h = rw (small_is x h) refl

abs_inside : (z : ℤ) → is_outside z ≡ false → unsigned_abs z ≤ 2 ^ 62
abs_inside z h = let k = is_inside z h in omega (arith, ints)

pub product_fits : (x y : ℤ) → IsSome (small_two (λ u v. u *ℤ v) x y) → FitsSigned w128 (x *ℤ y)
product_fits x y h =
    let k = two_inside (λ u v. u *ℤ v) x y h in
    fits_signed_mul w128 x y (2 ^ 62) (2 ^ 62) (abs_inside x k.first) (abs_inside y k.second) (omega arith)

-- ---- divisions
pub record IsDivided (f : ℤ → ℤ → ℤ) (x y : ℤ) : Type 0 where
  pub positive : pos 0 <ℤ y
  pub same : divided f x y ≡ Some (f x y)

divided_by : (f : ℤ → ℤ → ℤ) (x y : ℤ) (b : Bool) → int_lt (pos 0) y ≡ b → IsSome (cond b (small_two f x y) None) → (pos 0 <ℤ y) × (cond b (small_two f x y) None ≡ Some (f x y))
divided_by f x y true e h = (omega (arith, ints, e), two_is f x y (two_inside f x y h))
divided_by f x y false e h = absurd (let z : ⊥ = cc in z)

pub divided_is : (f : ℤ → ℤ → ℤ) (x y : ℤ) → IsSome (divided f x y) → IsDivided f x y
unfolding divided
divided_is f x y h = let k = divided_by f x y (int_lt (pos 0) y) refl h in record { positive = k.0; same = k.1 }

pub divisor_positive : (f : ℤ → ℤ → ℤ) (x y : ℤ) → IsSome (divided f x y) → pos 0 <ℤ y
divisor_positive f x y h = (divided_is f x y h).positive

pub divided_floor : (x y : ℤ) → IsSome (divided floor_div x y) → divided floor_div x y ≡ Some (int_div_euclid x y)
divided_floor x y h = let k = divided_is floor_div x y h in k.same ∙ ap Some (floor_is x y k.positive)

pub divided_ceil : (x y : ℤ) → IsSome (divided ceil_div x y) → divided ceil_div x y ≡ Some (neg_ℤ (int_div_euclid (neg_ℤ x) y))
divided_ceil x y h = let k = divided_is ceil_div x y h in k.same ∙ ap Some (ceil_is x y k.positive)

pub divided_mod : (x y : ℤ) → IsSome (divided floor_mod x y) → divided floor_mod x y ≡ Some (int_rem_euclid x y)
divided_mod x y h = let k = divided_is floor_mod x y h in k.same ∙ ap Some (mod_is x y k.positive)

-- a division with inside numbers and a positive divisor is done
done_by : (f : ℤ → ℤ → ℤ) (x y : ℤ) (b : Bool) → int_lt (pos 0) y ≡ b → pos 0 <ℤ y → cond b (small_two f x y) None ≡ small_two f x y
done_by f x y true e h = refl
done_by f x y false e h = absurd (omega (arith, ints, e))

pub divided_done : (f : ℤ → ℤ → ℤ) (x y : ℤ) → pos 0 <ℤ y → AreInside x y → divided f x y ≡ Some (f x y)
unfolding divided
divided_done f x y h k = done_by f x y (int_lt (pos 0) y) refl h ∙ two_is f x y k
