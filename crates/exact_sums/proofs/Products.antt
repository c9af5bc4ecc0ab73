-- A product is the product of the sizes, with a sign.
use Rattle.std.proofs.Common.{◌≡◌, ℕ, ◌*◌, ◌^◌, ◌<◌, Bool, true, false, Option, Some, None, ℤ, pos, negsuc, neg_ℤ, ◌+ℤ◌, ◌-ℤ◌, ◌*ℤ◌, ◌<ℤ◌, FitsSigned, refl, sym, ◌∙◌, ap, subst, arith, true≢false, cond}
use Rattle.std.specs.Prelude.{unsigned_abs, int_lt, not}
use Rattle.std.specs.Int.{w128}
use Rattle.std.proofs.lemmas.Int.{ints, unsigned_abs-mul}
use Rattle.num_row.specs.Ints.{narrowed}
use Rattle.num_row.proofs.Narrow.{narrowed_some}
use Rattle.exact_sums.specs.Signs.{is_negative_product}

not_below : (m : ℕ) → int_lt (pos m) (pos 0) ≡ false
not_below m = by (int_lt (pos m) (pos 0)) refl
  where
    by : (b : Bool) → int_lt (pos m) (pos 0) ≡ b → b ≡ false
    by true e = let h : pos m <ℤ pos 0 = grind (arith, ints, e) in absurd (let z : ⊥ = omega (arith, ints, h) in z)
    by false e = refl

same_sign : (x y : ℤ) → is_negative_product x y ≡ false → x *ℤ y ≡ pos (unsigned_abs x * unsigned_abs y)
same_sign (pos m) (pos n) e = grind arith
same_sign (pos m) (negsuc n) e = absurd (true≢false (sym (λ i. cond (not_below m i) false true) ∙ e))
same_sign (negsuc m) (pos n) e = absurd (true≢false (sym (λ i. not (not_below n i)) ∙ e))
same_sign (negsuc m) (negsuc n) e = grind arith

other_sign : (x y : ℤ) → is_negative_product x y ≡ true → x *ℤ y ≡ neg_ℤ (pos (unsigned_abs x * unsigned_abs y))
other_sign (pos m) (pos n) e = absurd (true≢false (sym e ∙ (λ i. cond (not_below m i) (not (not_below n i)) (not_below n i))))
other_sign (pos m) (negsuc n) e = grind arith
other_sign (negsuc m) (pos n) e = grind arith
other_sign (negsuc m) (negsuc n) e = absurd (true≢false (sym e))

pub positive : (b x y : ℤ) (n : ℕ) → n ≡ unsigned_abs x * unsigned_abs y → is_negative_product x y ≡ false → narrowed (b +ℤ pos n) ≡ narrowed (b +ℤ x *ℤ y)
positive b x y n h e = ap (λ z. narrowed (b +ℤ z)) (ap pos h ∙ sym (same_sign x y e))

pub negative : (b x y : ℤ) (n : ℕ) → n ≡ unsigned_abs x * unsigned_abs y → is_negative_product x y ≡ true → narrowed (b -ℤ pos n) ≡ narrowed (b +ℤ x *ℤ y)
negative b x y n h e = ap (λ z. narrowed (b +ℤ z)) (ap (λ m. neg_ℤ (pos m)) h ∙ sym (other_sign x y e))

past : (b z : ℤ) (n : ℕ) → FitsSigned w128 b → FitsSigned w128 (b +ℤ z) → n ≡ unsigned_abs z → (n < 2 ^ 128 → ⊥) → ⊥
past b (pos m) n f g e h = h (omega (arith, ints, e, f.sfits, g.sfits))
past b (negsuc m) n f g e h = h (omega (arith, ints, e, f.sfits, g.sfits))

-- a product of 2 ^ 128 or more is too large, whatever is added to it
pub too_large : (b x y : ℤ) (r : Option ℤ) → FitsSigned w128 b → (unsigned_abs x * unsigned_abs y < 2 ^ 128 → ⊥) → r ≡ None → r ≡ narrowed (b +ℤ x *ℤ y)
too_large b x y r f h e = e ∙ by (narrowed (b +ℤ x *ℤ y)) refl
  where
    never : (s : ℤ) → narrowed (b +ℤ x *ℤ y) ≡ Some s → ⊥
    never s e =
        let k = narrowed_some (b +ℤ x *ℤ y) s e in
        past b (x *ℤ y) (unsigned_abs x * unsigned_abs y) f (subst (FitsSigned w128) (sym k.0) k.1) (sym (unsigned_abs-mul x y)) h

    by : (w : Option ℤ) → narrowed (b +ℤ x *ℤ y) ≡ w → None ≡ w
    by None e = refl
    by (Some s) e = absurd (never s e)
