use Rattle.std.proofs.Common.{◌≡◌, ◌^◌, Bool, true, false, cond, ltb, Option, Some, None, ℤ, pos, negsuc, ◌+ℤ◌, ◌*ℤ◌, FitsSigned, sym, ◌∙◌, refl, ap, subst, T, SomeIff}
use Rattle.std.specs.Prelude.{option_and_then}
use Rattle.std.specs.Int.{w128}
use lib.Signed.{mag}
use lib.Dec.{ltb→lt, lt→ltb}
use Rattle.num_row.specs.Ints.{fits_i128, narrowed, combined}

fits_is : (z : ℤ) → fits_i128 z ≡ ltb (mag z) (2 ^ 127)
fits_is (pos n) = refl
fits_is (negsuc n) = refl

cases : (b : Bool) (z : ℤ) (r : Option ℤ) → SomeIff r (T b) z → r ≡ cond b (Some z) None
cases true z None h = absurd (h tt)
cases true z (Some x) h = ap Some h.1
cases false z None h = refl
cases false z (Some x) h = absurd h.0

swapped : (P Q : Type 0) (r : Option ℤ) (z : ℤ) → (P → Q) → (Q → P) → SomeIff r P z → SomeIff r Q z
swapped P Q None z f g h = λ q. h (g q)
swapped P Q (Some x) z f g h = (f h.0, h.1)

pub narrowed_is : (r : Option ℤ) (z : ℤ) → SomeIff r (FitsSigned w128 z) z → r ≡ narrowed z
unfolding narrowed
narrowed_is r z h =
    cases (fits_i128 z) z r (rw fits_is (swapped (FitsSigned w128 z) (T (ltb (mag z) (2 ^ 127))) r z (λ f. lt→ltb _ _ f.sfits) (λ t. record { sfits = ltb→lt _ _ t }) h))

-- what fits is kept
pub narrowed_fits : (z : ℤ) → FitsSigned w128 z → narrowed z ≡ Some z
narrowed_fits z f = sym (narrowed_is (Some z) z (f, refl))

fitting : (z : ℤ) → fits_i128 z ≡ true → FitsSigned w128 z
fitting z e = record { sfits = ltb→lt _ _ (subst T (sym (sym (fits_is z) ∙ e)) tt) }

-- what is kept is the integer itself, and fits
pub narrowed_some : (z y : ℤ) → narrowed z ≡ Some y → (z ≡ y) × FitsSigned w128 y
unfolding narrowed
narrowed_some z y h = kept (fits_i128 z) refl h
  where
    kept : (b : Bool) → fits_i128 z ≡ b → cond b (Some z) None ≡ Some y → (z ≡ y) × FitsSigned w128 y
    kept true e h = let s : z ≡ y = cc in (s, fitting y (ap fits_i128 (sym s) ∙ e))
    kept false e h = absurd (let x : ⊥ = cc in x)

-- the last try, of the sum
last_tried : (u v : ℤ) (t : Option ℤ) → FitsSigned w128 u → FitsSigned w128 v → narrowed (u +ℤ v) ≡ t → SomeIff t (FitsSigned w128 u × FitsSigned w128 v × FitsSigned w128 (u +ℤ v)) (u +ℤ v)
last_tried u v None left right g = λ h. (let k = narrowed_fits (u +ℤ v) h.2 in let x : ⊥ = cc in x)
last_tried u v (Some t) left right g =
    let p = narrowed_some (u +ℤ v) t g in
    ((left, right, subst (λ z. FitsSigned w128 z) (sym p.0) p.1), sym p.0)

-- the sum of two integers that have been tried, where it is tried too
exact : (u v : ℤ) (r s : Option ℤ) → narrowed u ≡ r → narrowed v ≡ s → SomeIff (option_and_then (λ first. option_and_then (λ second. narrowed (first +ℤ second)) s) r) (FitsSigned w128 u × FitsSigned w128 v × FitsSigned w128 (u +ℤ v)) (u +ℤ v)
exact u v None s e f = λ h. (let k = narrowed_fits u h.0 in let x : ⊥ = cc in x)
exact u v (Some p) None e f = λ h. (let k = narrowed_fits v h.1 in let x : ⊥ = cc in x)
exact u v (Some p) (Some q) e f =
    let first = narrowed_some u p e in
    let second = narrowed_some v q f in
    let same : u +ℤ v ≡ p +ℤ q = ap (λ z. z +ℤ v) first.0 ∙ ap (λ z. p +ℤ z) second.0 in
    let left = subst (λ z. FitsSigned w128 z) (sym first.0) first.1 in
    let right = subst (λ z. FitsSigned w128 z) (sym second.0) second.1 in
    subst (λ z. SomeIff (narrowed z) (FitsSigned w128 u × FitsSigned w128 v × FitsSigned w128 (u +ℤ v)) (u +ℤ v)) same (last_tried u v (narrowed (u +ℤ v)) left right refl)

-- a combination is there exactly where its parts fit
pub combined_exact : (a x b y : ℤ) (r : Option ℤ) → r ≡ combined a x b y → SomeIff r (FitsSigned w128 (a *ℤ x) × FitsSigned w128 (b *ℤ y) × FitsSigned w128 (a *ℤ x +ℤ b *ℤ y)) (a *ℤ x +ℤ b *ℤ y)
unfolding combined
combined_exact a x b y r e = subst (λ t. SomeIff t (FitsSigned w128 (a *ℤ x) × FitsSigned w128 (b *ℤ y) × FitsSigned w128 (a *ℤ x +ℤ b *ℤ y)) (a *ℤ x +ℤ b *ℤ y)) (sym e) (exact (a *ℤ x) (b *ℤ y) (narrowed (a *ℤ x)) (narrowed (b *ℤ y)) refl refl)
