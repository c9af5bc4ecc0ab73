-- A number outside the limits has no interval.
use Rattle.std.proofs.Common.{◌≡◌, ◌^◌, Bool, true, false, cond, ◌||◌, Option, Some, None, ℤ, pos, neg_ℤ, int_lt, ◌<ℤ◌, ◌≤ℤ◌, refl, sym, ap, ◌∙◌, arith}
use Rattle.std.specs.Ordering.{int_eq}
use Rattle.std.proofs.lemmas.Int.{ints}
use Rattle.std.proofs.lemmas.Bool.Decides.{Decides-int_eq}
use Rattle.affine_expr.specs.Spread.{Range, only, scaled}
use Rattle.affine_expr.specs.Bounded.{◌>>=◌}
use Rattle.affine_expr.specs.Guarded.{small}
use Rattle.affine_expr.specs.Pure.{is_outside}
use Rattle.place_intervals.specs.TermRanges.{kept, plus, less, opposite, times, first_range, size_range, added_range, numbered_range}

lt_fact : (x y : ℤ) → int_lt x y ≡ true → x <ℤ y
lt_fact x y h = grind (arith, ints, h)

lt_true : (x y : ℤ) → x <ℤ y → int_lt x y ≡ true
lt_true x y h = by (int_lt x y) refl
  where
    by : (b : Bool) → int_lt x y ≡ b → b ≡ true
    by true e = refl
    by false e = absurd (let n : y ≤ℤ x = grind (arith, ints, e) in let z : ⊥ = omega (arith, ints, n, h) in z)

or_true : (b : Bool) → (b || true) ≡ true
or_true true = refl
or_true false = refl

below_or_above : (a : ℤ) (b c : Bool) → int_lt a (neg_ℤ (pos (2 ^ 62))) ≡ b → int_lt (pos (2 ^ 62)) a ≡ c → (b || c) ≡ true → (P : ℤ → Type 0) → (a <ℤ neg_ℤ (pos (2 ^ 62)) → P a) → (pos (2 ^ 62) <ℤ a → P a) → P a
below_or_above a true c e f h P low high = low (lt_fact a (neg_ℤ (pos (2 ^ 62))) e)
below_or_above a false true e f h P low high = high (lt_fact (pos (2 ^ 62)) a f)
below_or_above a false false e f h P low high = absurd (let z : ⊥ = cc in z)

outside_neg : (a : ℤ) → is_outside a ≡ true → is_outside (neg_ℤ a) ≡ true
outside_neg a h = below_or_above a (int_lt a (neg_ℤ (pos (2 ^ 62)))) (int_lt (pos (2 ^ 62)) a) refl refl h (λ a. is_outside (neg_ℤ a) ≡ true)
    (λ l. let m : pos (2 ^ 62) <ℤ neg_ℤ a = turned (pos (2 ^ 62)) a l in ap (λ b. int_lt (neg_ℤ a) (neg_ℤ (pos (2 ^ 62))) || b) (lt_true (pos (2 ^ 62)) (neg_ℤ a) m) ∙ or_true (int_lt (neg_ℤ a) (neg_ℤ (pos (2 ^ 62)))))
    (λ l. ap (λ b. b || int_lt (pos (2 ^ 62)) (neg_ℤ a)) (lt_true (neg_ℤ a) (neg_ℤ (pos (2 ^ 62))) (under (pos (2 ^ 62)) a l)))
  where
    turned : (m a : ℤ) → a <ℤ neg_ℤ m → m <ℤ neg_ℤ a
    turned m a l = omega (arith, ints, l)

    under : (m a : ℤ) → m <ℤ a → neg_ℤ a <ℤ neg_ℤ m
    under m a l = omega (arith, ints, l)

not_one : (a : ℤ) → is_outside a ≡ true → int_eq a (pos 1) ≡ false
not_one a h = by (int_eq a (pos 1)) refl
  where
    by : (b : Bool) → int_eq a (pos 1) ≡ b → b ≡ false
    by false e = refl
    by true e = absurd (let s : a ≡ pos 1 = (Decides-int_eq a (pos 1)).0 e in let t : is_outside (pos 1) ≡ true = ap is_outside (sym s) ∙ h in let z : ⊥ = cc in z)

no_kept : (a : ℤ) → is_outside a ≡ true → kept (only a) ≡ None
no_kept a h = ap (λ b. cond (b || is_outside a) None (Some (only a))) h

no_times : (r : Range) (a : ℤ) → is_outside a ≡ true → times r a ≡ None
no_times r a h = by (kept r)
  where
    by : (w : Option Range) → (w >>= (λ x. kept (only a) >>= (λ y. kept (scaled x a)))) ≡ None
    by None = refl
    by (Some x) = ap (λ w. w >>= (λ y. kept (scaled x a))) (no_kept a h)

no_size : (r : Range) (a : ℤ) → is_outside a ≡ true → size_range r a ≡ None
no_size r a h = ap (λ b. cond b (kept r) (times r a)) (not_one a h) ∙ no_times r a h

pub no_term : (e r : Range) (a : ℤ) → is_outside a ≡ true → None ≡ added_range e r a
no_term e r a h = sym (by (int_lt a (pos 0)))
  where
    by : (b : Bool) → cond b (size_range r (neg_ℤ a) >>= (λ x. kept (less e x))) (size_range r a >>= (λ x. kept (plus e x))) ≡ None
    by true = ap (λ w. w >>= (λ x. kept (less e x))) (no_size r (neg_ℤ a) (outside_neg a h))
    by false = ap (λ w. w >>= (λ x. kept (plus e x))) (no_size r a h)

pub no_number : (e : Range) (k : ℤ) → is_outside k ≡ true → int_eq k (pos 0) ≡ false → None ≡ numbered_range e k
no_number e k h z = sym (ap (λ b. cond b (Some e) (cond (int_lt k (pos 0)) (kept (only (neg_ℤ k)) >>= (λ x. kept (less e x))) (kept (only k) >>= (λ x. kept (plus e x))))) z ∙ by (int_lt k (pos 0)))
  where
    by : (b : Bool) → cond b (kept (only (neg_ℤ k)) >>= (λ x. kept (less e x))) (kept (only k) >>= (λ x. kept (plus e x))) ≡ None
    by true = ap (λ w. w >>= (λ x. kept (less e x))) (no_kept (neg_ℤ k) (outside_neg k h))
    by false = ap (λ w. w >>= (λ x. kept (plus e x))) (no_kept k h)

-- ---- products
small_none : (a : ℤ) → small a ≡ None → is_outside a ≡ true
unfolding small
small_none a h = by (is_outside a) h
  where
    by : (b : Bool) → cond b None (Some a) ≡ None → b ≡ true
    by true h = refl
    by false h = absurd (let z : ⊥ = cc in z)

small_some : (a v : ℤ) → small a ≡ Some v → (is_outside a ≡ false) × (v ≡ a)
unfolding small
small_some a v h = by (is_outside a) h
  where
    by : (b : Bool) → cond b None (Some a) ≡ Some v → (b ≡ false) × (v ≡ a)
    by true h = absurd (let z : ⊥ = cc in z)
    by false h = (refl, cc)

pub times_none : (r : Range) (a : ℤ) → small a ≡ None → None ≡ times r a
times_none r a h = sym (no_times r a (small_none a h))

pub times_some : (r x : Range) (a v : ℤ) → Some x ≡ kept r → small a ≡ Some v → kept (scaled x v) ≡ times r a
times_some r x a v k h =
    let s = small_some a v h in
    sym (ap (λ w. w >>= (λ x. kept (only a) >>= (λ y. kept (scaled x a)))) (sym k)
    ∙ ap (λ b. cond (b || b) None (Some (only a)) >>= (λ y. kept (scaled x a))) s.0
    ∙ ap (λ b. kept (scaled x b)) (sym s.1))

pub first_minus : (r x : Range) (a : ℤ) → a ≡ neg_ℤ (pos 1) → Some x ≡ kept r → kept (opposite x) ≡ first_range r a
first_minus r x a e k = sym (ap (first_range r) e ∙ ap (λ w. w >>= (λ x. kept (opposite x))) (sym k))
