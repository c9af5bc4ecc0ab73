-- Sums and products that stay at a limit.
use Rattle.std.specs.Prelude.{nat_le}
use Rattle.std.proofs.Common.{◌≡◌, Bool, true, false, ℕ, zero, suc, ◌+◌, ◌*◌, ◌≤◌, ◌⊎◌, inl, inr, min, max, refl, sym, ap, ◌∙◌, arith}

-- a sum whose first part is cut at the limit
pub sum_cut : (a b m : ℕ) → min (min a m + b) m ≡ min (a + b) m
sum_cut a b m = omega arith

pub sum_cut_right : (a b m : ℕ) → min (a + min b m) m ≡ min (a + b) m
sum_cut_right a b m = omega arith

times_least : (c m : ℕ) → m ≤ suc c * m
times_least c m = grind arith

product_large : (c m k : ℕ) → m ≤ k → min (suc c * k) m ≡ m
product_large c m k h = let p = times_least c k in omega (arith, p, h)

order : (w m : ℕ) → (w ≤ m) ⊎ (m ≤ w)
order w m = by (nat_le w m) refl
  where
    by : (t : Bool) → nat_le w m ≡ t → (w ≤ m) ⊎ (m ≤ w)
    by true e = inl (grind (arith, e))
    by false e = inr (grind (arith, e))

product_by : (c w m : ℕ) → 1 ≤ m → (w ≤ m) ⊎ (m ≤ w) → min (suc c * max 1 (min w m)) m ≡ min (suc c * max 1 w) m
product_by c w m h (inl k) = let e : min w m ≡ w = omega (arith, k) in ap (λ x. min (suc c * max 1 x) m) e
product_by c w m h (inr k) =
    let e : max 1 (min w m) ≡ m = omega (arith, k, h) in
    let l : m ≤ max 1 w = omega (arith, k) in
    ap (λ x. min (suc c * x) m) e ∙ product_large c m m (omega arith) ∙ sym (product_large c m (max 1 w) l)

-- a product whose second factor is cut at the limit
pub product_cut : (c w m : ℕ) → 1 ≤ m → min (c * max 1 (min w m)) m ≡ min (c * max 1 w) m
product_cut zero w m h = let a : zero * max 1 (min w m) ≡ 0 = grind arith in let b : zero * max 1 w ≡ 0 = grind arith in ap (λ x. min x m) (a ∙ sym b)
product_cut (suc c) w m h = product_by c w m h (order w m)
