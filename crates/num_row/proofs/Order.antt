-- The order of the integers under products.
use Rattle.std.proofs.Common.{◌≡◌, ℤ, pos, ◌+ℤ◌, ◌*ℤ◌, neg_ℤ, ◌<ℤ◌, ◌≤ℤ◌, ◌⊎◌, inl, inr, arith}
use Rattle.std.proofs.lemmas.Int.{ints, by_lt_z}
use Rattle.num_row.proofs.Ring.{Var, ◌⊕◌, ◌⊗◌, Neg, ring, mul_nonneg, *ℤ-distrib_right}

-- `omega` knows this of named facts; the name serves where a chain is written out
pub ≤ℤ_trans : {a b c : ℤ} → a ≤ℤ b → b ≤ℤ c → a ≤ℤ c
≤ℤ_trans h k = omega (arith, ints)

-- cases on two integers
pub le_or_lt : (a b : ℤ) → (a ≤ℤ b) ⊎ (b <ℤ a)
le_or_lt a b = by_lt_z b a (λ h. inr h) (λ h. inl h)

-- 0 ≤ b - a says a ≤ b
gap : (a b : ℤ) → a ≤ℤ b → pos 0 ≤ℤ (b +ℤ neg_ℤ a)
gap a b h = omega (arith, ints)

-- a factor that isn't negative keeps the order
pub mul_le_right : (a b c : ℤ) → a ≤ℤ b → pos 0 ≤ℤ c → (a *ℤ c) ≤ℤ (b *ℤ c)
mul_le_right a b c h k =
    let e : (b +ℤ neg_ℤ a) *ℤ c ≡ b *ℤ c +ℤ neg_ℤ (a *ℤ c) = ring ((Var b ⊕ Neg (Var a)) ⊗ Var c) (Var b ⊗ Var c ⊕ Neg (Var a ⊗ Var c)) (omega arith) in
    let m : pos 0 ≤ℤ (b *ℤ c +ℤ neg_ℤ (a *ℤ c)) = rw e at (mul_nonneg (b +ℤ neg_ℤ a) c (gap a b h) k) in
    omega (arith, ints)

-- a positive factor can be cancelled
pub mul_cancel_right : (a b c : ℤ) → (a *ℤ c) ≤ℤ (b *ℤ c) → pos 0 <ℤ c → a ≤ℤ b
mul_cancel_right a b c h k = by_lt_z b a
    (λ less. absurd (let m = mul_le_right (b +ℤ pos 1) a c (omega (arith, ints)) (omega (arith, ints)) in
    let e = *ℤ-distrib_right b (pos 1) c in
    let x : ⊥ = omega (arith, ints) in x))
    (λ at_most. at_most)

-- a/b ≤ c/d and c/d ≤ e/f, without division
pub fraction_trans : (a b c d e f : ℤ) → pos 0 <ℤ b → pos 0 <ℤ d → pos 0 <ℤ f → (a *ℤ d) ≤ℤ (c *ℤ b) → (c *ℤ f) ≤ℤ (e *ℤ d) → (a *ℤ f) ≤ℤ (e *ℤ b)
fraction_trans a b c d e f hb hd hf h k =
    let one : ((a *ℤ d) *ℤ f) ≤ℤ ((c *ℤ b) *ℤ f) = mul_le_right _ _ f h (omega (arith, ints)) in
    let two : ((c *ℤ f) *ℤ b) ≤ℤ ((e *ℤ d) *ℤ b) = mul_le_right _ _ b k (omega (arith, ints)) in
    let x : (a *ℤ d) *ℤ f ≡ (a *ℤ f) *ℤ d = ring (Var a ⊗ Var d ⊗ Var f) (Var a ⊗ Var f ⊗ Var d) (omega arith) in
    let y : (c *ℤ b) *ℤ f ≡ (c *ℤ f) *ℤ b = ring (Var c ⊗ Var b ⊗ Var f) (Var c ⊗ Var f ⊗ Var b) (omega arith) in
    let z : (e *ℤ d) *ℤ b ≡ (e *ℤ b) *ℤ d = ring (Var e ⊗ Var d ⊗ Var b) (Var e ⊗ Var b ⊗ Var d) (omega arith) in
    mul_cancel_right (a *ℤ f) (e *ℤ b) d (≤ℤ_trans (rw x at (rw y at one)) (rw z at two)) hd
