-- Identities of polynomials over the integers. Write the two sides as `Poly`: `ring` then asks for an equation over
-- the naturals, which `omega arith` proves, since it multiplies products out there.
--     ring (Var a ⊗ (Var b ⊕ Var c)) (Var a ⊗ Var b ⊕ Var a ⊗ Var c) (omega arith) : a *ℤ (b +ℤ c) ≡ a *ℤ b +ℤ a *ℤ c
use Rattle.std.proofs.Common.{◌≡◌, ℕ, zero, suc, ◌+◌, ◌*◌, ◌<◌, ◌≤◌, ℤ, pos, negsuc, ◌+ℤ◌, ◌*ℤ◌, neg_ℤ, ◌<ℤ◌, ◌≤ℤ◌, refl, ap, arith}
use Rattle.std.proofs.lemmas.Int.{ints}
use borrow.Author.Differences.{up, down, same_in, at_most_in, below_in, sum_is_lem, product_is, neg_is}

-- a polynomial: `Var` takes any integer, a numeral or a call too
infixl 6 ◌⊕◌
infixl 7 ◌⊗◌
pub data Poly : Type 0 where
  Var : ℤ → Poly
  ◌⊕◌ : Poly → Poly → Poly
  ◌⊗◌ : Poly → Poly → Poly
  Neg : Poly → Poly

-- the integer that a polynomial is
abbrev pub value : Poly → ℤ
value (Var x) = x
value (p ⊕ q) = value p +ℤ value q
value (p ⊗ q) = value p *ℤ value q
value (Neg p) = neg_ℤ (value p)

-- a polynomial as the difference of two over the naturals, as an integer z is `up z - down z`
abbrev mutual
  pub ups : Poly → ℕ
  ups (Var x) = up x
  ups (p ⊕ q) = ups p + ups q
  ups (p ⊗ q) = ups p * ups q + downs p * downs q
  ups (Neg p) = downs p

  pub downs : Poly → ℕ
  downs (Var x) = down x
  downs (p ⊕ q) = downs p + downs q
  downs (p ⊗ q) = ups p * downs q + downs p * ups q
  downs (Neg p) = ups p

-- the product of two differences
product_sound : (a b u d v e : ℕ) (ua da : ℕ) → ua + d ≡ u + da → a + e ≡ v + b → (ua * a + da * b) + (u * e + d * v) ≡ (u * v + d * e) + (ua * b + da * a)
product_sound a b u d v e ua da h k =
    omega (arith, ap (λ n. n * a) h, ap (λ n. n * b) h, ap (λ n. n * u) k, ap (λ n. n * d) k)

-- the two polynomials over the naturals differ by the value
pub sound : (p : Poly) → up (value p) + downs p ≡ ups p + down (value p)
sound (Var x) = refl
sound (p ⊕ q) = omega (arith, sum_is_lem (value p) (value q), sound p, sound q)
sound (p ⊗ q) =
    omega (arith, product_is (value p) (value q), product_sound (up (value q)) (down (value q)) (ups p) (downs p) (ups q) (downs q) (up (value p)) (down (value p)) (sound p) (sound q))
sound (Neg p) = omega (arith, neg_is (value p), sound p)

-- two polynomials with one normal form have one value
pub ring : (p q : Poly) → ups p + downs q ≡ ups q + downs p → value p ≡ value q
ring p q h = same_in (value p) (value q) (omega (arith, sound p, sound q))

-- the same for an inequality that holds of the normal forms
pub ring_le : (p q : Poly) → ups p + downs q ≤ ups q + downs p → value p ≤ℤ value q
ring_le p q h = at_most_in (value p) (value q) (omega (arith, sound p, sound q))

pub ring_lt : (p q : Poly) → ups p + downs q < ups q + downs p → value p <ℤ value q
ring_lt p q h = below_in (value p) (value q) (omega (arith, sound p, sound q))

-- ---- laws that the library hasn't
pub *ℤ-distrib_left : (a b c : ℤ) → a *ℤ (b +ℤ c) ≡ a *ℤ b +ℤ a *ℤ c
*ℤ-distrib_left a b c = ring (Var a ⊗ (Var b ⊕ Var c)) (Var a ⊗ Var b ⊕ Var a ⊗ Var c) (omega arith)

pub *ℤ-distrib_right : (a b c : ℤ) → (a +ℤ b) *ℤ c ≡ a *ℤ c +ℤ b *ℤ c
*ℤ-distrib_right a b c = ring ((Var a ⊕ Var b) ⊗ Var c) (Var a ⊗ Var c ⊕ Var b ⊗ Var c) (omega arith)

pub *ℤ_assoc : (a b c : ℤ) → (a *ℤ b) *ℤ c ≡ a *ℤ (b *ℤ c)
*ℤ_assoc a b c = ring (Var a ⊗ Var b ⊗ Var c) (Var a ⊗ (Var b ⊗ Var c)) (omega arith)

-- one step of a dot product of a combination of two rows
pub combine_step : (a x b y p s t : ℤ) → (a *ℤ x +ℤ b *ℤ y) *ℤ p +ℤ (a *ℤ s +ℤ b *ℤ t) ≡ a *ℤ (x *ℤ p +ℤ s) +ℤ b *ℤ (y *ℤ p +ℤ t)
combine_step a x b y p s t =
    ring ((Var a ⊗ Var x ⊕ Var b ⊗ Var y) ⊗ Var p ⊕ (Var a ⊗ Var s ⊕ Var b ⊗ Var t)) (Var a ⊗ (Var x ⊗ Var p ⊕ Var s) ⊕ Var b ⊗ (Var y ⊗ Var p ⊕ Var t)) (omega arith)

-- ---- signs of products
pub mul_nonneg : (a b : ℤ) → pos 0 ≤ℤ a → pos 0 ≤ℤ b → pos 0 ≤ℤ (a *ℤ b)
mul_nonneg (pos a) (pos b) h k = omega (arith, ints)
mul_nonneg (negsuc a) b h k = absurd h.le
mul_nonneg a (negsuc b) h k = absurd k.le

pub mul_pos : (a b : ℤ) → pos 0 <ℤ a → pos 0 <ℤ b → pos 0 <ℤ (a *ℤ b)
mul_pos (pos zero) b h k = absurd h.lt
mul_pos (pos (suc a)) (pos zero) h k = absurd k.lt
mul_pos (pos (suc a)) (pos (suc b)) h k = omega (arith, ints)
mul_pos (negsuc a) b h k = absurd h.lt
mul_pos a (negsuc b) h k = absurd k.lt
