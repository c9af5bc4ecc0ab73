-- Quotients that are rounded toward zero, down or up: how large they are, and where they lie.
use Rattle.std.proofs.Common.{◌≡◌, ℕ, ◌*◌, ◌^◌, ◌≤◌, Bool, true, false, ℤ, pos, negsuc, neg_ℤ, ◌*ℤ◌, ◌<ℤ◌, FitsSigned, to_z, of_z, refl, ap, arith, mul-le-mul}
use Rattle.std.specs.Prelude.{if◌then◌else◌, int_lt, int_div, unsigned_abs, ◌≢◌}
use Rattle.std.specs.Int.{int_div_euclid, w64, w128}
use Rattle.std.proofs.lemmas.Int.{ints, unsigned_abs-mul, to_z-of_z}
use Rattle.num_row.proofs.Floors.{floor_below, floor_above}
use Rattle.num_row.proofs.Ring.{Var, ◌⊗◌, Neg, ring}
use Rattle.int_ops.specs.Wrapped.{IsWithinProducts}
use Rattle.int_ops.specs.Operation.{quotient_down, quotient_up, IsQuotientDown, IsQuotientUp}

-- no quotient is further from 0 than its number
floor_small : (a b : ℤ) → pos 0 <ℤ b → unsigned_abs (int_div_euclid a b) ≤ unsigned_abs a
floor_small (pos a) (pos b) h = omega arith
floor_small (negsuc a) (pos b) h = omega arith
floor_small a (negsuc b) h = absurd h.lt

-- the quotient by the test of the divisor's sign
by_sign : (a b : ℤ) (t : Bool) → int_lt b (pos 0) ≡ t → b ≢ pos 0 → (P : ℤ → Type 0) → (b <ℤ pos 0 → P (int_div_euclid (neg_ℤ a) (neg_ℤ b))) → (pos 0 <ℤ b → P (int_div_euclid a b)) → P (if t then int_div_euclid (neg_ℤ a) (neg_ℤ b) else int_div_euclid a b)
by_sign a b true e n P below above = below (grind (arith, ints))
by_sign a b false e n P below above = above (let h : b ≢ pos 0 = n in grind (arith, ints))

at_negative : (a b : ℤ) → b <ℤ pos 0 → IsQuotientDown a b (int_div_euclid (neg_ℤ a) (neg_ℤ b))
at_negative a b h =
    let p : pos 0 <ℤ neg_ℤ b = omega (arith, ints) in
    let q = int_div_euclid (neg_ℤ a) (neg_ℤ b) in
    let low = floor_below (neg_ℤ a) (neg_ℤ b) p in
    let high = floor_above (neg_ℤ a) (neg_ℤ b) p in
    let m : q *ℤ neg_ℤ b ≡ neg_ℤ (q *ℤ b) = ring (Var q ⊗ Neg (Var b)) (Neg (Var q ⊗ Var b)) (omega arith) in
    record { at_positive = λ k. absurd (let x : ⊥ = omega (arith, ints) in x); at_negative = λ k. (omega (arith, ints), omega (arith, ints)) }

at_positive : (a b : ℤ) → pos 0 <ℤ b → IsQuotientDown a b (int_div_euclid a b)
at_positive a b h = record { at_positive = λ k. (floor_below a b h, floor_above a b h); at_negative = λ k. absurd (let x : ⊥ = omega (arith, ints) in x) }

pub down_placed : (a b q : ℤ) → b ≢ pos 0 → q ≡ quotient_down a b → IsQuotientDown a b q
down_placed a b q n e = rw e (by_sign a b (int_lt b (pos 0)) refl n (λ q. IsQuotientDown a b q) (at_negative a b) (at_positive a b))

down_abs : (a b : ℤ) → b ≢ pos 0 → unsigned_abs (quotient_down a b) ≤ unsigned_abs a
down_abs a b n = by_sign a b (int_lt b (pos 0)) refl n (λ q. unsigned_abs q ≤ unsigned_abs a) negative (floor_small a b)
  where
    negative : b <ℤ pos 0 → unsigned_abs (int_div_euclid (neg_ℤ a) (neg_ℤ b)) ≤ unsigned_abs a
    negative h = let s = floor_small (neg_ℤ a) (neg_ℤ b) (omega (arith, ints)) in omega (arith, ints)

within : (z a : ℤ) → FitsSigned w64 a → unsigned_abs z ≤ unsigned_abs a → IsWithinProducts z
within z a f h = record { least = omega (arith, ints); most = omega (arith, ints) }

pub down_small : (a b q : ℤ) → FitsSigned w64 a → b ≢ pos 0 → q ≡ quotient_down a b → IsWithinProducts q
down_small a b q f n e = rw e (within (quotient_down a b) a f (down_abs a b n))

-- the quotient that is rounded up is that of the opposite number rounded down, with the other sign
pub up_placed : (a b q : ℤ) → b ≢ pos 0 → q ≡ quotient_up a b → IsQuotientUp a b q
up_placed a b q n e =
    let d = down_placed (neg_ℤ a) b (neg_ℤ q) n (omega (arith, ints, ap neg_ℤ e)) in
    let m : neg_ℤ q *ℤ b ≡ neg_ℤ (q *ℤ b) = ring (Neg (Var q) ⊗ Var b) (Neg (Var q ⊗ Var b)) (omega arith) in
    record {
      at_positive = λ p. (let x = d.at_positive p in (omega (arith, ints, x.0, x.1), omega (arith, ints, x.0, x.1)));
      at_negative = λ p. (let x = d.at_negative p in (omega (arith, ints, x.0, x.1), omega (arith, ints, x.0, x.1)));
    }

pub up_small : (a b q : ℤ) → FitsSigned w64 a → b ≢ pos 0 → q ≡ quotient_up a b → IsWithinProducts q
up_small a b q f n e = within q a f (let s = down_abs (neg_ℤ a) b n in omega (arith, ints, s, e))

-- ---- products, and the quotient that is rounded toward zero
products : (a b : ℕ) → a ≤ 2 ^ 63 → b ≤ 2 ^ 63 → a * b ≤ 2 ^ 126
products a b h k = mul-le-mul h k

product_abs : (a b : ℤ) → FitsSigned w64 a → FitsSigned w64 b → unsigned_abs (a *ℤ b) ≤ 2 ^ 126
product_abs a b f g = rw unsigned_abs-mul (products (unsigned_abs a) (unsigned_abs b) (omega (arith, ints)) (omega (arith, ints)))

pub product_small : (a b q : ℤ) → FitsSigned w64 a → FitsSigned w64 b → q ≡ a *ℤ b → IsWithinProducts q
product_small a b q f g e = rw e (bounded (a *ℤ b) (product_abs a b f g))
  where
    bounded : (z : ℤ) → unsigned_abs z ≤ 2 ^ 126 → IsWithinProducts z
    bounded z h = record { least = omega (arith, ints); most = omega (arith, ints) }

quotient_abs : (a b : ℤ) → unsigned_abs (int_div a b) ≤ unsigned_abs a
quotient_abs (pos a) (pos b) = omega arith
quotient_abs (pos a) (negsuc b) = omega (arith, ints)
quotient_abs (negsuc a) (pos b) = omega (arith, ints)
quotient_abs (negsuc a) (negsuc b) = omega arith

pub quotient_small : (a b q : ℤ) → FitsSigned w64 a → q ≡ int_div a b → IsWithinProducts q
quotient_small a b q f e = rw e (within (int_div a b) a f (quotient_abs a b))

-- the same for what the code computes, by way of the bits of its numbers
wide_fits : (z : ℤ) → FitsSigned w64 z → FitsSigned w128 z
wide_fits z f = omega (arith, ints)

through_bits : (z : ℤ) → FitsSigned w64 z → to_z w128 (of_z w128 (to_z w64 (of_z w64 z))) ≡ z
through_bits z f = rw (to_z-of_z w64 z f) (to_z-of_z w128 z (wide_fits z f))

pub computed_small : (a b : ℤ) → FitsSigned w64 a → FitsSigned w64 b → IsWithinProducts (to_z w128 (of_z w128 (int_div (to_z w128 (of_z w128 (to_z w64 (of_z w64 a)))) (to_z w128 (of_z w128 (to_z w64 (of_z w64 b)))))))
computed_small a b f g =
    let s = quotient_small a b (int_div a b) f refl in
    rw (through_bits a f, through_bits b g, to_z-of_z w128 (int_div a b) (fits (int_div a b) s)) s
  where
    fits : (z : ℤ) → IsWithinProducts z → FitsSigned w128 z
    fits z s = omega (arith, ints, s.least, s.most)
