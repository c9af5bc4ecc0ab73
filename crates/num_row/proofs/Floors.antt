-- Quotients by a positive integer, rounded down or up, and their remainders. At such a divisor `int_div_euclid` rounds
-- down, and `int_rem_euclid` gives the remainder from 0 up to the divisor.
use Rattle.std.proofs.Common.{◌≡◌, ℕ, zero, suc, ◌+◌, ◌-◌, ◌*◌, ◌<◌, ◌≤◌, ℤ, pos, negsuc, ◌+ℤ◌, ◌*ℤ◌, neg_ℤ, ◌<ℤ◌, ◌≤ℤ◌, refl, ap, arith}
use Rattle.std.proofs.lemmas.Int.{ints, by_lt_z}
use Rattle.num_row.proofs.Order.{mul_le_right}
use Rattle.num_row.proofs.Ring.{*ℤ-distrib_right, Var, ◌⊗◌, Neg, ring}
use native.Mathlib.Decide.{dec_le}
use Rattle.std.specs.Int.{int_div_euclid, int_rem_euclid}
use borrow.Author.Differences.{up, down}

-- the bounds of the quotient, over the naturals: an integer z is `up z - down z`
pub floor_parts : (a : ℤ) (k : ℕ) → 0 < k → (up (int_div_euclid a (pos k)) * k + down a ≤ down (int_div_euclid a (pos k)) * k + up a) × (down (int_div_euclid a (pos k)) * k + up a < up (int_div_euclid a (pos k)) * k + down a + k)
floor_parts (pos a) k h = omega arith
floor_parts (negsuc a) k h = omega arith

-- the same for quotient and remainder
pub rem_parts : (a : ℤ) (k : ℕ) → 0 < k → (up (int_rem_euclid a (pos k)) + up (int_div_euclid a (pos k)) * k + down a ≡ down (int_div_euclid a (pos k)) * k + up a) × (down (int_rem_euclid a (pos k)) ≡ 0) × (up (int_rem_euclid a (pos k)) < k)
rem_parts (pos a) k h = omega arith
rem_parts (negsuc a) k h = omega arith

-- a floor is at most the quotient, and more than it less one
pub floor_below : (a b : ℤ) → pos 0 <ℤ b → (int_div_euclid a b *ℤ b) ≤ℤ a
floor_below a (pos k) h = omega (arith, ints, floor_parts a k (omega (arith, ints, h)))
floor_below a (negsuc k) h = absurd h.lt

pub floor_above : (a b : ℤ) → pos 0 <ℤ b → a <ℤ (int_div_euclid a b *ℤ b +ℤ b)
floor_above a (pos k) h = omega (arith, ints, floor_parts a k (omega (arith, ints, h)))
floor_above a (negsuc k) h = absurd h.lt

-- quotient and remainder make up the number, and the remainder is below the divisor
pub floor_rest : (a b : ℤ) → pos 0 <ℤ b → int_div_euclid a b *ℤ b +ℤ int_rem_euclid a b ≡ a
floor_rest a (pos k) h = omega (arith, ints, floor_parts a k (omega (arith, ints, h)), rem_parts a k (omega (arith, ints, h)))
floor_rest a (negsuc k) h = absurd h.lt

pub rest_low : (a b : ℤ) → pos 0 <ℤ b → pos 0 ≤ℤ int_rem_euclid a b
rest_low a (pos k) h = omega (arith, ints, rem_parts a k (omega (arith, ints, h)))
rest_low a (negsuc k) h = absurd h.lt

pub rest_high : (a b : ℤ) → pos 0 <ℤ b → int_rem_euclid a b <ℤ b
rest_high a (pos k) h = omega (arith, ints, rem_parts a k (omega (arith, ints, h)))
rest_high a (negsuc k) h = absurd h.lt

-- ---- the floor is the only such number
product_ge : (d k : ℕ) → d * k < k → d ≡ 0
product_ge zero k h = refl
product_ge (suc d) k h = absurd (omega arith)

sub_mul : (m n k : ℕ) → 0 < k → m * k < n * k + k → (m - n) * k < k
sub_mul m n k z h = elim (dec_le n m) [ yes l ↦ (let e : (m - n) + n ≡ m = omega arith in omega (arith, ap (λ x. x * k) e)) | no g ↦ (let e : m - n ≡ 0 = omega arith in rw e (omega arith)) ]

below_one : (uq dq uf df k ua da : ℕ) → 0 < k → uq * k + da ≤ dq * k + ua → df * k + ua < uf * k + da + k → ((uq + df) - (uf + dq)) * k < k
below_one uq dq uf df k ua da z g h = sub_mul (uq + df) (uf + dq) k z (omega arith)

-- a number that is placed as the floor is placed is the floor
pub floor_unique : (a b q : ℤ) → pos 0 <ℤ b → (q *ℤ b) ≤ℤ a → a <ℤ (q *ℤ b +ℤ b) → q ≡ int_div_euclid a b
floor_unique a (pos k) q h low high =
    let p = floor_parts a k (omega (arith, ints, h)) in
    let f = int_div_euclid a (pos k) in
    let one = product_ge ((up q + down f) - (up f + down q)) k (below_one (up q) (down q) (up f) (down f) k (up a) (down a) (omega (arith, ints, h)) (omega (arith, ints)) p.1) in
    let two = product_ge ((up f + down q) - (up q + down f)) k (below_one (up f) (down f) (up q) (down q) k (up a) (down a) (omega (arith, ints, h)) p.0 (omega (arith, ints))) in
    omega (arith, ints, one, two)
floor_unique a (negsuc k) q h low high = absurd h.lt

-- the ceiling is the only number so placed
pub ceiling_unique : (a b q : ℤ) → pos 0 <ℤ b → a ≤ℤ (q *ℤ b) → (q *ℤ b) <ℤ (a +ℤ b) → q ≡ neg_ℤ (int_div_euclid (neg_ℤ a) b)
ceiling_unique a b q h above below =
    let m : neg_ℤ q *ℤ b ≡ neg_ℤ (q *ℤ b) = ring (Neg (Var q) ⊗ Var b) (Neg (Var q ⊗ Var b)) (omega arith) in
    let e = floor_unique (neg_ℤ a) b (neg_ℤ q) h (omega (arith, ints, m)) (omega (arith, ints, m)) in
    omega (arith, ints, e)

-- ---- bounds: q * b ≤ a says q ≤ floor, and a ≤ q * b says ceiling ≤ q
pub at_most_floor : (q a b : ℤ) → pos 0 <ℤ b → (q *ℤ b) ≤ℤ a → q ≤ℤ int_div_euclid a b
at_most_floor q a b h low = by_lt_z (int_div_euclid a b) q
    (λ less. absurd (let above = floor_above a b h in
    let m = mul_le_right (int_div_euclid a b +ℤ pos 1) q b (omega (arith, ints)) (omega (arith, ints)) in
    let e = *ℤ-distrib_right (int_div_euclid a b) (pos 1) b in
    let x : ⊥ = omega (arith, ints) in x))
    (λ at_most. at_most)

pub at_least_ceiling : (q a b : ℤ) → pos 0 <ℤ b → a ≤ℤ (q *ℤ b) → neg_ℤ (int_div_euclid (neg_ℤ a) b) ≤ℤ q
at_least_ceiling q a b h high =
    let m : neg_ℤ q *ℤ b ≡ neg_ℤ (q *ℤ b) = ring (Neg (Var q) ⊗ Var b) (Neg (Var q ⊗ Var b)) (omega arith) in
    let e = at_most_floor (neg_ℤ q) (neg_ℤ a) b h (omega (arith, ints, m)) in
    omega (arith, ints, e)

-- equal numbers less a multiple of the divisor: the remainder is the only one from 0 up to the divisor
pub rest_unique : (a b r q : ℤ) → pos 0 <ℤ b → pos 0 ≤ℤ r → r <ℤ b → q *ℤ b +ℤ r ≡ a → r ≡ int_rem_euclid a b
rest_unique a b r q h low high e =
    let s = floor_unique a b q h (omega (arith, ints)) (omega (arith, ints)) in
    let f = floor_rest a b h in
    let t : q *ℤ b ≡ int_div_euclid a b *ℤ b = ap (λ x. x *ℤ b) s in
    omega (arith, ints)
