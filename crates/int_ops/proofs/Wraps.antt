-- Numbers modulo a power of two: what `wrapped` and `unsigned` give, and that nothing else does.
use Rattle.std.proofs.Common.{◌≡◌, ℕ, zero, suc, ◌+◌, ◌-◌, ◌*◌, ◌^◌, ◌<◌, ◌≤◌, ℤ, pos, negsuc, neg_ℤ, ◌+ℤ◌, ◌-ℤ◌, ◌*ℤ◌, ◌<ℤ◌, refl, sym, ◌∙◌, ap, arith, to_z, of_z, FitsSigned}
use Rattle.std.specs.Prelude.{◌≢◌}
use Rattle.std.specs.Int.{int_rem_euclid, int_div_euclid, w64, w128}
use Rattle.std.proofs.lemmas.Int.{ints, to_z-of_z}
use Rattle.std.proofs.lemmas.Nat.{pow_pos, pow-add}
use Rattle.std.proofs.Math.Pow.{pow_mono}
use Rattle.num_row.proofs.Floors.{floor_rest, rest_low, rest_high, rest_unique}
use Rattle.num_row.proofs.Ring.{Var, ◌⊗◌, Neg, ring, *ℤ-distrib_right, *ℤ_assoc}
use Rattle.int_ops.specs.Wrapped.{wrapped, unsigned, IsWidth, InRange, SameModulo, IsReduced}

-- the whole range is twice its half, and the half isn't empty
pub doubled : (n : ℕ) → 1 ≤ n → 2 ^ n ≡ 2 * 2 ^ (n - 1)
doubled zero h = absurd (omega arith)
doubled (suc n) h = let e : suc n - 1 ≡ n = omega arith in rw e (omega arith)

pub half_pos : (n : ℕ) → 0 < 2 ^ (n - 1)
half_pos n = pow_pos (n - 1)

size_pos : (n : ℕ) → pos 0 <ℤ pos (2 ^ n)
size_pos n = let p = pow_pos n in omega (arith, ints)

-- ---- the signed range
pub wrapped_range : (n : ℕ) (z : ℤ) → 1 ≤ n → InRange n (wrapped n z)
unfolding wrapped
wrapped_range n z h =
    let d = doubled n h in
    let p = half_pos n in
    let s = size_pos n in
    let low = rest_low (z +ℤ pos (2 ^ (n - 1))) (pos (2 ^ n)) s in
    let high = rest_high (z +ℤ pos (2 ^ (n - 1))) (pos (2 ^ n)) s in
    record { least = omega (arith, ints); most = omega (arith, ints) }

pub wrapped_same : (n : ℕ) (z : ℤ) → SameModulo n (wrapped n z) z
unfolding wrapped
wrapped_same n z =
    let e = floor_rest (z +ℤ pos (2 ^ (n - 1))) (pos (2 ^ n)) (size_pos n) in
    let q = int_div_euclid (z +ℤ pos (2 ^ (n - 1))) (pos (2 ^ n)) in
    let m : neg_ℤ q *ℤ pos (2 ^ n) ≡ neg_ℤ (q *ℤ pos (2 ^ n)) = ring (Neg (Var q) ⊗ Var (pos (2 ^ n))) (Neg (Var q ⊗ Var (pos (2 ^ n)))) (omega arith) in
    record { turns = neg_ℤ q; same = linear (int_rem_euclid (z +ℤ pos (2 ^ (n - 1))) (pos (2 ^ n))) (q *ℤ pos (2 ^ n)) z (pos (2 ^ (n - 1))) _ e m }
  where
    linear : (r x z h y : ℤ) → x +ℤ r ≡ z +ℤ h → y ≡ neg_ℤ x → r -ℤ h ≡ z +ℤ y
    linear r x z h y e m = omega (arith, ints)

-- two numbers of the range that are equal modulo 2 ^ n are one
pub wrapped_only : (n : ℕ) (z y : ℤ) → 1 ≤ n → InRange n y → SameModulo n y z → y ≡ wrapped n z
unfolding wrapped
wrapped_only n z y h r s =
    let d = doubled n h in
    let low = r.least in
    let high = r.most in
    let m : neg_ℤ s.turns *ℤ pos (2 ^ n) ≡ neg_ℤ (s.turns *ℤ pos (2 ^ n)) = ring (Neg (Var s.turns) ⊗ Var (pos (2 ^ n))) (Neg (Var s.turns ⊗ Var (pos (2 ^ n)))) (omega arith) in
    let e = s.same in
    let u = rest_unique (z +ℤ pos (2 ^ (n - 1))) (pos (2 ^ n)) (y +ℤ pos (2 ^ (n - 1))) (neg_ℤ s.turns) (size_pos n) (omega (arith, ints)) (omega (arith, ints)) (omega (arith, ints)) in
    omega (arith, ints)

-- the three together
pub wrapped_reduced : (n : ℕ) (z : ℤ) → 1 ≤ n → IsReduced n z (wrapped n z)
wrapped_reduced n z h = record { inside = wrapped_range n z h; same = wrapped_same n z; only = λ y r s. wrapped_only n z y h r s }

-- each number is equal to itself modulo 2 ^ n, so a number of the range is kept
pub same_itself : (n : ℕ) (z : ℤ) → SameModulo n z z
same_itself n z = let e : pos 0 *ℤ pos (2 ^ n) ≡ pos 0 = ring (Var (pos 0) ⊗ Var (pos (2 ^ n))) (Var (pos 0)) (omega arith) in record { turns = pos 0; same = omega (arith, ints) }

pub same_trans : (n : ℕ) (x y z : ℤ) → SameModulo n x y → SameModulo n y z → SameModulo n x z
same_trans n x y z s t =
    let d = *ℤ-distrib_right s.turns t.turns (pos (2 ^ n)) in
    let e = s.same in
    let f = t.same in
    record { turns = s.turns +ℤ t.turns; same = omega (arith, ints) }

-- equal modulo more bits is equal modulo fewer
pub fewer_bits : (m n : ℕ) (y z : ℤ) → m ≤ n → SameModulo n y z → SameModulo m y z
fewer_bits m n y z h s =
    let k : n ≡ (n - m) + m = omega arith in
    let e : 2 ^ n ≡ 2 ^ (n - m) * 2 ^ m = ap (λ i. 2 ^ i) k ∙ pow-add 2 (n - m) m in
    let a = *ℤ_assoc s.turns (pos (2 ^ (n - m))) (pos (2 ^ m)) in
    record { turns = s.turns *ℤ pos (2 ^ (n - m)); same = s.same ∙ ap (λ q. z +ℤ s.turns *ℤ pos q) e ∙ ap (λ w. z +ℤ w) (sym a) }

pub wrapped_kept : (n : ℕ) (z : ℤ) → 1 ≤ n → InRange n z → wrapped n z ≡ z
wrapped_kept n z h r = sym (wrapped_only n z z h r (same_itself n z))

-- the range of more bits holds that of fewer, and the one of 64 bits is that of `i64`
half_grows : (m n : ℕ) → m ≤ n → 2 ^ (m - 1) ≤ 2 ^ (n - 1)
half_grows m n h = let b : m - 1 ≤ n - 1 = omega arith in pow_mono b

pub range_grows : (m n : ℕ) (z : ℤ) → m ≤ n → InRange m z → InRange n z
range_grows m n z h r =
    let p = half_grows m n h in
    let low = r.least in
    let high = r.most in
    record { least = omega (arith, ints); most = omega (arith, ints) }

pub range_fits : (n : ℕ) (z : ℤ) → n ≤ 64 → InRange n z → FitsSigned w64 z
range_fits n z h r = let p = half_grows n 64 h in omega (arith, ints, r.least, r.most)

pub fits_range : (z : ℤ) → FitsSigned w64 z → InRange 64 z
fits_range z f = record { least = omega (arith, ints); most = omega (arith, ints) }

-- ---- the unsigned value
pub unsigned_below : (n : ℕ) (z : ℤ) → unsigned n z < 2 ^ n
unfolding unsigned
unsigned_below n z = let l = rest_low z (pos (2 ^ n)) (size_pos n) in let h = rest_high z (pos (2 ^ n)) (size_pos n) in omega (arith, ints)

pub unsigned_same : (n : ℕ) (z : ℤ) → SameModulo n (pos (unsigned n z)) z
unfolding unsigned
unsigned_same n z =
    let e = floor_rest z (pos (2 ^ n)) (size_pos n) in
    let l = rest_low z (pos (2 ^ n)) (size_pos n) in
    let q = int_div_euclid z (pos (2 ^ n)) in
    let m : neg_ℤ q *ℤ pos (2 ^ n) ≡ neg_ℤ (q *ℤ pos (2 ^ n)) = ring (Neg (Var q) ⊗ Var (pos (2 ^ n))) (Neg (Var q ⊗ Var (pos (2 ^ n)))) (omega arith) in
    record { turns = neg_ℤ q; same = omega (arith, ints) }

-- of the signed range only 0 is 0 as an unsigned value
pub unsigned_positive : (n : ℕ) (z : ℤ) → 1 ≤ n → InRange n z → z ≢ pos 0 → 0 < unsigned n z
unfolding unsigned
unsigned_positive n (pos zero) h r k = absurd (k refl)
unsigned_positive n (pos (suc z)) h r k =
    let d = doubled n h in
    let p = half_pos n in
    let high = r.most in
    let m : pos 0 *ℤ pos (2 ^ n) ≡ pos 0 = ring (Var (pos 0) ⊗ Var (pos (2 ^ n))) (Var (pos 0)) (omega arith) in
    let e = rest_unique (pos (suc z)) (pos (2 ^ n)) (pos (suc z)) (pos 0) (size_pos n) (omega (arith, ints)) (omega (arith, ints)) (omega (arith, ints)) in
    omega (arith, ints)
unsigned_positive n (negsuc z) h r k =
    let d = doubled n h in
    let p = half_pos n in
    let low = r.least in
    let m : negsuc 0 *ℤ pos (2 ^ n) ≡ neg_ℤ (pos (2 ^ n)) = ring (Neg (Var (pos 1)) ⊗ Var (pos (2 ^ n))) (Neg (Var (pos (2 ^ n)))) (omega arith) in
    let e = rest_unique (negsuc z) (pos (2 ^ n)) (negsuc z +ℤ pos (2 ^ n)) (negsuc 0) (size_pos n) (omega (arith, ints)) (omega (arith, ints)) (omega (arith, ints)) in
    omega (arith, ints)

-- ---- what the code computes
wide_fits : (z : ℤ) → FitsSigned w64 z → FitsSigned w128 z
wide_fits z f = omega (arith, ints)

pub returned : (n : ℕ) (z r h : ℤ) → IsWidth n → FitsSigned w128 r → FitsSigned w128 h → r ≡ int_rem_euclid (z +ℤ h) (pos (2 ^ n)) → h ≡ pos (2 ^ (n - 1)) → to_z w64 (of_z w64 (to_z w128 (of_z w128 (to_z w128 (of_z w128 r) -ℤ to_z w128 (of_z w128 h))))) ≡ wrapped n z
unfolding wrapped
returned n z r h width fr fh er eh =
    let one = to_z-of_z w128 r fr in
    let two = to_z-of_z w128 h fh in
    let same : r -ℤ h ≡ wrapped n z = is_wrapped n z r h er eh in
    let narrow = range_fits n (wrapped n z) width.1 (wrapped_range n z (omega arith)) in
    let three = to_z-of_z w128 (wrapped n z) (wide_fits (wrapped n z) narrow) in
    let four = to_z-of_z w64 (wrapped n z) narrow in
    rw (one, two, same, three, four)
  where
    is_wrapped : (n : ℕ) (z r h : ℤ) → r ≡ int_rem_euclid (z +ℤ h) (pos (2 ^ n)) → h ≡ pos (2 ^ (n - 1)) → r -ℤ h ≡ wrapped n z
    is_wrapped n z r h er eh = ap (λ x. x -ℤ h) er ∙ ap (λ x. int_rem_euclid (z +ℤ x) (pos (2 ^ n)) -ℤ x) eh
