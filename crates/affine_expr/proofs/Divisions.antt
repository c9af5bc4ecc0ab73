-- Quotients and remainders by a positive integer, as the language has them.
use Rattle.std.proofs.Common.{◌≡◌, Bool, true, false, cond, ℤ, pos, neg_ℤ, ◌+ℤ◌, ◌-ℤ◌, ◌*ℤ◌, ◌<ℤ◌, ◌≤ℤ◌, int_lt, refl, ap, ◌∙◌, arith}
use Rattle.std.proofs.lemmas.Int.{ints, by_lt_z}
use Rattle.std.proofs.Math.IntN.{*ℤ_comm}
use Rattle.std.specs.Int.{int_div_euclid, int_rem_euclid}
use Rattle.num_row.proofs.Ring.{Var, ◌⊗◌, Neg, ring, *ℤ-distrib_right}
use Rattle.num_row.proofs.Order.{mul_le_right}
use Rattle.num_row.proofs.Floors.{floor_below, floor_above, floor_rest, rest_low, rest_high}
use Rattle.affine_expr.specs.Value.{floor_div, ceil_div, floor_mod}

floor_by : (a c : ℤ) (b : Bool) → int_lt c (pos 0) ≡ b → pos 0 <ℤ c → cond b (int_div_euclid (neg_ℤ a) (neg_ℤ c)) (int_div_euclid a c) ≡ int_div_euclid a c
floor_by a c true e h = absurd (omega (arith, ints, e))
floor_by a c false e h = refl

pub floor_is : (a c : ℤ) → pos 0 <ℤ c → floor_div a c ≡ int_div_euclid a c
unfolding floor_div
floor_is a c h = floor_by a c (int_lt c (pos 0)) refl h

pub ceil_is : (a c : ℤ) → pos 0 <ℤ c → ceil_div a c ≡ neg_ℤ (int_div_euclid (neg_ℤ a) c)
unfolding ceil_div
ceil_is a c h = ap neg_ℤ (floor_is (neg_ℤ a) c h)

pub mod_is : (a c : ℤ) → pos 0 <ℤ c → floor_mod a c ≡ int_rem_euclid a c
unfolding floor_mod
mod_is a c h =
    let f = floor_is a c h in
    let r = floor_rest a c h in
    let m : c *ℤ floor_div a c ≡ int_div_euclid a c *ℤ c = ap (λ z. c *ℤ z) f ∙ *ℤ_comm c (int_div_euclid a c) in
    omega (arith, ints, r, m)

-- they keep the order
pub quotient_mono : (a b c : ℤ) → pos 0 <ℤ c → a ≤ℤ b → int_div_euclid a c ≤ℤ int_div_euclid b c
quotient_mono a b c h k = by_lt_z (int_div_euclid b c) (int_div_euclid a c)
    (λ less. absurd (
    let m = mul_le_right (int_div_euclid b c +ℤ pos 1) (int_div_euclid a c) c (omega (arith, ints)) (omega (arith, ints)) in
    let e = *ℤ-distrib_right (int_div_euclid b c) (pos 1) c in
    let x : ⊥ = omega (arith, ints, m, e, floor_below a c h, floor_above b c h) in x))
    (λ at_most. at_most)

pub floor_mono : (a b c : ℤ) → pos 0 <ℤ c → a ≤ℤ b → floor_div a c ≤ℤ floor_div b c
floor_mono a b c h k = omega (arith, ints, quotient_mono a b c h k, floor_is a c h, floor_is b c h)

pub ceil_mono : (a b c : ℤ) → pos 0 <ℤ c → a ≤ℤ b → ceil_div a c ≤ℤ ceil_div b c
ceil_mono a b c h k =
    let m = quotient_mono (neg_ℤ b) (neg_ℤ a) c h (omega (arith, ints)) in
    omega (arith, ints, m, ceil_is a c h, ceil_is b c h)

pub mod_low : (a c : ℤ) → pos 0 <ℤ c → pos 0 ≤ℤ floor_mod a c
mod_low a c h = omega (arith, ints, mod_is a c h, rest_low a c h)

pub mod_high : (a c : ℤ) → pos 0 <ℤ c → floor_mod a c ≤ℤ (c -ℤ pos 1)
mod_high a c h = omega (arith, ints, mod_is a c h, rest_high a c h)

-- a negative factor turns the order
pub mul_turned : (a b k : ℤ) → k ≤ℤ pos 0 → a ≤ℤ b → (b *ℤ k) ≤ℤ (a *ℤ k)
mul_turned a b k h l =
    let m = mul_le_right a b (neg_ℤ k) l (omega (arith, ints)) in
    let e : a *ℤ neg_ℤ k ≡ neg_ℤ (a *ℤ k) = ring (Var a ⊗ Neg (Var k)) (Neg (Var a ⊗ Var k)) (omega arith) in
    let f : b *ℤ neg_ℤ k ≡ neg_ℤ (b *ℤ k) = ring (Var b ⊗ Neg (Var k)) (Neg (Var b ⊗ Var k)) (omega arith) in
    omega (arith, ints, m, e, f)
