-- The tests of ranges, and what they say.
use Rattle.std.proofs.Common.{◌≡◌, ℕ, ◌-◌, ◌^◌, ◌<◌, ◌&&◌, Bool, true, ℤ, pos, neg_ℤ, ◌≤ℤ◌, ◌<ℤ◌, ◌∙◌, ap, arith}
use Rattle.std.specs.Prelude.{int_le}
use Rattle.std.proofs.lemmas.Int.{ints}
use Rattle.std.proofs.lemmas.Nat.{pow_pos}
use Rattle.affine_expr.specs.declared.map.Interval.{Interval}
use Rattle.int_ops.specs.Wrapped.{InRange}
use Rattle.direct_meaning.specs.Memory.{InInterval}
use Rattle.mem_image.specs.Forms.{is_between, signed_range}
use Rattle.mem_image.proofs.Numbers.{and_left, and_right}

le_yes : (a b : ℤ) → int_le a b ≡ true → a ≤ℤ b
le_yes a b h = grind (arith, ints)

le_is : (a b : ℤ) → a ≤ℤ b → int_le a b ≡ true
le_is a b h = grind (arith, ints)

below_limit : (a : ℕ) (z : ℤ) → 0 < a → z ≤ℤ pos (a - 1) → z <ℤ pos a
below_limit a z p h = omega (arith, ints)

at_most : (a : ℕ) (z : ℤ) → 0 < a → z <ℤ pos a → z ≤ℤ pos (a - 1)
at_most a z p h = omega (arith, ints)

some_power : (n : ℕ) → 0 < 2 ^ n
some_power n = pow_pos n

pub in_range : (bits : ℕ) (z : ℤ) → is_between (signed_range bits) z ≡ true → InRange bits z
in_range bits z h = record {
  least = le_yes (neg_ℤ (pos (2 ^ (bits - 1)))) z (and_left (int_le (neg_ℤ (pos (2 ^ (bits - 1)))) z) (int_le z (pos (2 ^ (bits - 1) - 1))) h);
  most = below_limit (2 ^ (bits - 1)) z (some_power (bits - 1)) (le_yes z (pos (2 ^ (bits - 1) - 1)) (and_right (int_le (neg_ℤ (pos (2 ^ (bits - 1)))) z) (int_le z (pos (2 ^ (bits - 1) - 1))) h));
}

both_true : (a b : Bool) → a ≡ true → b ≡ true → (a && b) ≡ true
both_true a b p q = ap (λ x. x && b) p ∙ q

pub range_in : (bits : ℕ) (z : ℤ) → InRange bits z → is_between (signed_range bits) z ≡ true
range_in bits z h = both_true (int_le (neg_ℤ (pos (2 ^ (bits - 1)))) z) (int_le z (pos (2 ^ (bits - 1) - 1))) (le_is (neg_ℤ (pos (2 ^ (bits - 1)))) z h.least) (le_is z (pos (2 ^ (bits - 1) - 1)) (at_most (2 ^ (bits - 1)) z (some_power (bits - 1)) h.most))

pub in_interval : (range : Interval) (z : ℤ) → is_between range z ≡ true → InInterval range z
in_interval range z h = record {
  low = le_yes range.least z (and_left (int_le range.least z) (int_le z range.greatest) h);
  high = le_yes z range.greatest (and_right (int_le range.least z) (int_le z range.greatest) h);
}

pub interval_in : (range : Interval) (z : ℤ) → InInterval range z → is_between range z ≡ true
interval_in range z h = both_true (int_le range.least z) (int_le z range.greatest) (le_is range.least z h.low) (le_is z range.greatest h.high)
