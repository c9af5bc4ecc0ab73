use Rattle.std.proofs.Common.{arith, to_z-of_z, ◌≡◌, ◌+ℤ◌, ◌*ℤ◌, ◌≤ℤ◌, ◌<ℤ◌, ℤ, of_z, pos, FitsSigned}
use Rattle.std.proofs.lemmas.Int.{ints}
use Rattle.std.specs.Int.{w128, int_div_euclid, int_rem_euclid}
use Rattle.num_row.proofs.Ring.{*ℤ-distrib_right}
use Rattle.num_row.proofs.Floors.{floor_above, floor_rest, rest_low, ceiling_unique}
use Rattle.num_row.proofs.ceil_div.Goals as goal

-- where nothing remains, the floor is exact; the code's test compares the remainder's bits with 0
floor_exact : (a b r : ℤ) → pos 0 <ℤ b → r ≡ int_rem_euclid a b → of_z w128 r ≡ 0 → FitsSigned w128 r → int_div_euclid a b *ℤ b ≡ a
floor_exact a b r h e z f = omega (arith, ints, floor_rest a b h)

-- elsewhere one more than the floor is above the quotient, and less than one above it
above_floor : (a b r : ℤ) → pos 0 <ℤ b → r ≡ int_rem_euclid a b → a ≤ℤ ((int_div_euclid a b +ℤ pos 1) *ℤ b)
above_floor a b r h e = omega (arith, ints, *ℤ-distrib_right (int_div_euclid a b) (pos 1) b, floor_above a b h)

next_floor : (a b r : ℤ) → pos 0 <ℤ b → r ≡ int_rem_euclid a b → ¬ (of_z w128 r ≡ 0) → FitsSigned w128 r → ((int_div_euclid a b +ℤ pos 1) *ℤ b) <ℤ (a +ℤ b)
next_floor a b r h e z f = omega (arith, ints, *ℤ-distrib_right (int_div_euclid a b) (pos 1) b, floor_rest a b h, rest_low a b h)

pub returns-then-rem_euclid-eq0-clause-above : goal.returns-then-rem_euclid-eq0-clause-above
returns-then-rem_euclid-eq0-clause-above c = grind (arith, ints, to_z-of_z, floor_exact)

pub returns-then-rem_euclid-eq0-clause-below : goal.returns-then-rem_euclid-eq0-clause-below
returns-then-rem_euclid-eq0-clause-below c = grind (arith, ints, to_z-of_z, floor_exact)

pub returns-else-rem_euclid-eq0-clause-above : goal.returns-else-rem_euclid-eq0-clause-above
returns-else-rem_euclid-eq0-clause-above c = grind (arith, to_z-of_z, above_floor)

pub returns-else-rem_euclid-eq0-clause-below : goal.returns-else-rem_euclid-eq0-clause-below
returns-else-rem_euclid-eq0-clause-below c = grind (arith, to_z-of_z, next_floor)

pub returns-then-rem_euclid-eq0-clause-value : goal.returns-then-rem_euclid-eq0-clause-value
returns-then-rem_euclid-eq0-clause-value c =
    ceiling_unique c.args.a c.args.b _ c.requires (returns-then-rem_euclid-eq0-clause-above c) (returns-then-rem_euclid-eq0-clause-below c)

pub returns-else-rem_euclid-eq0-clause-value : goal.returns-else-rem_euclid-eq0-clause-value
returns-else-rem_euclid-eq0-clause-value c =
    ceiling_unique c.args.a c.args.b _ c.requires (returns-else-rem_euclid-eq0-clause-above c) (returns-else-rem_euclid-eq0-clause-below c)
