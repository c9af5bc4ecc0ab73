-- Turns that are fewer than B apart have different places in the ring.
use Rattle.std.proofs.Common.{◌≡◌, ℕ, zero, suc, ◌+◌, ◌*◌, ◌<◌, ◌≤◌, ℤ, pos, negsuc, ◌+ℤ◌, ◌-ℤ◌, ◌*ℤ◌, ◌<ℤ◌, ◌≤ℤ◌, neg_ℤ, refl, sym, ap, ◌∙◌, subst, arith}
use Rattle.std.specs.Int.{int_div_euclid}
use Rattle.std.proofs.lemmas.Int.{ints}
use Rattle.num_row.proofs.Ring.{Var, ◌⊕◌, ◌⊗◌, Neg, ring, *ℤ-distrib_right}
use Rattle.num_row.proofs.Floors.{floor_below, floor_above, floor_unique}
use Rattle.affine_expr.specs.Value.{floor_div, floor_mod}
use Rattle.direct_meaning.specs.Turns.{gap}
use Rattle.direct_meaning.proofs.TurnLaws.{floor_is}
use Rattle.ring_runs.specs.Places.{ring_place}

-- turn number k is k quotients further
quotient_at : (a : ℤ) (s k : ℕ) → 1 ≤ s → floor_div (a +ℤ pos (k * s)) (pos s) ≡ floor_div a (pos s) +ℤ pos k
quotient_at a s k h =
    let some : pos 0 <ℤ pos s = omega (arith, ints, h) in
    let q = int_div_euclid a (pos s) in
    let low = floor_below a (pos s) some in
    let high = floor_above a (pos s) some in
    let d : (q +ℤ pos k) *ℤ pos s ≡ q *ℤ pos s +ℤ pos k *ℤ pos s = *ℤ-distrib_right q (pos k) (pos s) in
    let m : pos k *ℤ pos s ≡ pos (k * s) = refl in
    floor_is (a +ℤ pos (k * s)) s
    ∙ sym (floor_unique (a +ℤ pos (k * s)) (pos s) (q +ℤ pos k) some (omega (arith, ints, low, d, m)) (omega (arith, ints, high, d, m)))
    ∙ ap (λ z. z +ℤ pos k) (sym (floor_is a s))

-- what is left by B
rest_is : (q : ℤ) (b : ℕ) → floor_mod q (pos b) ≡ q -ℤ pos b *ℤ floor_div q (pos b)
unfolding floor_mod
rest_is q b = refl

rest_within : (q : ℤ) (b : ℕ) → 1 ≤ b → (pos 0 ≤ℤ floor_mod q (pos b)) × (floor_mod q (pos b) <ℤ pos b)
rest_within q b h =
    let some : pos 0 <ℤ pos b = omega (arith, ints, h) in
    let f = floor_div q (pos b) in
    let e = floor_is q b in
    let low : (f *ℤ pos b) ≤ℤ q = subst (λ z. (z *ℤ pos b) ≤ℤ q) (sym e) (floor_below q (pos b) some) in
    let high : q <ℤ (f *ℤ pos b +ℤ pos b) = subst (λ z. q <ℤ (z *ℤ pos b +ℤ pos b)) (sym e) (floor_above q (pos b) some) in
    let c : pos b *ℤ f ≡ f *ℤ pos b = ring (Var (pos b) ⊗ Var f) (Var f ⊗ Var (pos b)) (omega arith) in
    let r = rest_is q b in
    (omega (arith, ints, low, c, r), omega (arith, ints, high, c, r))

as_natural : (z : ℤ) → pos 0 ≤ℤ z → pos (gap z) ≡ z
as_natural (pos n) h = refl
as_natural (negsuc n) h = absurd h.le

-- a place is one of the ring's
pub place_within : (i : ℤ) (s places : ℕ) → 1 ≤ places → ring_place i s places < places
place_within i s places h =
    let two = rest_within (floor_div i (pos s)) places h in
    let e = as_natural (floor_mod (floor_div i (pos s)) (pos places)) two.0 in
    omega (arith, ints, e, two)

-- equal rests of numbers that are less than B apart
same_rest : (q : ℤ) (k j b : ℕ) → 1 ≤ b → k ≤ j → j < k + b → floor_mod (q +ℤ pos k) (pos b) ≡ floor_mod (q +ℤ pos j) (pos b) → k ≡ j
same_rest q k j b h low high e =
    let f = floor_div (q +ℤ pos k) (pos b) in
    let g = floor_div (q +ℤ pos j) (pos b) in
    let x = rest_is (q +ℤ pos k) b in
    let y = rest_is (q +ℤ pos j) b in
    let d : (pos b *ℤ g) +ℤ neg_ℤ (pos b *ℤ f) ≡ pos b *ℤ (g +ℤ neg_ℤ f) = ring ((Var (pos b) ⊗ Var g) ⊕ Neg (Var (pos b) ⊗ Var f)) (Var (pos b) ⊗ (Var g ⊕ Neg (Var f))) (omega arith) in
    let n : (pos b *ℤ g) -ℤ (pos b *ℤ f) ≡ (pos b *ℤ g) +ℤ neg_ℤ (pos b *ℤ f) = omega (arith, ints) in
    by (g +ℤ neg_ℤ f) (omega (arith, ints, x, y, e, d, n))
  where
    by : (z : ℤ) → pos b *ℤ z ≡ pos j -ℤ pos k → k ≡ j
    by (pos zero) m = let zero_is : b * 0 ≡ 0 = omega arith in omega (arith, ints, m, zero_is)
    by (pos (suc n)) m = let more : b * suc n ≡ b + b * n = grind arith in absurd (omega (arith, ints, m, more, high))
    by (negsuc n) m = absurd (negative b h m)
      where
        negative : (b : ℕ) → 1 ≤ b → pos b *ℤ negsuc n ≡ pos j -ℤ pos k → ⊥
        negative zero h m = absurd (omega (arith, h))
        negative (suc c) h m = omega (arith, ints, m, low)

pub places_apart : (a : ℤ) (s places k j : ℕ) → 1 ≤ s → 1 ≤ places → k ≤ j → j < k + places
    → ring_place (a +ℤ pos (k * s)) s places ≡ ring_place (a +ℤ pos (j * s)) s places → k ≡ j
places_apart a s places k j hs hp low high e =
    let two = rest_within (floor_div (a +ℤ pos (k * s)) (pos s)) places hp in
    let three = rest_within (floor_div (a +ℤ pos (j * s)) (pos s)) places hp in
    let same : floor_mod (floor_div (a +ℤ pos (k * s)) (pos s)) (pos places) ≡ floor_mod (floor_div (a +ℤ pos (j * s)) (pos s)) (pos places) =
    sym (as_natural (floor_mod (floor_div (a +ℤ pos (k * s)) (pos s)) (pos places)) two.0) ∙ ap pos e ∙ as_natural (floor_mod (floor_div (a +ℤ pos (j * s)) (pos s)) (pos places)) three.0 in
    same_rest (floor_div a (pos s)) k j places hp low high
    (ap (λ z. floor_mod z (pos places)) (sym (quotient_at a s k hs)) ∙ same ∙ ap (λ z. floor_mod z (pos places)) (quotient_at a s j hs))
