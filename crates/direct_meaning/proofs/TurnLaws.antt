-- How many turns a loop has.
use Rattle.std.proofs.Common.{◌≡◌, ℕ, zero, suc, ◌+◌, ◌*◌, ◌/◌, ◌≤◌, ℤ, pos, negsuc, ◌+ℤ◌, ◌-ℤ◌, ◌<ℤ◌, ◌≤ℤ◌, ◌∷◌, length, refl, sym, ap, ◌∙◌, subst, arith, Bool, true, false}
use Rattle.std.specs.Prelude.{int_lt, neg_ℤ}
use Rattle.std.specs.Int.{int_max, int_div_euclid}
use Rattle.std.proofs.lemmas.Int.{ints}
use Rattle.std.proofs.lemmas.Nat.{div-add-mod'}
use Rattle.std.proofs.Math.Nat.{mod-lt}
use Rattle.affine_expr.specs.Value.{floor_div, ceil_div}
use Rattle.direct_meaning.specs.Turns.{gap, turns}
use Rattle.direct_meaning.specs.Work.{turn_count}
use Rattle.direct_meaning.proofs.Laws.{turns_more, turns_end}

step_is : (s : ℕ) → 1 ≤ s → int_max (pos 1) (pos s) ≡ pos s
step_is s h = grind (arith, ints, h)

-- c steps pass the upper bound
steps_enough : (c s : ℕ) (a b : ℤ) → 1 ≤ s → b ≤ℤ (a +ℤ pos (c * s)) → length (turns a b (pos s)) ≤ c
steps_enough zero s a b h k =
    let e : 0 * s ≡ 0 = omega arith in
    let low : b ≤ℤ a = omega (arith, ints, k, e) in
    subst (λ ts. length ts ≤ 0) (sym (turns_end a b (pos s) low)) (omega arith)
steps_enough (suc c) s a b h k = by (int_lt a b) refl (λ j. steps_enough c s (a +ℤ pos s) b h j)
  where
    more : suc c * s ≡ s + c * s
    more = grind arith

    by : (t : Bool) → int_lt a b ≡ t → (b ≤ℤ ((a +ℤ pos s) +ℤ pos (c * s)) → length (turns (a +ℤ pos s) b (pos s)) ≤ c) → length (turns a b (pos s)) ≤ suc c
    by true t rest =
        let less : a <ℤ b = grind (arith, ints, t) in
        let e = turns_more a b (pos s) less ∙ ap (λ z. a ∷ turns (a +ℤ z) b (pos s)) (step_is s h) in
        let few = rest (omega (arith, ints, k, more)) in
        subst (λ ts. length ts ≤ suc c) (sym e) (omega (arith, few))
    by false t rest =
        let low : b ≤ℤ a = grind (arith, ints, t) in
        subst (λ ts. length ts ≤ suc c) (sym (turns_end a b (pos s) low)) (omega arith)

-- the quotient rounded up, times the divisor, isn't less
pub floor_is : (z : ℤ) (s : ℕ) → floor_div z (pos s) ≡ int_div_euclid z (pos s)
unfolding floor_div
floor_is z s = let e : int_lt (pos s) (pos 0) ≡ false = grind (arith, ints) in rw e

next_multiple : (n s : ℕ) → 1 ≤ s → suc n ≤ suc (n / s) * s
next_multiple n s h =
    let less = mod-lt n {m = s} (omega (arith, h)) in
    let e : suc (n / s) * s ≡ s + n / s * s = grind arith in
    omega (arith, div-add-mod' n s, less, e)

ceil_at : (z : ℤ) (s : ℕ) → 1 ≤ s → z ≤ℤ pos (gap (neg_ℤ (int_div_euclid (neg_ℤ z) (pos s))) * s)
ceil_at (pos zero) s h = omega (arith, ints)
ceil_at (pos (suc n)) s h = let k = next_multiple n s h in omega (arith, ints, k)
ceil_at (negsuc n) s h = omega (arith, ints)

ceil_enough : (z : ℤ) (s : ℕ) → 1 ≤ s → z ≤ℤ pos (gap (ceil_div z (pos s)) * s)
unfolding ceil_div
ceil_enough z s h = subst (λ q. z ≤ℤ pos (gap (neg_ℤ q) * s)) (sym (floor_is (neg_ℤ z) s)) (ceil_at z s h)

-- a loop whose bounds lie within others has no more turns than these say
at_step : (low high a b : ℤ) (s : ℕ) → 1 ≤ s → a ≤ℤ low → high ≤ℤ b → length (turns low high (pos s)) ≤ turn_count a b (pos s)
at_step low high a b s h p q =
    let k = ceil_enough (b -ℤ a) s h in
    steps_enough (turn_count a b (pos s)) s low high h (omega (arith, ints, k, p, q))

pub turns_bounded : (low high a b s : ℤ) → pos 0 <ℤ s → a ≤ℤ low → high ≤ℤ b → length (turns low high s) ≤ turn_count a b s
turns_bounded low high a b (pos s) h p q = at_step low high a b s (omega (arith, ints, h)) p q
turns_bounded low high a b (negsuc s) h p q = absurd (omega (arith, ints, h))
