-- Where the stride is at least the chunk, no two elements share a place.
use Rattle.std.proofs.Common.{◌≡◌, ◌≢◌, true, false, refl, nat_eq, eq-eqb, ne_eqb, ℕ, suc, ◌+◌, ◌*◌, ◌/◌, ◌%◌, ◌<◌, ◌≤◌, mul-le-mul_right, suc-mul, mod-lt, div-add-mod', sym, ap, ◌∙◌, arith}
use Rattle.std.specs.List.{range_with_len}
use Rattle.std.proofs.lemmas.List.{length-map}
use Rattle.std.proofs.lemmas.List.Folds.{list_any_at, list_any_none}
use Rattle.std.proofs.lemmas.List.FromFn.{length-range_with_len, get_or-map-range_with_len}
use native.Mathlib.Decide.{dec_le}
use Rattle.bus_model.specs.declared.transfer.Transfer.{Transfer}
use Rattle.bus_model.specs.Places.{slow_place, slow_places, meets, PlacesAreDistinct}

further : (x y n : ℕ) → x < y → x * n + n ≤ y * n
further x y n h = let a : suc x * n ≤ y * n = mul-le-mul_right n h in omega (arith, suc-mul x n)

-- numbers written with a digit below the chunk
digits : (a b a' b' chunk stride : ℕ) → chunk ≤ stride → b < chunk → b' < chunk → a * stride + b ≡ a' * stride + b' → (a ≤ a') × (a' ≤ a)
digits a b a' b' chunk stride wide lb lb' e = (
  elim (dec_le a a') [ yes h ↦ h | no h ↦ absurd (let m = further a' a stride (omega arith) in let p = a * stride in let q = a' * stride in omega arith) ],
  elim (dec_le a' a) [ yes h ↦ h | no h ↦ absurd (let m = further a a' stride (omega arith) in let p = a * stride in let q = a' * stride in omega arith) ],
)

pub places_are_distinct : PlacesAreDistinct
unfolding slow_place
places_are_distinct x some wide e f same =
    let c = x.chunk in
    let positive : 0 < c = omega arith in
    let b = mod-lt e positive in
    let b' = mod-lt f positive in
    let h : (e / c) * x.stride + e % c ≡ (f / c) * x.stride + f % c = omega arith in
    let d = digits (e / c) (e % c) (f / c) (f % c) c x.stride wide b b' h in
    let q : e / c ≡ f / c = omega arith in
    let r : e % c ≡ f % c = let k = ap (λ z. z * x.stride) q in omega arith in
    sym (div-add-mod' e c) ∙ (λ k. q k * c + r k) ∙ div-add-mod' f c

-- an element at a place is met there, and a place that no element has isn't met
pub meets_at : (t : Transfer) (i e : ℕ) → e < t.count → slow_place t e ≡ i → meets t i ≡ true
meets_at t i e lt is = list_any_at (nat_eq i) (slow_places t) e 0 (omega (arith, length-map (range_with_len 0 t.count) (slow_place t), length-range_with_len 0 t.count))
    (ap (nat_eq i) (get_or-map-range_with_len (slow_place t) 0 t.count e e 0 lt (omega arith) ∙ is) ∙ eq-eqb i i refl)

pub meets_nowhere : (t : Transfer) (i : ℕ) → ((e : ℕ) → e < t.count → slow_place t e ≢ i) → meets t i ≡ false
meets_nowhere t i apart = list_any_none (nat_eq i) (slow_places t) (λ k d lt.
    let near : k < t.count = omega (arith, length-map (range_with_len 0 t.count) (slow_place t), length-range_with_len 0 t.count) in
    ne_eqb i _ (λ h. apart k near (sym (get_or-map-range_with_len (slow_place t) 0 t.count k k d near (omega arith)) ∙ sym h)))
