-- Transfers whose chunks lie apart: a place tells the only element that may be there, and later elements lie behind earlier ones.
use Rattle.std.proofs.Common.{◌≡◌, ◌≢◌, ℕ, suc, ◌+◌, ◌-◌, ◌*◌, ◌/◌, ◌%◌, ◌<◌, ◌≤◌, Bool, true, false, refl, sym, ap, ◌∙◌, arith, mul-le-mul_right, suc-mul, mod-lt, div-add-mod'}
use Rattle.std.specs.Prelude.{nat_lt}
use Rattle.std.proofs.lemmas.Bool.{ltb-true, ltb-false}
use Rattle.std.proofs.lemmas.Nat.{div-mul-add, mod-mul-add}
use Rattle.std.proofs.lemmas.List.{length-map}
use Rattle.std.proofs.lemmas.List.Folds.{list_any_at, list_any_none}
use Rattle.std.proofs.lemmas.List.FromFn.{length-range_with_len, get_or-map-range_with_len}
use Rattle.std.specs.List.{range_with_len}
use native.Mathlib.Decide.{dec_le}
use Rattle.bus_model.specs.declared.transfer.Transfer.{Transfer}
use Rattle.bus_model.specs.Places.{slow_place, slow_places, meets}
use Rattle.bus_model.proofs.Places.{meets_at, meets_nowhere}
use Rattle.direct_meaning.specs.Transfers.{overlap}
use Rattle.transfer_records.specs.Found.{EndsBefore}

further : (x y n : ℕ) → x < y → x * n + n ≤ y * n
further x y n h = let a : suc x * n ≤ y * n = mul-le-mul_right n h in omega (arith, suc-mul x n)

-- no place is before the base
pub low : (t : Transfer) (place : ℕ) → place < t.base → meets t place ≡ false
unfolding slow_place
low t place h = meets_nowhere t place (λ e lt same. omega (arith, h, same))

module _ (t : Transfer) (some : 1 ≤ t.chunk) (apart : t.chunk ≤ t.stride) where
  -- an element's number and place, by its chunk and its number there
  element_at : (k r : ℕ) → r < t.chunk → slow_place t (k * t.chunk + r) ≡ t.base + k * t.stride + r
  unfolding slow_place
  element_at k r lt = (λ i. t.base + div-mul-add k t.chunk r lt i * t.stride + mod-mul-add k t.chunk r lt i)

  behind_is : (place k r : ℕ) → t.base ≤ place → k ≡ (place - t.base) / t.stride → r ≡ (place - t.base) % t.stride → t.base + k * t.stride + r ≡ place
  behind_is place k r le p q =
      let d = div-add-mod' (place - t.base) t.stride in
      let a : k * t.stride + r ≡ place - t.base = (λ i. p i * t.stride + q i) ∙ d in
      omega (arith, a, le)

  -- of an element at a place, both are told by the place
  chunk_of : (place e : ℕ) → slow_place t e ≡ place → (place - t.base) / t.stride ≡ e / t.chunk
  unfolding slow_place
  chunk_of place e same =
      let r = mod-lt e some in
      let a : place - t.base ≡ (e / t.chunk) * t.stride + e % t.chunk = omega (arith, same) in
      ap (λ n. n / t.stride) a ∙ div-mul-add (e / t.chunk) t.stride (e % t.chunk) (omega (arith, r, apart))

  inside_of : (place e : ℕ) → slow_place t e ≡ place → (place - t.base) % t.stride ≡ e % t.chunk
  unfolding slow_place
  inside_of place e same =
      let r = mod-lt e some in
      let a : place - t.base ≡ (e / t.chunk) * t.stride + e % t.chunk = omega (arith, same) in
      ap (λ n. n % t.stride) a ∙ mod-mul-add (e / t.chunk) t.stride (e % t.chunk) (omega (arith, r, apart))

  module _ (place k r : ℕ) (le : t.base ≤ place) (p : k ≡ (place - t.base) / t.stride) (q : r ≡ (place - t.base) % t.stride) where
    pub between : t.chunk ≤ r → meets t place ≡ false
    between h = meets_nowhere t place (λ e lt same. let i = inside_of place e same in let m = mod-lt e some in omega (arith, h, i, m, q))

    there : r < t.chunk → k * t.chunk + r < t.count → meets t place ≡ true
    there h lt = meets_at t place (k * t.chunk + r) lt (element_at k r h ∙ behind_is place k r le p q)

    past : t.count ≤ k * t.chunk + r → meets t place ≡ false
    past h = meets_nowhere t place (λ e lt same.
        let a : k * t.chunk + r ≡ e = (λ i. (p ∙ chunk_of place e same) i * t.chunk + (q ∙ inside_of place e same) i) ∙ div-add-mod' e t.chunk in
        omega (arith, h, lt, a))

    pub told : r < t.chunk → nat_lt (k * t.chunk + r) t.count ≡ meets t place
    told h = by (nat_lt (k * t.chunk + r) t.count) refl
      where
        by : (b : Bool) → nat_lt (k * t.chunk + r) t.count ≡ b → b ≡ meets t place
        by true e = sym (there h (ltb-true (k * t.chunk + r) t.count e))
        by false e = sym (past (ltb-false (k * t.chunk + r) t.count e))

  -- later elements lie behind
  pub rises : (e f : ℕ) → e ≤ f → slow_place t e ≤ slow_place t f
  unfolding slow_place
  rises e f le =
      let c = t.chunk in
      let re = mod-lt e some in
      let rf = mod-lt f some in
      let de = div-add-mod' e c in
      let df = div-add-mod' f c in
      elim (dec_le (suc (e / c)) (f / c)) [
        | yes h ↦ let m = further (e / c) (f / c) t.stride h in omega (arith, m, re, apart)
        | no h ↦ elim (dec_le (suc (f / c)) (e / c)) [
          | yes g ↦ let m = further (f / c) (e / c) c g in absurd (omega (arith, m, rf, de, df, le))
          | no g ↦
              let q : e / c ≡ f / c = omega (arith, h, g) in
              let s = ap (λ n. n * t.stride) q in
              let w = ap (λ n. n * c) q in
              omega (arith, s, w, de, df, le)
        ]
      ]

base_below : (t : Transfer) (e : ℕ) → t.base ≤ slow_place t e
unfolding slow_place
base_below t e = omega arith

pub ends : (one other : Transfer) → 1 ≤ one.chunk → one.chunk ≤ one.stride → (last : ℕ) → last ≡ one.count - 1 → slow_place one last < other.base → EndsBefore one other
ends one other some apart last is lt = λ e f below within.
    (let a = rises one some apart e last (omega (arith, is, below)) in
    let b = base_below other f in
    omega (arith, a, b, lt))

-- transfers without a place in common
pub no_overlap : (a b : Transfer) → ((e f : ℕ) → e < a.count → f < b.count → slow_place b f ≢ slow_place a e) → overlap a b ≡ false
no_overlap a b apart = list_any_none (meets b) (slow_places a) (λ k d lt.
    let within : k < a.count = omega (arith, lt, length-map (range_with_len 0 a.count) (slow_place a), length-range_with_len 0 a.count) in
    ap (meets b) (get_or-map-range_with_len (slow_place a) 0 a.count k k d within (omega arith)) ∙ meets_nowhere b (slow_place a k) (λ f below. apart k f within below))

pub before : (a b : Transfer) → EndsBefore a b → overlap a b ≡ false
before a b h = no_overlap a b (λ e f lt below same. let k = h e f lt below in omega (arith, k, same))

pub behind : (a b : Transfer) → EndsBefore b a → overlap a b ≡ false
behind a b h = no_overlap a b (λ e f lt below same. let k = h f e below lt in omega (arith, k, same))

-- a shared place is one of each of the two
shared : (a b : Transfer) (e f : ℕ) → e < a.count → f < b.count → slow_place b f ≡ slow_place a e → overlap a b ≡ true
shared a b e f lt below same = list_any_at (meets b) (slow_places a) e 0 (omega (arith, lt, length-map (range_with_len 0 a.count) (slow_place a), length-range_with_len 0 a.count))
    (ap (meets b) (get_or-map-range_with_len (slow_place a) 0 a.count e e 0 lt (omega arith)) ∙ meets_at b (slow_place a e) f below same)

none_either : (a b : Transfer) → overlap b a ≡ false → overlap a b ≡ false
none_either a b none = no_overlap a b (λ e f lt below same. true_false (overlap b a) (shared b a f e below lt (sym same)) none)
  where
    true_false : (b : Bool) → b ≡ true → b ≡ false → ⊥
    true_false b p q = cc

pub either_way : (a b : Transfer) → overlap a b ≡ overlap b a
either_way a b = by (overlap a b) (overlap b a) refl refl
  where
    clash : (x : Bool) → x ≡ true → x ≡ false → ⊥
    clash x p q = cc

    by : (x y : Bool) → overlap a b ≡ x → overlap b a ≡ y → overlap a b ≡ overlap b a
    by true true p q = p ∙ sym q
    by false false p q = p ∙ sym q
    by true false p q = absurd (clash (overlap a b) p (none_either a b q))
    by false true p q = absurd (clash (overlap b a) q (none_either b a p))
