-- The turns of a loop are so many numbers with the step between them; prologue, main loop and epilogue have the first, all but
-- the last, and the last of them.
use Rattle.std.proofs.Common.{◌≡◌, ℕ, zero, suc, ◌+◌, ◌*◌, ◌-◌, ◌/◌, ◌<◌, ◌≤◌, ◌⊎◌, inl, inr, ℤ, pos, negsuc, ◌+ℤ◌, ◌-ℤ◌, ◌*ℤ◌, ◌<ℤ◌, ◌≤ℤ◌, List, [], ◌∷◌, length, take, drop, refl, sym, ap, ◌∙◌, subst, arith, Bool, true, false}
use Rattle.std.specs.Prelude.{int_lt, if◌then◌else◌}
use Rattle.std.specs.Int.{int_max, int_div_euclid}
use Rattle.std.proofs.lemmas.Int.{ints, clamps}
use Rattle.std.proofs.lemmas.Nat.{div-add-mod'}
use Rattle.std.proofs.lemmas.Bool.{cases_lt}
use Rattle.std.proofs.Math.Nat.{mod-lt, mul-le-mul_right}
use Rattle.affine_expr.specs.Value.{floor_div}
use Rattle.direct_meaning.specs.Turns.{gap, turns}
use Rattle.direct_meaning.proofs.Laws.{turns_more, turns_end}
use Rattle.direct_meaning.proofs.TurnLaws.{floor_is}
use Rattle.loop_forms.specs.Stepped.{stepped, turn_total}
use Rattle.loop_forms.specs.Split.{reach, prologue_length, prologue_end, main_end, epilogue_begin}

-- ---- parts of such a list

pub length_stepped : (a s : ℤ) (n : ℕ) → length (stepped a s n) ≡ n
length_stepped a s zero = refl
length_stepped a s (suc n) = ap suc (length_stepped (a +ℤ s) s n)

pub take_stepped : (k n : ℕ) (a s : ℤ) → k ≤ n → take k (stepped a s n) ≡ stepped a s k
take_stepped zero n a s h = refl
take_stepped (suc k) (suc n) a s h = ap (λ l. a ∷ l) (take_stepped k n (a +ℤ s) s (omega (arith, h)))
take_stepped (suc k) zero a s h = absurd (omega (arith, h))

pub take_every : (k n : ℕ) (a s : ℤ) → n ≤ k → take k (stepped a s n) ≡ stepped a s n
take_every zero zero a s h = refl
take_every (suc k) zero a s h = refl
take_every (suc k) (suc n) a s h = ap (λ l. a ∷ l) (take_every k n (a +ℤ s) s (omega (arith, h)))
take_every zero (suc n) a s h = absurd (omega (arith, h))

pub drop_stepped : (k m n : ℕ) (a : ℤ) (s : ℕ) → k + m ≡ n → drop k (stepped a (pos s) n) ≡ stepped (a +ℤ pos (k * s)) (pos s) m
drop_stepped zero m n a s h =
    let e : m ≡ n = omega (arith, h) in
    let z : a ≡ a +ℤ pos (0 * s) = (let f : 0 * s ≡ 0 = omega arith in omega (arith, ints, f)) in
    λ i. stepped (z i) (pos s) (sym e i)
drop_stepped (suc k) m (suc n) a s h =
    let e : suc k * s ≡ s + k * s = grind arith in
    let z : (a +ℤ pos s) +ℤ pos (k * s) ≡ a +ℤ pos (suc k * s) = omega (arith, ints, e) in
    drop_stepped k m n (a +ℤ pos s) s (omega (arith, h)) ∙ ap (λ b. stepped b (pos s) m) z
drop_stepped (suc k) m zero a s h = absurd (omega (arith, h))

-- ---- turns

step_is : (s : ℕ) → 1 ≤ s → int_max (pos 1) (pos s) ≡ pos s
step_is s h = grind (arith, ints, h)

-- c turns: the c-th lies below the upper bound, and one more wouldn't
record HasTurns (a b : ℤ) (s c : ℕ) : Type 0 where
  enough : b ≤ℤ (a +ℤ pos (c * s))
  needed : 0 < c → (a +ℤ pos ((c - 1) * s)) <ℤ b

turns_are : (c : ℕ) (a b : ℤ) (s : ℕ) → 1 ≤ s → HasTurns a b s c → turns a b (pos s) ≡ stepped a (pos s) c
turns_are zero a b s h k =
    let e : 0 * s ≡ 0 = omega arith in
    let m = k.enough in
    turns_end a b (pos s) (omega (arith, ints, m, e))
turns_are (suc c) a b s h k =
    let last : (a +ℤ pos (c * s)) <ℤ b = subst (λ n. (a +ℤ pos (n * s)) <ℤ b) (let e : suc c - 1 ≡ c = omega arith in e) (k.needed (omega arith)) in
    let less : a <ℤ b = omega (arith, ints, last) in
    let more : suc c * s ≡ s + c * s = grind arith in
    let m = k.enough in
    turns_more a b (pos s) less
    ∙ ap (λ z. a ∷ turns (a +ℤ z) b (pos s)) (step_is s h)
    ∙ ap (λ l. a ∷ l) (turns_are c (a +ℤ pos s) b s h (record { enough = omega (arith, ints, m, more); needed = λ some. needed c some last }))
  where
    needed : (c : ℕ) → 0 < c → (a +ℤ pos (c * s)) <ℤ b → ((a +ℤ pos s) +ℤ pos ((c - 1) * s)) <ℤ b
    needed (suc d) some last =
        let e : suc d - 1 ≡ d = omega arith in
        let more : suc d * s ≡ s + d * s = grind arith in
        subst (λ n. ((a +ℤ pos s) +ℤ pos (n * s)) <ℤ b) (sym e) (omega (arith, ints, last, more))
    needed zero some last = absurd (omega (arith, some))

total_some : (a b : ℤ) (s : ℕ) → a <ℤ b → turn_total a b s ≡ suc (gap (b -ℤ a -ℤ pos 1) / s)
total_some a b s h = let e : int_lt a b ≡ true = grind (arith, ints, h) in ap (λ t. if t then suc (gap (b -ℤ a -ℤ pos 1) / s) else 0) e

total_none : (a b : ℤ) (s : ℕ) → b ≤ℤ a → turn_total a b s ≡ 0
total_none a b s h = let e : int_lt a b ≡ false = grind (arith, ints, h) in ap (λ t. if t then suc (gap (b -ℤ a -ℤ pos 1) / s) else 0) e

sides : (a b : ℤ) → (a <ℤ b) ⊎ (b ≤ℤ a)
sides a b = by (int_lt a b) refl
  where
    by : (t : Bool) → int_lt a b ≡ t → (a <ℤ b) ⊎ (b ≤ℤ a)
    by true t = inl (grind (arith, ints, t))
    by false t = inr (grind (arith, ints, t))

gap_is : (z : ℤ) → pos 0 ≤ℤ z → pos (gap z) ≡ z
gap_is (pos n) h = refl
gap_is (negsuc n) h = absurd h.le

has_total : (a b : ℤ) (s : ℕ) → 1 ≤ s → HasTurns a b s (turn_total a b s)
has_total a b s h = by (sides a b)
  where
    by : (a <ℤ b) ⊎ (b ≤ℤ a) → HasTurns a b s (turn_total a b s)
    by (inl less) =
        let m = gap (b -ℤ a -ℤ pos 1) in
        let is : pos m ≡ b -ℤ a -ℤ pos 1 = gap_is (b -ℤ a -ℤ pos 1) (omega (arith, ints, less)) in
        let d = div-add-mod' m s in
        let r = mod-lt m {m = s} (omega (arith, h)) in
        let more : suc (m / s) * s ≡ s + (m / s) * s = grind arith in
        subst (HasTurns a b s) (sym (total_some a b s less)) (record {
          enough = omega (arith, ints, is, d, r, more);
          needed = λ some. subst (λ n. (a +ℤ pos (n * s)) <ℤ b) (let e : m / s ≡ suc (m / s) - 1 = omega arith in e) (omega (arith, ints, is, d, less));
        })
    by (inr most) =
        let e : 0 * s ≡ 0 = omega arith in
        subst (HasTurns a b s) (sym (total_none a b s most)) (record {
          enough = omega (arith, ints, most, e);
          needed = λ some. absurd (omega (arith, some));
        })

-- a loop's turns are so many numbers with the step between them
pub all_turns : (a b : ℤ) (s : ℕ) → 1 ≤ s → turns a b (pos s) ≡ stepped a (pos s) (turn_total a b s)
all_turns a b s h = turns_are (turn_total a b s) a b s h (has_total a b s h)

-- ---- the three loops, where the transfers run `lead` turns ahead

one_more : (n s : ℕ) → 1 ≤ n → n * s ≡ s + (n - 1) * s
one_more (suc n) s h = let e : suc n * s ≡ s + n * s = grind arith in e ∙ ap (λ m. s + m * s) (let f : n ≡ suc n - 1 = omega arith in f)
one_more zero s h = absurd (omega (arith, h))

parted : (n m s : ℕ) → m ≤ n → (n - m) * s + m * s ≡ n * s
parted n m s h = sym (let e : ((n - m) + m) * s ≡ (n - m) * s + m * s = grind arith in e) ∙ ap (λ k. k * s) (let f : n - m + m ≡ n = omega (arith, h) in f)

scaled : (k s : ℕ) → pos k *ℤ pos s ≡ pos (k * s)
scaled k s = grind (arith, ints)

module _ (a b : ℤ) (s n : ℕ) (h : 1 ≤ s) (many : 2 ≤ n) where
  private_ends : pos (n - 2) *ℤ pos s ≡ pos ((n - 1 - 1) * s)
  private_ends = scaled (n - 2) s ∙ ap (λ k. pos (k * s)) (let e : n - 2 ≡ n - 1 - 1 = omega (arith, many) in e)

  pub first_ones : turns a (prologue_end a b (pos s) n) (pos s) ≡ take (n - 1) (stepped a (pos s) (turn_total a b s))
  first_ones = by (cases_lt (turn_total a b s) (n - 1))
    where
      by : (turn_total a b s < n - 1) ⊎ (n - 1 ≤ turn_total a b s) → turns a (prologue_end a b (pos s) n) (pos s) ≡ take (n - 1) (stepped a (pos s) (turn_total a b s))
      by (inr le) =
          let k = has_total a b s h in
          let last = k.needed (omega (arith, many, le)) in
          let mono : (n - 1 - 1) * s ≤ (turn_total a b s - 1) * s = mul-le-mul_right s (omega (arith, le)) in
          let more = one_more (n - 1) s (omega (arith, many)) in
          let ends = private_ends in
          turns_are (n - 1) a (prologue_end a b (pos s) n) s h (record {
            enough = omega (arith, ints, clamps, more, h, ends);
            needed = λ any. omega (arith, ints, clamps, mono, last, ends);
          })
          ∙ sym (take_stepped (n - 1) (turn_total a b s) a (pos s) le)
      by (inl less) =
          let k = has_total a b s h in
          let m = k.enough in
          let mono : turn_total a b s * s ≤ (n - 1 - 1) * s = mul-le-mul_right s (omega (arith, less)) in
          let ends = private_ends in
          let same : prologue_end a b (pos s) n ≡ b = omega (arith, ints, clamps, m, mono, ends) in
          ap (λ e. turns a e (pos s)) same ∙ all_turns a b s h ∙ sym (take_every (n - 1) (turn_total a b s) a (pos s) (omega (arith, less)))

  pub all_but_last : turns a (main_end b (pos s) n) (pos s) ≡ take (turn_total a b s - (n - 1)) (stepped a (pos s) (turn_total a b s))
  all_but_last =
      turns_are (turn_total a b s - (n - 1)) a (main_end b (pos s) n) s h (by (cases_lt (turn_total a b s) (n - 1)))
      ∙ sym (take_stepped (turn_total a b s - (n - 1)) (turn_total a b s) a (pos s) (omega arith))
    where
      by : (turn_total a b s < n - 1) ⊎ (n - 1 ≤ turn_total a b s) → HasTurns a (main_end b (pos s) n) s (turn_total a b s - (n - 1))
      by (inl less) =
          let k = has_total a b s h in
          let m = k.enough in
          let none : turn_total a b s - (n - 1) ≡ 0 = omega (arith, less) in
          let mono : turn_total a b s * s ≤ (n - 1) * s = mul-le-mul_right s (omega (arith, less)) in
          let e : 0 * s ≡ 0 = omega arith in
          let ends = scaled (n - 1) s in
          subst (HasTurns a (main_end b (pos s) n) s) (sym none) (record { enough = omega (arith, ints, m, mono, e, ends); needed = λ some. absurd (omega (arith, some)) })
      by (inr le) =
          let k = has_total a b s h in
          let m = k.enough in
          let p = parted (turn_total a b s) (n - 1) s le in
          let ends = scaled (n - 1) s in
          record {
            enough = omega (arith, ints, m, p, ends);
            needed = λ some. (
                let last = k.needed (omega (arith, some)) in
                let q = parted (turn_total a b s - 1) (n - 1) s (omega (arith, some)) in
                let e : (turn_total a b s - 1 - (n - 1)) * s ≡ (turn_total a b s - (n - 1) - 1) * s = ap (λ n. n * s) (let f : turn_total a b s - 1 - (n - 1) ≡ turn_total a b s - (n - 1) - 1 = omega arith in f) in
                omega (arith, ints, last, q, e, ends));
          }

  pub last_ones : turns (epilogue_begin a b (pos s) n) b (pos s) ≡ drop (turn_total a b s - (n - 1)) (stepped a (pos s) (turn_total a b s))
  last_ones = by (sides a b) (cases_lt (turn_total a b s) (n - 1))
    where
      fewer : turn_total a b s ≤ n - 1 → stepped a (pos s) (turn_total a b s) ≡ drop (turn_total a b s - (n - 1)) (stepped a (pos s) (turn_total a b s))
      fewer few = ap (λ k. drop k (stepped a (pos s) (turn_total a b s))) (let e : 0 ≡ turn_total a b s - (n - 1) = omega (arith, few) in e)

      floor_at : a <ℤ b → floor_div (b -ℤ a -ℤ pos 1) (pos s) ≡ pos (turn_total a b s - 1)
      floor_at less =
          let is : pos (gap (b -ℤ a -ℤ pos 1)) ≡ b -ℤ a -ℤ pos 1 = gap_is (b -ℤ a -ℤ pos 1) (omega (arith, ints, less)) in
          floor_is (b -ℤ a -ℤ pos 1) s ∙ ap (λ z. int_div_euclid z (pos s)) (sym is)
          ∙ ap pos (let e : gap (b -ℤ a -ℤ pos 1) / s ≡ suc (gap (b -ℤ a -ℤ pos 1) / s) - 1 = omega arith in e ∙ ap (λ n. n - 1) (sym (total_some a b s less)))

      top : (k : ℕ) → int_max a (a +ℤ pos k) ≡ a +ℤ pos k
      top k = omega (arith, ints, clamps)

      below : (z : ℤ) → z ≤ℤ pos 0 → (z *ℤ pos s) ≤ℤ pos 0
      below (pos zero) h = omega (arith, ints)
      below (pos (suc n)) h = absurd (omega (arith, ints, h))
      below (negsuc n) h = omega (arith, ints)

      down : (z : ℤ) → z ≤ℤ pos 0 → int_max a (a +ℤ z *ℤ pos s) ≡ a
      down z h = let k = below z h in omega (arith, ints, clamps, k)

      by : (a <ℤ b) ⊎ (b ≤ℤ a) → (turn_total a b s < n - 1) ⊎ (n - 1 ≤ turn_total a b s)
          → turns (epilogue_begin a b (pos s) n) b (pos s) ≡ drop (turn_total a b s - (n - 1)) (stepped a (pos s) (turn_total a b s))
      by (inr most) (inr le) = let none = total_none a b s most in absurd (omega (arith, le, none, many))
      by (inr most) (inl few) =
          turns_end (epilogue_begin a b (pos s) n) b (pos s) (omega (arith, ints, clamps, most)) ∙ ap (stepped a (pos s)) (sym (total_none a b s most))
          ∙ fewer (omega (arith, few))
      by (inl less) (inr le) =
          let k = has_total a b s h in
          let m = k.enough in
          let last = k.needed (omega (arith, many, le)) in
          let p = parted (turn_total a b s) (n - 1) s le in
          let q = parted (turn_total a b s - 1) (n - 1 - 1) s (omega (arith, le)) in
          let r : (turn_total a b s - 1 - (n - 1 - 1)) * s ≡ (turn_total a b s - (n - 1)) * s = ap (λ n. n * s) (let f : turn_total a b s - 1 - (n - 1 - 1) ≡ turn_total a b s - (n - 1) = omega (arith, many) in f) in
          let d : pos (turn_total a b s - 1) -ℤ pos (n - 2) ≡ pos (turn_total a b s - (n - 1)) = omega (arith, ints, le, many) in
          let begin : epilogue_begin a b (pos s) n ≡ a +ℤ pos ((turn_total a b s - (n - 1)) * s) =
          ap (λ z. int_max a (a +ℤ (z -ℤ pos (n - 2)) *ℤ pos s)) (floor_at less) ∙ ap (λ z. int_max a (a +ℤ z *ℤ pos s)) d
          ∙ ap (λ z. int_max a (a +ℤ z)) (scaled (turn_total a b s - (n - 1)) s) ∙ top ((turn_total a b s - (n - 1)) * s) in
          ap (λ z. turns z b (pos s)) begin
          ∙ turns_are (n - 1) (a +ℤ pos ((turn_total a b s - (n - 1)) * s)) b s h (record {
            enough = omega (arith, ints, m, p);
            needed = λ any. omega (arith, ints, last, q, r);
          })
          ∙ sym (drop_stepped (turn_total a b s - (n - 1)) (n - 1) (turn_total a b s) a s (omega (arith, le)))
      by (inl less) (inl few) =
          let one : 1 ≤ turn_total a b s = (let e = total_some a b s less in omega (arith, e)) in
          let low : (pos (turn_total a b s - 1) -ℤ pos (n - 2)) ≤ℤ pos 0 = omega (arith, ints, few) in
          let begin : epilogue_begin a b (pos s) n ≡ a =
          ap (λ z. int_max a (a +ℤ (z -ℤ pos (n - 2)) *ℤ pos s)) (floor_at less) ∙ down (pos (turn_total a b s - 1) -ℤ pos (n - 2)) low in
          ap (λ z. turns z b (pos s)) begin ∙ all_turns a b s h ∙ fewer (omega (arith, few))

  whole : length (turns a b (pos s)) ≡ turn_total a b s
  whole = ap length (all_turns a b s h) ∙ length_stepped a (pos s) (turn_total a b s)

-- the first turns, all but the last, and the last, for a step that is positive
abbrev pub Cut : ℤ → ℤ → ℤ → ℕ → Type 0
Cut a b s n =
    (turns a (prologue_end a b s n) s ≡ take (n - 1) (turns a b s))
    × (turns a (main_end b s n) s ≡ take (length (turns a b s) - (n - 1)) (turns a b s))
    × (turns (epilogue_begin a b s n) b s ≡ drop (length (turns a b s) - (n - 1)) (turns a b s))

pub cut : (a b s : ℤ) (n : ℕ) → pos 0 <ℤ s → 2 ≤ n → Cut a b s n
cut a b (pos s) n p many =
    let h : 1 ≤ s = omega (arith, ints, p) in
    let all = all_turns a b s h in
    let count = whole a b s n h many in (
      first_ones a b s n h many ∙ ap (take (n - 1)) (sym all),
      all_but_last a b s n h many ∙ (λ i. take (sym count i - (n - 1)) (sym all i)),
      last_ones a b s n h many ∙ (λ i. drop (sym count i - (n - 1)) (sym all i)),
    )
cut a b (negsuc s) n p many = absurd (omega (arith, ints, p))
