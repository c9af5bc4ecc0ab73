-- Once all variables are eliminated, a negative constant tells whether there is a scaled point.
use Rattle.std.proofs.Common.{◌≡◌, ℕ, zero, suc, ◌<◌, ◌≤◌, Bool, true, false, ◌||◌, MatchBool, List, [], ◌∷◌, length, Ok, ℤ, pos, neg_ℤ, ◌*ℤ◌, ◌≤ℤ◌, ◌<ℤ◌, int_lt, get_or, ltb-true, refl, sym, ◌∙◌, ap, arith, nat_lt}
use Rattle.std.proofs.lemmas.Int.{ints}
use Rattle.std.proofs.lemmas.List.{get_or_past}
use Rattle.std.proofs.lemmas.Bool.{ltb-false}
use Rattle.num_row.proofs.Ring.{Var, ◌⊗◌, Neg, ring, mul_pos}
use Rattle.constraint_set.specs.Lists.{Each}
use Rattle.constraint_set.specs.Points.{LinearRow, LinearSystem, dot, HoldsAtPoint, IsPoint, AreWide}
use Rattle.constraint_set.specs.Projection.{AgreesOutside}
use Rattle.constraint_set.specs.Tidy.{tidied}
use Rattle.constraint_set.specs.Elimination.{steps, eliminated, countdown}
use Rattle.constraint_set.specs.Reach.{HasNoPoint, HasPoint, has_negative, emptiness}
use Rattle.constraint_set.proofs.Pairs.{ok_of}
use Rattle.constraint_set.proofs.Eliminating.{points_project, points_lift, eliminated_steps}

-- ---- the point of zeros
abbrev pub zeros : ℕ → List ℤ
zeros zero = []
zeros (suc n) = pos 0 ∷ zeros n

pub length-zeros : (n : ℕ) → length (zeros n) ≡ n
length-zeros zero = refl
length-zeros (suc n) = ap suc (length-zeros n)

pub get-zeros : (n i : ℕ) → get_or (zeros n) i (pos 0) ≡ pos 0
get-zeros zero i = refl
get-zeros (suc n) zero = refl
get-zeros (suc n) (suc i) = get-zeros n i

pub dot-zeros : (cs : List ℤ) (n : ℕ) → dot cs (zeros n) ≡ pos 0
dot-zeros [] n = refl
dot-zeros (c ∷ cs) zero = refl
dot-zeros (c ∷ cs) (suc n) = let e = dot-zeros cs n in let z : c *ℤ pos 0 ≡ pos 0 = ring (Var c ⊗ Var (pos 0)) (Var (pos 0)) (omega arith) in omega (arith, ints, e, z)

-- rows without a negative constant hold there
all_hold_by : (r : LinearRow) (n : ℕ) (b : Bool) → int_lt r.constant (pos 0) ≡ b → b ≡ false → HoldsAtPoint (zeros n) (pos 1) r
all_hold_by r n b e f =
    let d = dot-zeros r.coefs n in
    let low : pos 0 ≤ℤ r.constant = (let g : int_lt r.constant (pos 0) ≡ false = e ∙ f in omega (arith, ints, g)) in
    let one : r.constant *ℤ pos 1 ≡ r.constant = ring (Var r.constant ⊗ Var (pos 1)) (Var r.constant) (omega arith) in
    omega (arith, ints, d, low, one)

or_left : (a b : Bool) → (a || b) ≡ false → a ≡ false
or_left true b h = h
or_left false b h = refl

or_right : (a b : Bool) → (a || b) ≡ false → b ≡ false
or_right true b h = absurd (let x : ⊥ = cc in x)
or_right false b h = h

zeros_hold : (rows : List LinearRow) (n : ℕ) → has_negative rows ≡ false → Each (HoldsAtPoint (zeros n) (pos 1)) rows
zeros_hold [] n h = tt
zeros_hold (r ∷ rs) n h =
    (all_hold_by r n (int_lt r.constant (pos 0)) refl (or_left (int_lt r.constant (pos 0)) (has_negative rs) h), zeros_hold rs n (or_right (int_lt r.constant (pos 0)) (has_negative rs) h))

pub zeros_point : (rows : List LinearRow) (n : ℕ) → has_negative rows ≡ false → IsPoint rows (zeros n) (pos 1)
zeros_point rows n h = (omega (arith, ints), zeros_hold rows n h)

-- a row with a negative constant doesn't
negative_fails : (r : LinearRow) (n : ℕ) (q : ℤ) → pos 0 <ℤ q → r.constant <ℤ pos 0 → HoldsAtPoint (zeros n) q r → ⊥
negative_fails r n q scale low h =
    let d = dot-zeros r.coefs n in
    let m = mul_pos (neg_ℤ r.constant) q (omega (arith, ints, low)) scale in
    let e : neg_ℤ r.constant *ℤ q ≡ neg_ℤ (r.constant *ℤ q) = ring (Neg (Var r.constant) ⊗ Var q) (Neg (Var r.constant ⊗ Var q)) (omega arith) in
    let x : ⊥ = omega (arith, ints, d, m, e, h) in x

pub no_zeros_point : (rows : List LinearRow) (n : ℕ) (q : ℤ) → has_negative rows ≡ true → IsPoint rows (zeros n) q → ⊥
no_zeros_point [] n q h point = let x : ⊥ = cc in x
no_zeros_point (r ∷ rs) n q h point = by (int_lt r.constant (pos 0)) refl h (λ g. no_zeros_point rs n q g (point.0, point.1.1))
  where
    by : (b : Bool) → int_lt r.constant (pos 0) ≡ b → (b || has_negative rs) ≡ true → (has_negative rs ≡ true → ⊥) → ⊥
    by true e h rec = negative_fails r n q point.0 (omega (arith, ints, e)) point.1.0
    by false e h rec = rec h

-- ---- all places
pub countdown_within : (n m : ℕ) → n ≤ m → Each (λ k. k < m) (countdown n)
countdown_within zero m h = tt
countdown_within (suc n) m h = (omega arith, countdown_within n m (omega arith))

in_countdown : (n i : ℕ) → i < n → Each (λ k. ¬ (i ≡ k)) (countdown n) → ⊥
in_countdown zero i h out = let x : ⊥ = omega arith in x
in_countdown (suc n) i h out = in_countdown n i (let ne = out.0 in omega (arith, ne)) out.1

-- outside all places anything agrees
everywhere : (n : ℕ) (p x : List ℤ) → length p ≡ n → length x ≡ n → AgreesOutside (countdown n) p x
everywhere n p x e f = record {
  as_long = f ∙ sym e;
  same = λ i out. (let past : n ≤ i = beyond i out in get_or_past x i (pos 0) (omega arith) ∙ sym (get_or_past p i (pos 0) (omega arith)));
}
  where
    beyond : (i : ℕ) → Each (λ k. ¬ (i ≡ k)) (countdown n) → n ≤ i
    beyond i out = by (nat_lt i n) refl
      where
        by : (b : Bool) → nat_lt i n ≡ b → n ≤ i
        by true g = absurd (in_countdown n i (ltb-true i n g) out)
        by false g = ltb-false i n g

-- `emptiness` tells whether a system has a scaled point
pub emptiness_tells : (s : LinearSystem) (b : Bool) → AreWide s.vars s.rows → emptiness s ≡ Ok b → MatchBool b (HasNoPoint s) (HasPoint s)
unfolding emptiness
emptiness_tells s b wide h =
    let first = ok_of (eliminated s (countdown s.vars)) (λ rows. Ok (has_negative rows)) b h in
    let out = first.0 in
    let run = eliminated_steps s (countdown s.vars) out first.1.0 in
    let e : has_negative out ≡ b = cc in
    let within = countdown_within s.vars s.vars (omega arith) in
    tells out run within b e
  where
    tells : (out : List LinearRow) → steps (countdown s.vars) (tidied s.rows) ≡ Ok out → Each (λ k. k < s.vars) (countdown s.vars) → (b : Bool) → has_negative out ≡ b → MatchBool b (HasNoPoint s) (HasPoint s)
    tells out run within true e = λ p q point.
        no_zeros_point out s.vars q e
        (points_project s.vars (countdown s.vars) s.rows out within wide run p (zeros s.vars) q point (everywhere s.vars p (zeros s.vars) point.as_long (length-zeros s.vars))).point
    tells out run within false e =
        let up = points_lift s.vars (countdown s.vars) s.rows out within wide run (zeros s.vars) (pos 1) (record { as_long = length-zeros s.vars; point = zeros_point out s.vars e }) in
        (up.raised, (up.t *ℤ pos 1, up.point))
