-- A system with a variable v put before all others, which is the value of a form.
use Rattle.std.proofs.Common.{◌≡◌, ℕ, zero, suc, ◌<◌, ◌≤◌, List, [], ◌∷◌, ◌++◌, map, length, Ok, ℤ, pos, neg_ℤ, ◌+ℤ◌, ◌*ℤ◌, ◌≤ℤ◌, ◌<ℤ◌, get_or, refl, sym, ◌∙◌, ap, arith, subst, Bool, true, false, nat_lt, ltb-true}
use Rattle.std.proofs.lemmas.Int.{ints}
use Rattle.std.proofs.lemmas.List.{length-map, get_or_past}
use Rattle.std.proofs.lemmas.Bool.{ltb-false}
use Rattle.num_row.specs.Ints.{narrowed}
use Rattle.num_row.proofs.Narrow.{narrowed_some}
use Rattle.num_row.proofs.Ring.{Var, ◌⊕◌, ◌⊗◌, Neg, ring}
use Rattle.constraint_set.specs.Lists.{Each}
use Rattle.constraint_set.specs.Points.{LinearRow, LinearSystem, dot, value_at, HoldsAtPoint, IsPoint, PointOf, AreWide, coef}
use Rattle.constraint_set.specs.Projection.{AgreesOutside}
use Rattle.constraint_set.specs.Tidy.{tidied}
use Rattle.constraint_set.specs.Elimination.{◌>>=◌, or_wide, steps, countdown}
use Rattle.constraint_set.specs.Reach.{behind, at_least, at_most, negated, valued}
use Rattle.constraint_set.proofs.Pairs.{ok_of, some_of_wide}
use Rattle.constraint_set.proofs.Steps.{Each-append, Each-first, Each-second, Each-map, Each-unmap, Each-weaken}
use Rattle.constraint_set.proofs.Eliminating.{points_project, points_lift, out_wide}
use Rattle.constraint_set.proofs.Emptiness.{zeros, length-zeros, dot-zeros}

-- ---- the rows
negated_are : (xs ys : List ℤ) → negated xs ≡ Ok ys → ys ≡ map neg_ℤ xs
negated_are [] ys h = cc
negated_are (x ∷ xs) ys h =
    let first = ok_of (or_wide (narrowed (neg_ℤ x))) (λ first. negated xs >>= (λ rest. Ok (first ∷ rest))) ys h in
    let second = ok_of (negated xs) (λ rest. Ok (first.0 ∷ rest)) ys first.1.1 in
    let n = (narrowed_some (neg_ℤ x) first.0 (some_of_wide (narrowed (neg_ℤ x)) first.0 first.1.0)).0 in
    let rest = negated_are xs second.0 second.1.0 in
    let e : first.0 ∷ second.0 ≡ ys = cc in
    sym e ∙ ap (λ z. z ∷ second.0) (sym n) ∙ ap (λ zs. neg_ℤ x ∷ zs) rest

-- the same rows, with no test of ranges
abbrev pub valued_rows : List LinearRow → LinearRow → List LinearRow
valued_rows rows form = map behind rows ++ at_least (map neg_ℤ form.coefs) (neg_ℤ form.constant) ∷ at_most form ∷ []

pub valued_are : (s : LinearSystem) (form : LinearRow) (both : List LinearRow) → valued s form ≡ Ok both → both ≡ valued_rows s.rows form
unfolding valued
valued_are s form both h =
    let first = ok_of (negated form.coefs) (λ coefs. or_wide (narrowed (neg_ℤ form.constant)) >>= (λ constant. Ok (map behind s.rows ++ at_least coefs constant ∷ at_most form ∷ []))) both h in
    let second = ok_of (or_wide (narrowed (neg_ℤ form.constant))) (λ constant. Ok (map behind s.rows ++ at_least first.0 constant ∷ at_most form ∷ [])) both first.1.1 in
    let coefs = negated_are form.coefs first.0 first.1.0 in
    let constant = (narrowed_some (neg_ℤ form.constant) second.0 (some_of_wide (narrowed (neg_ℤ form.constant)) second.0 second.1.0)).0 in
    let e : map behind s.rows ++ at_least first.0 second.0 ∷ at_most form ∷ [] ≡ both = cc in
    sym e ∙ ap (λ xs. map behind s.rows ++ at_least xs second.0 ∷ at_most form ∷ []) coefs ∙ ap (λ z. map behind s.rows ++ at_least (map neg_ℤ form.coefs) z ∷ at_most form ∷ []) (sym constant)

pub valued_wide : (n : ℕ) (rows : List LinearRow) (form : LinearRow) → AreWide n rows → length form.coefs ≡ n → AreWide (suc n) (valued_rows rows form)
valued_wide n rows form w e =
    Each-append (λ r. length r.coefs ≡ suc n) (map behind rows) (at_least (map neg_ℤ form.coefs) (neg_ℤ form.constant) ∷ at_most form ∷ [])
    (Each-map (λ r. length r.coefs ≡ suc n) behind rows (Each-weaken (λ r. length r.coefs ≡ n) (λ r. suc (length r.coefs) ≡ suc n) (λ r f. ap suc f) rows w))
    (ap suc (length-map form.coefs neg_ℤ ∙ e), (ap suc e, tt))

-- ---- its scaled points
dot-neg : (cs p : List ℤ) → dot (map neg_ℤ cs) p ≡ neg_ℤ (dot cs p)
dot-neg [] p = refl
dot-neg (c ∷ cs) [] = refl
dot-neg (c ∷ cs) (x ∷ xs) = ap (λ z. neg_ℤ c *ℤ x +ℤ z) (dot-neg cs xs) ∙ ring (Neg (Var c) ⊗ Var x ⊕ Neg (Var (dot cs xs))) (Neg (Var c ⊗ Var x ⊕ Var (dot cs xs))) (omega arith)

module _ (form : LinearRow) (v : ℤ) (p : List ℤ) (q : ℤ) where
  behind_value : (r : LinearRow) → value_at (behind r) (v ∷ p) q ≡ value_at r p q
  behind_value r = ring (Var (pos 0) ⊗ Var v ⊕ Var (dot r.coefs p) ⊕ Var r.constant ⊗ Var q) (Var (dot r.coefs p) ⊕ Var r.constant ⊗ Var q) (omega arith)

  least_value : value_at (at_least (map neg_ℤ form.coefs) (neg_ℤ form.constant)) (v ∷ p) q ≡ v +ℤ neg_ℤ (value_at form p q)
  least_value =
      ap (λ z. pos 1 *ℤ v +ℤ z +ℤ neg_ℤ form.constant *ℤ q) (dot-neg form.coefs p)
      ∙ ring (Var (pos 1) ⊗ Var v ⊕ Neg (Var (dot form.coefs p)) ⊕ Neg (Var form.constant) ⊗ Var q) (Var v ⊕ Neg (Var (dot form.coefs p) ⊕ Var form.constant ⊗ Var q)) (omega arith)

  most_value : value_at (at_most form) (v ∷ p) q ≡ neg_ℤ v +ℤ value_at form p q
  most_value = ring (Neg (Var (pos 1)) ⊗ Var v ⊕ Var (dot form.coefs p) ⊕ Var form.constant ⊗ Var q) (Neg (Var v) ⊕ (Var (dot form.coefs p) ⊕ Var form.constant ⊗ Var q)) (omega arith)

  -- v and p are a scaled point exactly where p is, and v is the value of the form
  pub to_valued : (rows : List LinearRow) → IsPoint rows p q → v ≡ value_at form p q → IsPoint (valued_rows rows form) (v ∷ p) q
  to_valued rows point e = (
    point.0,
    Each-append (HoldsAtPoint (v ∷ p) q) (map behind rows) (at_least (map neg_ℤ form.coefs) (neg_ℤ form.constant) ∷ at_most form ∷ [])
        (Each-map (HoldsAtPoint (v ∷ p) q) behind rows (Each-weaken (HoldsAtPoint p q) (λ r. HoldsAtPoint (v ∷ p) q (behind r)) (λ r h. subst (λ z. pos 0 ≤ℤ z) (sym (behind_value r)) h) rows point.1))
        (omega (arith, ints, least_value, e), (omega (arith, ints, most_value, e), tt)),
  )

  pub from_valued : (rows : List LinearRow) → IsPoint (valued_rows rows form) (v ∷ p) q → IsPoint rows p q × (v ≡ value_at form p q)
  from_valued rows point =
      let pair = at_least (map neg_ℤ form.coefs) (neg_ℤ form.constant) ∷ at_most form ∷ [] in
      let front = Each-unmap (HoldsAtPoint (v ∷ p) q) behind rows (Each-first (HoldsAtPoint (v ∷ p) q) (map behind rows) pair point.1) in
      let back = Each-second (HoldsAtPoint (v ∷ p) q) (map behind rows) pair point.1 in (
        (point.0, Each-weaken (λ r. HoldsAtPoint (v ∷ p) q (behind r)) (HoldsAtPoint p q) (λ r h. subst (λ z. pos 0 ≤ℤ z) (behind_value r) h) rows front),
        omega (arith, ints, least_value, most_value, back.0, back.1.0),
      )

-- ---- all variables but v eliminated
-- rows over v alone, at a point whose other places are 0
abbrev pub line : ℤ → ℤ → LinearRow → Type 0
line v q r = pos 0 ≤ℤ (coef 0 r *ℤ v +ℤ r.constant *ℤ q)

line_value : (r : LinearRow) (n : ℕ) (v q : ℤ) → value_at r (v ∷ zeros n) q ≡ coef 0 r *ℤ v +ℤ r.constant *ℤ q
line_value r n v q = by r.coefs
  where
    by : (cs : List ℤ) → dot cs (v ∷ zeros n) +ℤ r.constant *ℤ q ≡ get_or cs 0 (pos 0) *ℤ v +ℤ r.constant *ℤ q
    by [] = ring (Var (pos 0) ⊕ Var r.constant ⊗ Var q) (Var (pos 0) ⊗ Var v ⊕ Var r.constant ⊗ Var q) (omega arith)
    by (c ∷ cs) = let e = dot-zeros cs n in ap (λ z. c *ℤ v +ℤ z +ℤ r.constant *ℤ q) e ∙ ring (Var c ⊗ Var v ⊕ Var (pos 0) ⊕ Var r.constant ⊗ Var q) (Var c ⊗ Var v ⊕ Var r.constant ⊗ Var q) (omega arith)

pub to_line : (rows : List LinearRow) (n : ℕ) (v q : ℤ) → IsPoint rows (v ∷ zeros n) q → Each (line v q) rows
to_line rows n v q point = Each-weaken (HoldsAtPoint (v ∷ zeros n) q) (line v q) (λ r h. subst (λ z. pos 0 ≤ℤ z) (line_value r n v q) h) rows point.1

pub from_line : (rows : List LinearRow) (n : ℕ) (v q : ℤ) → pos 0 <ℤ q → Each (line v q) rows → IsPoint rows (v ∷ zeros n) q
from_line rows n v q scale h = (scale, Each-weaken (line v q) (HoldsAtPoint (v ∷ zeros n) q) (λ r h. subst (λ z. pos 0 ≤ℤ z) (sym (line_value r n v q)) h) rows h)

pub shifted_within : (n m : ℕ) → n ≤ m → Each (λ k. k < suc m) (map suc (countdown n))
shifted_within zero m h = tt
shifted_within (suc n) m h = (omega arith, shifted_within n m (omega arith))

in_shifted : (n i : ℕ) → i < n → Each (λ k. ¬ (suc i ≡ k)) (map suc (countdown n)) → ⊥
in_shifted zero i h out = let x : ⊥ = omega arith in x
in_shifted (suc n) i h out = in_shifted n i (let ne = out.0 in omega (arith, ne)) out.1

not_zero : (n : ℕ) → Each (λ k. ¬ (0 ≡ k)) (map suc (countdown n))
not_zero zero = tt
not_zero (suc n) = ((λ e. let x : ⊥ = omega arith in x), not_zero n)

-- outside the places of the other variables, only v must agree
behind_v : (n : ℕ) (v : ℤ) (p x : List ℤ) → length p ≡ n → length x ≡ n → AgreesOutside (map suc (countdown n)) (v ∷ p) (v ∷ x)
behind_v n v p x e f = record { as_long = ap suc (f ∙ sym e); same = at }
  where
    at : (i : ℕ) → Each (λ k. ¬ (i ≡ k)) (map suc (countdown n)) → get_or (v ∷ x) i (pos 0) ≡ get_or (v ∷ p) i (pos 0)
    at zero out = refl
    at (suc i) out =
        let past : n ≤ i = beyond i out in
        get_or_past x i (pos 0) (omega (arith, past, f)) ∙ sym (get_or_past p i (pos 0) (omega (arith, past, e)))
      where
        beyond : (i : ℕ) → Each (λ k. ¬ (suc i ≡ k)) (map suc (countdown n)) → n ≤ i
        beyond i out = by (nat_lt i n) refl
          where
            by : (b : Bool) → nat_lt i n ≡ b → n ≤ i
            by true g = absurd (in_shifted n i (ltb-true i n g) out)
            by false g = ltb-false i n g

-- a scaled point of the system that a point of v comes from
pub record Source (s : LinearSystem) (form : LinearRow) (v q : ℤ) : Type 0 where
  pub t : ℤ
  pub p : List ℤ
  pub positive : pos 0 <ℤ t
  pub point : PointOf s p (t *ℤ q)
  pub value : value_at form p (t *ℤ q) ≡ t *ℤ v

module _ (s : LinearSystem) (form : LinearRow) (wide : AreWide s.vars s.rows) (long : length form.coefs ≡ s.vars)
    (both rows : List LinearRow) (made : valued s form ≡ Ok both) (run : steps (map suc (countdown s.vars)) (tidied both) ≡ Ok rows) where
  both_wide : AreWide (suc s.vars) both
  both_wide = subst (AreWide (suc s.vars)) (sym (valued_are s form both made)) (valued_wide s.vars s.rows form wide long)

  pub rows_wide : AreWide (suc s.vars) rows
  rows_wide = out_wide (suc s.vars) (map suc (countdown s.vars)) both rows (shifted_within s.vars s.vars (omega arith)) both_wide run

  -- each scaled point of the system gives one of v
  pub point_down : (p : List ℤ) (q : ℤ) → PointOf s p q → IsPoint rows (value_at form p q ∷ zeros s.vars) q
  point_down p q point =
      let v = value_at form p q in
      let there = subst (λ rs. IsPoint rs (v ∷ p) q) (sym (valued_are s form both made)) (to_valued form v p q s.rows point.point refl) in
      (points_project (suc s.vars) (map suc (countdown s.vars)) both rows (shifted_within s.vars s.vars (omega arith)) both_wide run (v ∷ p) (v ∷ zeros s.vars) q
      (record { as_long = ap suc point.as_long; point = there }) (behind_v s.vars v p (zeros s.vars) point.as_long (length-zeros s.vars))).point

  -- and each of v comes from one
  pub point_up : (v q : ℤ) → IsPoint rows (v ∷ zeros s.vars) q → Source s form v q
  point_up v q point =
      let up = points_lift (suc s.vars) (map suc (countdown s.vars)) both rows (shifted_within s.vars s.vars (omega arith)) both_wide run (v ∷ zeros s.vars) q
      (record { as_long = ap suc (length-zeros s.vars); point = point }) in
      source up.t up.raised up.positive up.point.as_long (up.agrees.same 0 (not_zero s.vars)) (subst (λ rs. IsPoint rs up.raised (up.t *ℤ q)) (valued_are s form both made) up.point.point)
    where
      source : (t : ℤ) (raised : List ℤ) → pos 0 <ℤ t → length raised ≡ suc s.vars → get_or raised 0 (pos 0) ≡ t *ℤ v → IsPoint (valued_rows s.rows form) raised (t *ℤ q) → Source s form v q
      source t [] ht l e h = absurd (omega arith)
      source t (x ∷ p) ht l e h =
          let back = from_valued form x p (t *ℤ q) s.rows h in
          record { t = t; p = p; positive = ht; point = record { as_long = omega arith; point = back.0 }; value = sym back.1 ∙ e }
