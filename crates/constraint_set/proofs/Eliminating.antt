-- Variables eliminated one after another: points project, points lift, and the variables are gone.
use Rattle.std.proofs.Common.{◌≡◌, ℕ, zero, suc, ◌<◌, List, [], ◌∷◌, ◌++◌, length, Ok, Err, ℤ, pos, ◌*ℤ◌, ◌<ℤ◌, get_or, refl, sym, ◌∙◌, ap, arith, subst, ◌↔◌, ◌⊎◌, inl, inr, nat_lt, cond, Bool, true, false}
use Rattle.std.proofs.lemmas.Int.{ints}
use Rattle.std.proofs.lemmas.Bool.{cases_eq}
use Rattle.std.proofs.Math.ListN.{set, length-set}
use Rattle.std.proofs.lemmas.List.{get_or-set_other, get_or-set_same, ext_get_or}
use Rattle.num_row.proofs.Ring.{Var, ◌⊗◌, ring, mul_pos, *ℤ_assoc}
use Rattle.constraint_set.specs.Lists.{Each}
use Rattle.constraint_set.specs.Points.{LinearRow, LinearSystem, HoldsAtPoint, IsPoint, coef, AreWide}
use Rattle.constraint_set.specs.Projection.{scaled, AgreesOutside, Projects, Lifts}
use Rattle.constraint_set.specs.Tidy.{tidied}
use Rattle.constraint_set.specs.Elimination.{too_many, raising, lowering, without, step_by, steps_by, steps, eliminated, variable_limit}
use Rattle.constraint_set.proofs.Dots.{plain_step, pairs}
use Rattle.constraint_set.proofs.Steps.{Each-append, Each-first, Each-second, part_without, projects}
use Rattle.constraint_set.proofs.Lifting.{lifts, length-scaled}
use Rattle.constraint_set.proofs.Tidying.{tidied_same, tidied_wide}
use Rattle.constraint_set.proofs.Pairs.{ok_of, step_made}

moved : (t : ℤ) (p : List ℤ) (k : ℕ) (v : ℤ) (i : ℕ) → ¬ (i ≡ k) → get_or (set (scaled t p) k v) i (pos 0) ≡ get_or (scaled t p) i (pos 0)
moved t p k v i ne = get_or-set_other (scaled t p) k i v (pos 0) ne

-- a system of rows over n variables
abbrev pub over : ℕ → List LinearRow → LinearSystem
over n rows = record { vars = n; rows = rows }

-- the laws hold of every tidying that keeps the scaled points and the width
module _ (n : ℕ) (tidy : List LinearRow → List LinearRow)
    (same : (rows : List LinearRow) (p : List ℤ) (q : ℤ) → IsPoint (tidy rows) p q ↔ IsPoint rows p q)
    (wide : (rows : List LinearRow) → AreWide n rows → AreWide n (tidy rows)) where
  -- a step has the scaled points of the plain step, and its width
  record StepKeeps (k : ℕ) (rows out : List LinearRow) : Type 0 where
    points : (p : List ℤ) (q : ℤ) → IsPoint out p q ↔ IsPoint (plain_step k rows) p q
    as_wide : AreWide n out

  drop_first : (k : ℕ) (P : LinearRow → Type 0) (rs : List LinearRow) → Each (λ r. (coef k r ≡ pos 0) × P r) rs → Each P rs
  drop_first k P [] h = tt
  drop_first k P (r ∷ rs) h = (h.0.1, drop_first k P rs h.1)

  step_keeps : (k : ℕ) (rows out : List LinearRow) → AreWide n rows → step_by tidy k rows ≡ Ok out → StepKeeps k rows out
  step_keeps k rows out w h =
      let m = step_made n tidy k rows out w h in
      let flat = without k rows in
      let plain = pairs k (raising k rows) (lowering k rows) in
      let to : (p : List ℤ) (q : ℤ) → IsPoint (flat ++ m.pairs) p q ↔ IsPoint (flat ++ plain) p q
      = λ p q. (
        (λ x. (x.0, Each-append (HoldsAtPoint p q) flat plain (Each-first (HoldsAtPoint p q) flat m.pairs x.1) ((m.made.alike p q).0 (Each-second (HoldsAtPoint p q) flat m.pairs x.1)))),
        (λ x. (x.0, Each-append (HoldsAtPoint p q) flat m.pairs (Each-first (HoldsAtPoint p q) flat plain x.1) ((m.made.alike p q).1 (Each-second (HoldsAtPoint p q) flat plain x.1)))),
      ) in
      subst (λ rs. StepKeeps k rows rs) (sym m.tidied) (record {
        points = λ p q. (let s = same (flat ++ m.pairs) p q in let t = to p q in ((λ x. t.0 (s.0 x)), (λ x. s.1 (t.1 x))));
        as_wide = wide (flat ++ m.pairs) (Each-append (λ r. length r.coefs ≡ n) flat m.pairs (drop_first k (λ r. length r.coefs ≡ n) flat (part_without k (λ r. length r.coefs ≡ n) rows w)) m.made.wide);
      })

  pub step_wide : (k : ℕ) (rows out : List LinearRow) → AreWide n rows → step_by tidy k rows ≡ Ok out → AreWide n out
  step_wide k rows out w h = (step_keeps k rows out w h).as_wide

  pub steps_wide : (ks : List ℕ) (rows out : List LinearRow) → AreWide n rows → steps_by tidy ks rows ≡ Ok out → AreWide n out
  steps_wide [] rows out w h = subst (AreWide n) (let e : rows ≡ out = cc in e) w
  steps_wide (k ∷ ks) rows out w h =
      let first = ok_of (step_by tidy k rows) (steps_by tidy ks) out h in
      let keeps = step_keeps k rows first.0 w first.1.0 in
      steps_wide ks first.0 out keeps.as_wide first.1.1

  -- ---- every point projects
  nowhere : (p x : List ℤ) → AgreesOutside [] p x → p ≡ x
  nowhere p x a = ext_get_or (pos 0) p x (sym a.as_long) (λ i h. sym (a.same i tt))

  -- the point with one value of x
  set_one : (k : ℕ) (ks : List ℕ) (p x : List ℤ) → k < length p → AgreesOutside (k ∷ ks) p x → AgreesOutside ks (set p k (get_or x k (pos 0))) x
  set_one k ks p x h a = record {
    as_long = omega (arith, length-set {A = ℤ}, a.as_long);
    same = λ i out. at i out (cases_eq i k);
  }
    where
      at : (i : ℕ) → Each (λ j. ¬ (i ≡ j)) ks → (i ≡ k) ⊎ ¬ (i ≡ k) → get_or x i (pos 0) ≡ get_or (set p k (get_or x k (pos 0))) i (pos 0)
      at i out (inl e) = subst (λ j. get_or x j (pos 0) ≡ get_or (set p k (get_or x k (pos 0))) j (pos 0)) (sym e) (sym (get_or-set_same p k (get_or x k (pos 0)) (pos 0) h))
      at i out (inr ne) = a.same i (ne, out) ∙ sym (get_or-set_other p k i (get_or x k (pos 0)) (pos 0) ne)

  pub projects_all : (ks : List ℕ) (rows out : List LinearRow) → Each (λ k. k < n) ks → AreWide n rows → steps_by tidy ks rows ≡ Ok out
      → (p x : List ℤ) (q : ℤ) → length p ≡ n → IsPoint rows p q → AgreesOutside ks p x → IsPoint out x q
  projects_all [] rows out within w h p x q long point a = subst (λ rs. IsPoint rs x q) (let e : rows ≡ out = cc in e) (subst (λ y. IsPoint rows y q) (nowhere p x a) point)
  projects_all (k ∷ ks) rows out within w h p x q long point a =
      let first = ok_of (step_by tidy k rows) (steps_by tidy ks) out h in
      let keeps = step_keeps k rows first.0 w first.1.0 in
      let v = get_or x k (pos 0) in
      let in_range : k < length p = omega (arith, long, within.0) in
      let stepped = (keeps.points (set p k v) q).1 (projects k n rows p q v in_range w point) in
      projects_all ks first.0 out within.1 keeps.as_wide first.1.1 (set p k v) x q (length-set p k v ∙ long) stepped (set_one k ks p x in_range a)

  -- ---- every point lifts
  pub record Raised (ks : List ℕ) (rows : List LinearRow) (p : List ℤ) (q : ℤ) : Type 0 where
    pub t : ℤ
    pub raised : List ℤ
    pub positive : pos 0 <ℤ t
    pub agrees : AgreesOutside ks (scaled t p) raised
    pub point : IsPoint rows raised (t *ℤ q)

  scaled_twice : (s t : ℤ) (p : List ℤ) → scaled s (scaled t p) ≡ scaled (s *ℤ t) p
  scaled_twice s t [] = refl
  scaled_twice s t (x ∷ xs) = ap (λ y. y ∷ scaled s (scaled t xs)) (sym (*ℤ_assoc s t x)) ∙ ap (λ ys. ((s *ℤ t) *ℤ x) ∷ ys) (scaled_twice s t xs)

  scaled_one : (p : List ℤ) → scaled (pos 1) p ≡ p
  scaled_one [] = refl
  scaled_one (x ∷ xs) = ap (λ y. y ∷ scaled (pos 1) xs) (omega (arith, ints)) ∙ ap (λ ys. x ∷ ys) (scaled_one xs)

  -- a step more: s times the raised point, with v in place k
  agrees_more : (k : ℕ) (ks : List ℕ) (s t v : ℤ) (p raised : List ℤ) → AgreesOutside ks (scaled t p) raised → AgreesOutside (k ∷ ks) (scaled (s *ℤ t) p) (set (scaled s raised) k v)
  agrees_more k ks s t v p raised a = record {
    as_long = length-set (scaled s raised) k v ∙ length-scaled s raised ∙ a.as_long ∙ length-scaled t p ∙ sym (length-scaled (s *ℤ t) p);
    same = λ i out. moved s raised k v i out.0 ∙ scaled_at i (a.same i out.1) ∙ ap (λ ys. get_or ys i (pos 0)) (scaled_twice s t p);
  }
    where
      get_scaled : (s : ℤ) (ys : List ℤ) (i : ℕ) → get_or (scaled s ys) i (pos 0) ≡ s *ℤ get_or ys i (pos 0)
      get_scaled s [] i = ring (Var (pos 0)) (Var s ⊗ Var (pos 0)) (omega arith)
      get_scaled s (y ∷ ys) zero = refl
      get_scaled s (y ∷ ys) (suc i) = get_scaled s ys i

      scaled_at : (i : ℕ) → get_or raised i (pos 0) ≡ get_or (scaled t p) i (pos 0) → get_or (scaled s raised) i (pos 0) ≡ get_or (scaled s (scaled t p)) i (pos 0)
      scaled_at i e = get_scaled s raised i ∙ ap (λ z. s *ℤ z) e ∙ sym (get_scaled s (scaled t p) i)

  pub lifts_all : (ks : List ℕ) (rows out : List LinearRow) → Each (λ k. k < n) ks → AreWide n rows → steps_by tidy ks rows ≡ Ok out
      → (p : List ℤ) (q : ℤ) → length p ≡ n → IsPoint out p q → Raised ks rows p q
  lifts_all [] rows out within w h p q long point =
      let here = subst (λ rs. IsPoint rs p q) (let e : out ≡ rows = cc in e) point in
      record {
        t = pos 1;
        raised = p;
        positive = omega (arith, ints);
        agrees = subst (λ y. AgreesOutside [] y p) (sym (scaled_one p)) (record { as_long = refl; same = λ i o. refl });
        point = subst (λ z. IsPoint rows p z) (let e : q ≡ pos 1 *ℤ q = omega (arith, ints) in e) here;
      }
  lifts_all (k ∷ ks) rows out within w h p q long point =
      let first = ok_of (step_by tidy k rows) (steps_by tidy ks) out h in
      let keeps = step_keeps k rows first.0 w first.1.0 in
      let up = lifts_all ks first.0 out within.1 keeps.as_wide first.1.1 p q long point in
      let l : length up.raised ≡ n = up.agrees.as_long ∙ length-scaled up.t p ∙ long in
      let plain = (keeps.points up.raised (up.t *ℤ q)).0 up.point in
      let step = lifts k n up.raised (up.t *ℤ q) (omega (arith, l, within.0)) plain.0 rows w plain in
      record {
        t = step.t *ℤ up.t;
        raised = set (scaled step.t up.raised) k step.v;
        positive = mul_pos step.t up.t step.positive up.positive;
        agrees = agrees_more k ks step.t up.t step.v p up.raised up.agrees;
        point = subst (λ z. IsPoint rows (set (scaled step.t up.raised) k step.v) z) (sym (*ℤ_assoc step.t up.t q)) step.point;
      }

-- ---- the laws at the rules of this crate, from the given rows on
module _ (n : ℕ) (ks : List ℕ) (rows out : List LinearRow) (within : Each (λ k. k < n) ks) (w : AreWide n rows) (h : steps ks (tidied rows) ≡ Ok out) where
  pub out_wide : AreWide n out
  unfolding steps
  out_wide = steps_wide n tidied tidied_same (tidied_wide n) ks (tidied rows) out (tidied_wide n rows w) h

  pub points_project : Projects ks (over n rows) (over n out)
  unfolding steps
  points_project p x q point a =
      let there = projects_all n tidied tidied_same (tidied_wide n) ks (tidied rows) out within (tidied_wide n rows w) h p x q point.as_long ((tidied_same rows p q).1 point.point) a in
      record { as_long = a.as_long ∙ point.as_long; point = there }

  pub points_lift : Lifts ks (over n rows) (over n out)
  unfolding steps
  points_lift p q point =
      let up = lifts_all n tidied tidied_same (tidied_wide n) ks (tidied rows) out within (tidied_wide n rows w) h p q point.as_long point.point in
      record {
        t = up.t;
        raised = up.raised;
        positive = up.positive;
        agrees = up.agrees;
        point = record { as_long = up.agrees.as_long ∙ length-scaled up.t p ∙ point.as_long; point = (tidied_same rows up.raised (up.t *ℤ q)).0 up.point };
      }

-- where a system has too many variables there is no elimination
pub eliminated_steps : (s : LinearSystem) (ks : List ℕ) (out : List LinearRow) → eliminated s ks ≡ Ok out → steps ks (tidied s.rows) ≡ Ok out
unfolding eliminated
eliminated_steps s ks out h = by (nat_lt variable_limit s.vars) h
  where
    by : (b : Bool) → cond b (Err too_many) (steps ks (tidied s.rows)) ≡ Ok out → steps ks (tidied s.rows) ≡ Ok out
    by true h = absurd (let x : ⊥ = cc in x)
    by false h = h
