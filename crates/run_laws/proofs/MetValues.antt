-- Where an expression may be evaluated, its value and those of all its parts lie within 2 ^ 62.
use Rattle.std.proofs.Common.{◌≡◌, Bool, true, false, ℤ, neg_ℤ, ◌+ℤ◌, ◌-ℤ◌, ◌*ℤ◌, List, [], ◌∷◌, length, Option, Some, None, IsSome, refl, sym, ap, subst, ◌∙◌}
use Rattle.std.specs.Prelude.{◌&&◌, not}
use Rattle.std.specs.List.{list_all}
use Rattle.std.proofs.lemmas.Bool.{and_parts}
use Rattle.affine_expr.specs.declared.expr.Expr.{Expr, fold-roll-Expr, ind-Expr, map-Expr, roll-Expr}
use Rattle.affine_expr.specs.declared.expr.Expr.TheOpen.{Expr-F}
use Rattle.affine_expr.specs.declared.map.Constraint.{Constraint}
use Rattle.affine_expr.specs.declared.map.Interval.{Interval}
use Rattle.affine_expr.specs.Bounded.{◌>>=◌, bounded_step, bounded, ranges, interval_of, AreIn, Evaluable, AllEvaluable}
use Rattle.affine_expr.specs.Pure.{is_outside, Purity, purity_step, purity, is_pure, leaves_step, has_leaves_below}
use Rattle.affine_expr.specs.Spread.{Spread}
use Rattle.affine_expr.specs.Value.{floor_div, ceil_div, floor_mod, value_step, value}
use Rattle.affine_expr.proofs.Limits.{not_outside}
use Rattle.affine_expr.proofs.Soundness.{good}
use Rattle.valid_laws.specs.Evaluable.{EachEvaluable}
use Rattle.valid_laws.proofs.Small.{shown_some}
use Rattle.run_laws.specs.StaysWithin.{Met, parts_small, met_step, met, meets_small, row_meets_small}

-- ---- the value that is met is the value

module _ (ds ss : List ℤ) where
  abbrev SameValue : Expr → Type 0
  SameValue e = (met ds ss e).value ≡ value ds ss e

  value_layer : (x : Expr-F Expr) → value_step ds ss (map-Expr Met ℤ (λ a. a.value) (map-Expr Expr Met (met ds ss) x)) ≡ value_step ds ss (map-Expr Expr ℤ (value ds ss) x) → SameValue (roll-Expr x)
  unfolding met value
  value_layer x h = ap (λ (m : Met). m.value) (fold-roll-Expr Met (met_step ds ss) x) ∙ h ∙ sym (fold-roll-Expr ℤ (value_step ds ss) x)

  value_parts : (y : Expr-F ((e : Expr) × SameValue e)) → SameValue (roll-Expr (map-Expr ((e : Expr) × SameValue e) Expr (λ e. e.0) y))
  value_parts (Expr-F.Dim n) = value_layer (Expr-F.Dim n) refl
  value_parts (Expr-F.Sym n) = value_layer (Expr-F.Sym n) refl
  value_parts (Expr-F.Const z) = value_layer (Expr-F.Const z) refl
  value_parts (Expr-F.Neg a) = value_layer (Expr-F.Neg a.0) (ap neg_ℤ a.1)
  value_parts (Expr-F.Add a b) = value_layer (Expr-F.Add a.0 b.0) (λ i. a.1 i +ℤ b.1 i)
  value_parts (Expr-F.Sub a b) = value_layer (Expr-F.Sub a.0 b.0) (λ i. a.1 i -ℤ b.1 i)
  value_parts (Expr-F.Mul a b) = value_layer (Expr-F.Mul a.0 b.0) (λ i. a.1 i *ℤ b.1 i)
  value_parts (Expr-F.FloorDiv a b) = value_layer (Expr-F.FloorDiv a.0 b.0) (λ i. floor_div (a.1 i) (b.1 i))
  value_parts (Expr-F.CeilDiv a b) = value_layer (Expr-F.CeilDiv a.0 b.0) (λ i. ceil_div (a.1 i) (b.1 i))
  value_parts (Expr-F.Mod a b) = value_layer (Expr-F.Mod a.0 b.0) (λ i. floor_mod (a.1 i) (b.1 i))

  pub met_value : (e : Expr) → SameValue e
  met_value = ind-Expr SameValue (λ x y is. subst (λ z. SameValue (roll-Expr z)) is (value_parts y))

-- ---- parts

first_some : {A B : Type 0} (x : Option A) (f : A → Option B) → IsSome (x >>= f) → IsSome x
first_some None f h = absurd (let z : ⊥ = cc in z)
first_some (Some x) f h = refl

second_some : {A B C : Type 0} (x : Option A) (y : Option B) (f : A → B → Option C) → IsSome (x >>= (λ a. y >>= f a)) → IsSome y
second_some None y f h = absurd (let z : ⊥ = cc in z)
second_some (Some x) y f h = first_some y (f x) h

both : (a b : Bool) → a ≡ true → b ≡ true → (a && b) ≡ true
both a b p q = λ i. p i && q i

not_of_false : (b : Bool) → b ≡ false → not b ≡ true
not_of_false b h = ap not h

module _ (ds ss : List ℤ) (is js : List Interval) (d : AreIn ds is) (s : AreIn ss js) where
  -- an expression that is pure, with its leaves among the numbers, and in reach, meets small numbers alone
  abbrev Meets : Expr → Type 0
  Meets e = is_pure e ≡ true → has_leaves_below (length ds) (length ss) e ≡ true → IsSome (bounded (ranges is) (ranges js) e) → meets_small ds ss e ≡ true

  value_inside : (e : Expr) → is_pure e ≡ true → has_leaves_below (length ds) (length ss) e ≡ true → IsSome (bounded (ranges is) (ranges js) e) → not (is_outside (met ds ss e).value) ≡ true
  value_inside e p l b =
      let k = ((good ds ss is js d s e p l).tame b).inside in
      not_of_false (is_outside (met ds ss e).value) (ap is_outside (met_value ds ss e) ∙ not_outside (value ds ss e) k)

  meets_layer : (x : Expr-F Expr)
      → ((purity_step (map-Expr Expr Purity purity x)).pure ≡ true → leaves_step (length ds) (length ss) (map-Expr Expr Bool (has_leaves_below (length ds) (length ss)) x) ≡ true
      → IsSome (bounded_step (ranges is) (ranges js) (map-Expr Expr (Option Spread) (bounded (ranges is) (ranges js)) x)) → parts_small (map-Expr Expr Met (met ds ss) x) ≡ true)
      → Meets (roll-Expr x)
  unfolding is_pure has_leaves_below bounded met
  meets_layer x f p l b =
      let m = fold-roll-Expr Met (met_step ds ss) x in
      let parts = f (sym (ap (λ (q : Purity). q.pure) (fold-roll-Expr Purity purity_step x)) ∙ p) (sym (fold-roll-Expr Bool (leaves_step (length ds) (length ss)) x) ∙ l) (subst IsSome (fold-roll-Expr (Option Spread) (bounded_step (ranges is) (ranges js)) x) b) in
      let inside = ap (λ (m : Met). not (is_outside m.value)) (sym m) ∙ value_inside (roll-Expr x) p l b in
      ap (λ (m : Met). m.small) m ∙ both _ _ parts inside

  meets_parts : (y : Expr-F ((e : Expr) × Meets e)) → Meets (roll-Expr (map-Expr ((e : Expr) × Meets e) Expr (λ e. e.0) y))
  unfolding is_pure
  meets_parts (Expr-F.Dim n) = meets_layer (Expr-F.Dim n) (λ p l b. refl)
  meets_parts (Expr-F.Sym n) = meets_layer (Expr-F.Sym n) (λ p l b. refl)
  meets_parts (Expr-F.Const z) = meets_layer (Expr-F.Const z) (λ p l b. refl)
  meets_parts (Expr-F.Neg a) = meets_layer (Expr-F.Neg a.0) (λ p l b. a.1 p l (first_some _ _ b))
  meets_parts (Expr-F.Add a b) = meets_layer (Expr-F.Add a.0 b.0) (λ p l k. let q = and_parts _ _ p in let m = and_parts _ _ l in both _ _ (a.1 q.0 m.0 (first_some _ _ k)) (b.1 q.1 m.1 (second_some _ _ _ k)))
  meets_parts (Expr-F.Sub a b) = meets_layer (Expr-F.Sub a.0 b.0) (λ p l k. let q = and_parts _ _ p in let m = and_parts _ _ l in both _ _ (a.1 q.0 m.0 (first_some _ _ k)) (b.1 q.1 m.1 (second_some _ _ _ k)))
  meets_parts (Expr-F.Mul a b) = meets_layer (Expr-F.Mul a.0 b.0) (λ p l k. let r = and_parts _ _ p in let q = and_parts _ _ r.0 in let m = and_parts _ _ l in both _ _ (a.1 q.0 m.0 (first_some _ _ k)) (b.1 q.1 m.1 (second_some _ _ _ k)))
  meets_parts (Expr-F.FloorDiv a b) = meets_layer (Expr-F.FloorDiv a.0 b.0) (λ p l k. let r = and_parts _ _ p in let q = and_parts _ _ r.0 in let m = and_parts _ _ l in both _ _ (a.1 q.0 m.0 (first_some _ _ k)) (b.1 q.1 m.1 (second_some _ _ _ k)))
  meets_parts (Expr-F.CeilDiv a b) = meets_layer (Expr-F.CeilDiv a.0 b.0) (λ p l k. let r = and_parts _ _ p in let q = and_parts _ _ r.0 in let m = and_parts _ _ l in both _ _ (a.1 q.0 m.0 (first_some _ _ k)) (b.1 q.1 m.1 (second_some _ _ _ k)))
  meets_parts (Expr-F.Mod a b) = meets_layer (Expr-F.Mod a.0 b.0) (λ p l k. let r = and_parts _ _ p in let q = and_parts _ _ r.0 in let m = and_parts _ _ l in both _ _ (a.1 q.0 m.0 (first_some _ _ k)) (b.1 q.1 m.1 (second_some _ _ _ k)))

  meets : (e : Expr) → Meets e
  meets = ind-Expr Meets (λ x y is. subst (λ z. Meets (roll-Expr z)) is (meets_parts y))

-- ---- where an expression may be evaluated

pub evaluable_meets : (ds ss : List ℤ) (e : Expr) → Evaluable ds ss e → meets_small ds ss e ≡ true
unfolding interval_of
evaluable_meets ds ss e h = meets ds ss h.reach.dims h.reach.syms h.reach.dims_in h.reach.syms_in e h.pure h.leaves (shown_some _ h.reach.reached)

pub each_meets : (ds ss : List ℤ) (es : List Expr) → EachEvaluable ds ss es → list_all (meets_small ds ss) es ≡ true
each_meets ds ss [] h = refl
each_meets ds ss (e ∷ es) h = both _ _ (evaluable_meets ds ss e h.0) (each_meets ds ss es h.1)

pub rows_meet : (ds ss : List ℤ) (rows : List Constraint) → AllEvaluable ds ss rows → list_all (row_meets_small ds ss) rows ≡ true
rows_meet ds ss [] h = refl
rows_meet ds ss (row ∷ rows) h = both _ _ (both _ _ (evaluable_meets ds ss row.left h.0) (evaluable_meets ds ss row.right h.1)) (rows_meet ds ss rows h.2)
