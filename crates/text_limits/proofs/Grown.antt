-- An access of the fast memref has no fewer operands: the half is one more, and each subscript less a place has at least its own.
use Rattle.std.proofs.Common.{◌≡◌, ℕ, suc, ◌+◌, ◌≤◌, ℤ, pos, ◌-ℤ◌, List, [], ◌∷◌, ◌++◌, Bool, true, false, refl, sym, ap, ◌∙◌, arith}
use Rattle.std.specs.Prelude.{Option, Some, None, fold, sum_by, if◌then◌else◌}
use Rattle.std.specs.Ordering.{int_eq}
use Rattle.affine_expr.specs.declared.expr.Expr.{Expr, Dim, Const, Sub, roll-Expr, out-Expr, roll-out-Expr, fold-roll-Expr, fold-Expr}
use Rattle.affine_expr.specs.declared.expr.Expr.TheOpen.{Expr-F}
use Rattle.affine_expr.specs.declared.expr.Expr.TheVariants.{rolls-Const}
use Rattle.affine_ast.specs.declared.types.Access.{Access}
use Rattle.affine_ast.specs.PlainLimits.{operand_count}
use Rattle.affine_ast.proofs.PlainLaws.{operand_count-Const, operand_count-Sub}
use Rattle.placement_texts.specs.Template.{Begin, Fixed, Named, number_step, number_of, less_by, less, less_places, begins, in_fast}
use Rattle.plan_laws.specs.Limits.{map_operands}
use Rattle.text_limits.specs.Adding.{OperandsGrow}

module _ {X : Type 0} (f : X → ℕ) where
  from_start : (a : ℕ) (xs : List X) → fold (λ a x. a + f x) a xs ≡ a + sum_by f xs
  from_start a [] = omega arith
  from_start a (x ∷ xs) = let e = from_start (a + f x) xs in let g = from_start (0 + f x) xs in omega (arith, e, g)

  pub sum_cons : (x : X) (xs : List X) → sum_by f (x ∷ xs) ≡ f x + sum_by f xs
  sum_cons x xs = let e = from_start (0 + f x) xs in omega (arith, e)

  pub sum_append : (xs ys : List X) → sum_by f (xs ++ ys) ≡ sum_by f xs + sum_by f ys
  sum_append [] ys = omega arith
  sum_append (x ∷ xs) ys = let e = sum_cons x (xs ++ ys) in let g = sum_cons x xs in let h = sum_append xs ys in omega (arith, e, g, h)

-- ---- a subscript less a place
pub is_const : (e : Expr) (k : ℤ) → number_of e ≡ Some k → e ≡ Const k
unfolding number_of
is_const e k h = by (out-Expr e) (roll-out-Expr e)
  where
    known : (z : ℤ) → e ≡ Const z → Some z ≡ Some k → e ≡ Const k
    known z is same = let same : z ≡ k = cc in is ∙ ap Const same

    step : (x : Expr-F Expr) → roll-Expr x ≡ e → Some k ≡ fold-Expr (Option ℤ) number_step (roll-Expr x)
    step x is = sym h ∙ ap (fold-Expr (Option ℤ) number_step) (sym is)

    by : (x : Expr-F Expr) → roll-Expr x ≡ e → e ≡ Const k
    by (Expr-F.Const z) is = known z (sym is ∙ rolls-Const z) (sym (step (Expr-F.Const z) is ∙ fold-roll-Expr (Option ℤ) number_step (Expr-F.Const z)))
    by x is = absurd (let e : Some k ≡ None = step x is ∙ fold-roll-Expr (Option ℤ) number_step x in let z : ⊥ = cc in z)

less_grows : (e : Expr) (z : ℤ) → operand_count e ≤ operand_count (less e z)
less_grows e z = by (number_of e) refl
  where
    other : (b : Bool) → operand_count e ≤ operand_count (if b then e else Sub e (Const z))
    other true = omega arith
    other false = let g = operand_count-Sub e (Const z) in omega (arith, g)

    by : (o : Option ℤ) → number_of e ≡ o → operand_count e ≤ operand_count (less_by o e z)
    by (Some k) is =
        let a = ap operand_count (is_const e k is) in
        let b = operand_count-Const k in
        let c = operand_count-Const (k -ℤ z) in
        omega (arith, a, b, c)
    by None is = other (int_eq z (pos 0))

places_grow : (k : ℕ) (es : List Expr) (bs : List Begin) → sum_by operand_count es ≤ sum_by operand_count (less_places k es bs)
places_grow k [] bs = omega arith
places_grow k (e ∷ es) [] = omega arith
places_grow k (e ∷ es) (Fixed z ∷ bs) =
    let a = sum_cons operand_count e es in
    let b = sum_cons operand_count (less e z) (less_places k es bs) in
    let c = less_grows e z in
    let d = places_grow k es bs in
    omega (arith, a, b, c, d)
places_grow k (e ∷ es) (Named n ∷ bs) =
    let a = sum_cons operand_count e es in
    let b = sum_cons operand_count (Sub e (Dim k)) (less_places (suc k) es bs) in
    let c = operand_count-Sub e (Dim k) in
    let d = places_grow (suc k) es bs in
    omega (arith, a, b, c, d)

grows : (bs : List Begin) (at : Access) → map_operands at ≤ map_operands (in_fast bs at)
grows bs at =
    let a = sum_cons operand_count (Const (pos 0)) (less_places at.map.dims at.map.results bs) in
    let b = places_grow at.map.dims at.map.results bs in
    omega (arith, a, b)

pub operands_grow : OperandsGrow
operands_grow p at = let g = grows (begins p) at in omega (arith, g)
