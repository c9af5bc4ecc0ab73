-- Texts whose expressions may be evaluated wherever a run comes to them.
use Rattle.std.specs.Prelude.{ℤ, ◌≤ℤ◌, ◌<ℤ◌, List, [], ◌∷◌, take, drop}
use Rattle.affine_expr.specs.declared.expr.Expr.{Expr}
use Rattle.affine_expr.specs.declared.map.Set.{Set}
use Rattle.affine_expr.specs.Bounded.{Evaluable, AllEvaluable}
use Rattle.affine_ast.specs.declared.name.Name.{Name}
use Rattle.affine_ast.specs.declared.types.Access.{Access}
use Rattle.affine_ast.specs.declared.types.Bound.{Bound}
use Rattle.affine_ast.specs.declared.types.Bound.TheVariants as bound
use Rattle.affine_ast.specs.Nest.{Plain, Nest, Nothing, Loop, Branch, Does}
use Rattle.affine_ast.specs.Parts.{Every, maps_of}
use Rattle.direct_meaning.specs.Static.{Env, knows, numbers, lower_of, upper_of}
use Rattle.direct_meaning.specs.Actions.{after_plain, behind}

abbrev pub EachEvaluable : List ℤ → List ℤ → List Expr → Type 0
EachEvaluable ds ss [] = Unit {0}
EachEvaluable ds ss (e ∷ es) = Evaluable ds ss e × EachEvaluable ds ss es

-- each result of a map may be evaluated at the numbers of its operands: it is pure, its leaves are among them, and each part of
-- it stays within 2 ^ 62
abbrev pub EvaluableAccess : Env → Access → Type 0
EvaluableAccess e at = EachEvaluable (take at.map.dims (numbers e at.operands)) (drop at.map.dims (numbers e at.operands)) at.map.results

abbrev pub EvaluableSet : Env → Set → List Name → Type 0
EvaluableSet e set names = AllEvaluable (take set.dims (numbers e names)) (drop set.dims (numbers e names)) set.rows

abbrev pub EvaluableBound : Env → Bound → Type 0
EvaluableBound e (bound.Int z) = Unit {0}
EvaluableBound e (bound.Value n) = Unit {0}
EvaluableBound e (bound.Map at) = EvaluableAccess e at

abbrev pub EvaluablePlain : Env → Plain → Type 0
EvaluablePlain e p = Every (EvaluableAccess e) (maps_of p)

-- so may every expression of the text, in each turn of the loops round it
abbrev pub EvaluableNest : Nest → Env → Type 0
EvaluableNest Nothing e = Unit {0}
EvaluableNest (Loop line v l u s body rest) e =
    EvaluableBound e l × EvaluableBound e u × ((t : ℤ) → lower_of e l ≤ℤ t → t <ℤ upper_of e u → EvaluableNest body (knows e v t)) × EvaluableNest rest (behind body e)
EvaluableNest (Branch line set names first has other rest) e = EvaluableSet e set names × EvaluableNest first e × EvaluableNest other (behind first e) × EvaluableNest rest (behind other (behind first e))
EvaluableNest (Does line p rest) e = EvaluablePlain e p × EvaluableNest rest (after_plain p e)
