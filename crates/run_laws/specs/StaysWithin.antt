-- Texts whose numbers stay in their intervals wherever the list of their actions is made.
use Rattle.std.specs.Prelude.{◌≡◌, ℤ, ◌≤ℤ◌, ◌<ℤ◌, Bool, true, false, ◌&&◌, not, List, take, drop, Some}
use Rattle.std.specs.List.{list_all}
use Rattle.affine_expr.specs.declared.expr.Expr.{Expr, fold-Expr, map-Expr}
use Rattle.affine_expr.specs.declared.expr.Expr.TheOpen.{Expr-F}
use Rattle.affine_expr.specs.declared.map.Constraint.{Constraint}
use Rattle.affine_expr.specs.declared.map.Set.{Set}
use Rattle.affine_expr.specs.Pure.{is_outside}
use Rattle.affine_expr.specs.Spread.{Within}
use Rattle.affine_expr.specs.Value.{value_step}
use Rattle.affine_ast.specs.declared.image.Image.{Image}
use Rattle.affine_ast.specs.declared.module.Module.{Module}
use Rattle.affine_ast.specs.declared.name.Name.{Name}
use Rattle.affine_ast.specs.declared.types.Access.{Access}
use Rattle.affine_ast.specs.declared.types.Bound.{Bound}
use Rattle.affine_ast.specs.declared.types.Bound.TheVariants as bound
use Rattle.affine_ast.specs.Intervals.{Ranges, first_turn, last_end, turn_range}
use Rattle.affine_ast.specs.Names.{put}
use Rattle.affine_ast.specs.Nest.{Plain, Nest, Nothing, Loop, Branch, Does, nest}
use Rattle.affine_ast.specs.Parts.{Every, maps_of}
use Rattle.affine_ast.specs.Validity.{IsValid}
use Rattle.direct_meaning.specs.Actions.{after_plain, behind}
use Rattle.direct_meaning.specs.Memory.{Fits, start_env}
use Rattle.direct_meaning.specs.Static.{Env, knows, numbers, lower_of, upper_of}
use Rattle.direct_meaning.specs.Work.{ranges_after, start_ranges}

-- ---- values that are met

-- the value of an expression, and whether this and the values of all its parts lie within 2 ^ 62
pub record Met : Type 0 where
  pub value : ℤ
  pub small : Bool

-- whether the parts of one level are small
abbrev pub parts_small : Expr-F Met → Bool
parts_small (Expr-F.Dim n) = true
parts_small (Expr-F.Sym n) = true
parts_small (Expr-F.Const z) = true
parts_small (Expr-F.Neg a) = a.small
parts_small (Expr-F.Add a b) = a.small && b.small
parts_small (Expr-F.Sub a b) = a.small && b.small
parts_small (Expr-F.Mul a b) = a.small && b.small
parts_small (Expr-F.FloorDiv a b) = a.small && b.small
parts_small (Expr-F.CeilDiv a b) = a.small && b.small
parts_small (Expr-F.Mod a b) = a.small && b.small

abbrev pub met_at : ℤ → Bool → Met
met_at z parts = record { value = z; small = parts && not (is_outside z) }

abbrev pub met_step : List ℤ → List ℤ → Expr-F Met → Met
met_step ds ss x = met_at (value_step ds ss (map-Expr Met ℤ (λ a. a.value) x)) (parts_small x)

unfoldable pub met : List ℤ → List ℤ → Expr → Met
met ds ss = fold-Expr Met (met_step ds ss)

abbrev pub meets_small : List ℤ → List ℤ → Expr → Bool
meets_small ds ss e = (met ds ss e).small

abbrev pub row_meets_small : List ℤ → List ℤ → Constraint → Bool
row_meets_small ds ss row = meets_small ds ss row.left && meets_small ds ss row.right

abbrev pub AccessStays : Env → Access → Type 0
AccessStays e at = list_all (meets_small (take at.map.dims (numbers e at.operands)) (drop at.map.dims (numbers e at.operands))) at.map.results ≡ true

abbrev pub SetStays : Env → Set → List Name → Type 0
SetStays e set names = list_all (row_meets_small (take set.dims (numbers e names)) (drop set.dims (numbers e names))) set.rows ≡ true

abbrev pub BoundStays : Env → Bound → Type 0
BoundStays e (bound.Int z) = is_outside z ≡ false
BoundStays e (bound.Value n) = Unit {0}
BoundStays e (bound.Map at) = AccessStays e at

abbrev pub PlainStays : Env → Plain → Type 0
PlainStays e p = Every (AccessStays e) (maps_of p)

-- ---- the intervals of names

-- each name with a number has it in its interval
abbrev pub InIntervals : Env → Ranges → Type 0
InIntervals e rho = (n : Name) (z : ℤ) → e.known n ≡ Some z → Within z (rho n)

-- wherever the list of actions is made, each name with a number has it in its interval, and each value of an expression and of its
-- parts lies within 2 ^ 62
abbrev pub StaysWithin : Nest → Env → Ranges → Type 0
StaysWithin Nothing e rho = InIntervals e rho
StaysWithin (Loop line v l u s body rest) e rho =
    InIntervals e rho × BoundStays e l × BoundStays e u
    × ((t : ℤ) → lower_of e l ≤ℤ t → t <ℤ upper_of e u → StaysWithin body (knows e v t) (put rho v (turn_range (first_turn rho l) (last_end rho u))))
    × StaysWithin rest (behind body e) rho
StaysWithin (Branch line set names first has other rest) e rho =
    InIntervals e rho × SetStays e set names × StaysWithin first e rho × StaysWithin other (behind first e) rho × StaysWithin rest (behind other (behind first e)) rho
StaysWithin (Does line p rest) e rho = InIntervals e rho × PlainStays e p × StaysWithin rest (after_plain p e) (ranges_after p rho)

-- so does every valid module from every memory that fits it
abbrev pub ValidStaysWithin : Type 0
ValidStaysWithin = (m : Module) → IsValid m → (memory : Image) → Fits m memory → StaysWithin (nest m.body) (start_env m.args memory.symbols) (start_ranges m.args)
