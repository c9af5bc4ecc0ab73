-- How deep the printed spelling of an expression nests.
use Rattle.std.specs.Prelude.{◌≡◌, ℕ, pos, nat_le, Bool, true, false, ◌&&◌, ◌||◌, not, List, [], ◌∷◌}
use Rattle.std.specs.Ordering.{int_eq}
use Rattle.affine_expr.specs.declared.expr.Expr.{Expr, fold-Expr}
use Rattle.affine_expr.specs.declared.expr.Expr.TheOpen.{Expr-F}
use Rattle.affine_expr.specs.declared.map.Constraint.{Constraint}
use Rattle.affine_ast.specs.declared.types.Access.{Access}
use Rattle.affine_ast.specs.declared.types.Bound.{Bound}
use Rattle.affine_ast.specs.declared.types.Bound.TheVariants as bound
use Rattle.affine_ast.specs.declared.module.Module.{Module}
unfoldable pub use Rattle.affine_ast.specs.PlainLimits.{depths}
pub use Rattle.affine_ast.specs.PlainLimits.{Depths, sum_depths, product_depths, unary_depths, literal_depths, depths_step}
use Rattle.affine_ast.specs.Nest.{Plain, Value, Load, Store, RawLoad, RawStore, Constant, Binary, Cast, Alloc, Dealloc, Start, Wait, Return, Nest, Nothing, Loop, Branch, Does, nest}

-- the parentheses and negations inside one another in the printed spelling of an expression, where it stands alone
unfoldable pub printed_nesting : Expr → ℕ
printed_nesting e = (depths e).sum

-- whether an expression is the integer 0, and whether no integer 0 in it is negated
pub record Zeros : Type 0 where
  pub zero : Bool
  pub bare : Bool

abbrev pub both_bare : Zeros → Zeros → Zeros
both_bare a b = record { zero = false; bare = a.bare && b.bare }

abbrev pub zeros_step : Expr-F Zeros → Zeros
zeros_step (Expr-F.Dim n) = record { zero = false; bare = true }
zeros_step (Expr-F.Sym n) = record { zero = false; bare = true }
zeros_step (Expr-F.Const z) = record { zero = int_eq z (pos 0); bare = true }
zeros_step (Expr-F.Neg a) = record { zero = false; bare = a.bare && not a.zero }
zeros_step (Expr-F.Add a b) = both_bare a b
zeros_step (Expr-F.Sub a b) = both_bare a b
zeros_step (Expr-F.Mul a b) = both_bare a b
zeros_step (Expr-F.FloorDiv a b) = both_bare a b
zeros_step (Expr-F.CeilDiv a b) = both_bare a b
zeros_step (Expr-F.Mod a b) = both_bare a b

unfoldable pub zeros : Expr → Zeros
zeros = fold-Expr Zeros zeros_step

-- The printed spelling of an expression of a text nests no deeper than the text may: at most 128 levels,
-- or no integer 0 in it is negated. A text may spell 0 behind a `-` as `-0`, where the printed spelling
-- has `(0)`, which is one level more: 129 signs and a `0` are a text, and their printed spelling is none.
unfoldable pub nests_within : Expr → Bool
nests_within e = nat_le (printed_nesting e) 128 || (zeros e).bare

-- each of the expressions does
abbrev pub AllNest : List Expr → Type 0
AllNest [] = Unit {0}
AllNest (x ∷ xs) = (nests_within x ≡ true) × AllNest xs

abbrev pub RowsNest : List Constraint → Type 0
RowsNest [] = Unit {0}
RowsNest (row ∷ rows) = (nests_within row.left ≡ true) × (nests_within row.right ≡ true) × RowsNest rows

abbrev pub UseNests : Access → Type 0
UseNests at = AllNest at.map.results

abbrev pub BoundNests : Bound → Type 0
BoundNests (bound.Int z) = Unit {0}
BoundNests (bound.Value v) = Unit {0}
BoundNests (bound.Map at) = UseNests at

abbrev pub PlainNests : Plain → Type 0
PlainNests (Value r pick at) = UseNests at
PlainNests (Load r m at ty) = UseNests at
PlainNests (Store x m at ty) = UseNests at
PlainNests (RawLoad r m at ty) = Unit {0}
PlainNests (RawStore x m at ty) = Unit {0}
PlainNests (Constant r z ty) = Unit {0}
PlainNests (Binary r op a b ty) = Unit {0}
PlainNests (Cast r kind x from to) = Unit {0}
PlainNests (Alloc r ty) = Unit {0}
PlainNests (Dealloc m ty) = Unit {0}
PlainNests (Start a aa b bb t ta n stride types) = UseNests aa × UseNests bb × UseNests ta
PlainNests (Wait t at n ty) = UseNests at
PlainNests Return = Unit {0}

-- each expression of the statements does
abbrev pub StatementsNest : Nest → Type 0
StatementsNest Nothing = Unit {0}
StatementsNest (Loop line v lower upper s body rest) =
    BoundNests lower × BoundNests upper × StatementsNest body × StatementsNest rest
StatementsNest (Branch line set names first has other rest) =
    RowsNest set.rows × StatementsNest first × StatementsNest other × StatementsNest rest
StatementsNest (Does line p rest) = PlainNests p × StatementsNest rest

-- and each expression of the module
abbrev pub ModuleNests : Module → Type 0
ModuleNests m = StatementsNest (nest m.body)
