-- V13: what a module must be besides valid to be staged or run directly. It has no allocation, dealloc, start or wait, and keeps
-- to the smaller limits, counted in the printed spelling.
use Rattle.std.specs.Prelude.{ℕ, suc, ◌+◌, max, ℤ, pos, negsuc, Bool, true, false, ◌&&◌, Option, Some, None, nat_le, if◌then◌else◌}
use Rattle.std.specs.List.{list_all}
use Rattle.affine_expr.specs.declared.expr.Expr.{Expr, fold-Expr}
use Rattle.affine_expr.specs.declared.expr.Expr.TheOpen.{Expr-F}
use Rattle.affine_expr.specs.declared.map.Constraint.{Constraint}
use Rattle.affine_expr.specs.declared.map.Set.{Set}
use Rattle.affine_ast.specs.declared.module.Module.{Module}
use Rattle.affine_ast.specs.declared.types.Access.{Access}
use Rattle.affine_ast.specs.declared.types.Bound.{Bound}
use Rattle.affine_ast.specs.declared.types.Bound.TheVariants as bound
use Rattle.affine_ast.specs.Nest.{Plain, Nest, Nothing, Loop, Branch, Does, Alloc, Dealloc, Start, Wait, nest}
use Rattle.affine_ast.specs.Parts.{every, maps_of}

-- the operands of an expression: its integers and its leaves
abbrev pub operands_step : Expr-F ℕ → ℕ
operands_step (Expr-F.Dim n) = 1
operands_step (Expr-F.Sym n) = 1
operands_step (Expr-F.Const z) = 1
operands_step (Expr-F.Neg a) = a
operands_step (Expr-F.Add a b) = a + b
operands_step (Expr-F.Sub a b) = a + b
operands_step (Expr-F.Mul a b) = a + b
operands_step (Expr-F.FloorDiv a b) = a + b
operands_step (Expr-F.CeilDiv a b) = a + b
operands_step (Expr-F.Mod a b) = a + b

unfoldable pub operand_count : Expr → ℕ
operand_count = fold-Expr ℕ operands_step

-- how many parentheses and negations stand inside one another in a printed expression, by where it stands: alone or as the left
-- side of a sum, where a product may stand, where only what binds more strongly may, and behind a `-`
pub record Depths : Type 0 where
  pub sum : ℕ
  pub product : ℕ
  pub unary : ℕ
  pub negated : ℕ

-- a sum or a difference has parentheses wherever a product may stand
abbrev pub sum_depths : ℕ → Depths
sum_depths n = record { sum = n; product = suc n; unary = suc n; negated = suc n }

abbrev pub product_depths : ℕ → Depths
product_depths n = record { sum = n; product = n; unary = suc n; negated = suc n }

abbrev pub unary_depths : ℕ → Depths
unary_depths n = record { sum = n; product = n; unary = n; negated = n }

-- a literal that isn't negative has parentheses behind a `-`. The sign of a negative one is no negation
abbrev pub literal_depths : ℤ → Depths
literal_depths (pos n) = record { sum = 0; product = 0; unary = 0; negated = 1 }
literal_depths (negsuc n) = unary_depths 0

abbrev pub depths_step : Expr-F Depths → Depths
depths_step (Expr-F.Dim n) = unary_depths 0
depths_step (Expr-F.Sym n) = unary_depths 0
depths_step (Expr-F.Const z) = literal_depths z
depths_step (Expr-F.Neg a) = unary_depths (suc a.negated)
depths_step (Expr-F.Add a b) = sum_depths (max a.sum b.product)
depths_step (Expr-F.Sub a b) = sum_depths (max a.sum b.product)
depths_step (Expr-F.Mul a b) = product_depths (max a.product b.unary)
depths_step (Expr-F.FloorDiv a b) = product_depths (max a.product b.unary)
depths_step (Expr-F.CeilDiv a b) = product_depths (max a.product b.unary)
depths_step (Expr-F.Mod a b) = product_depths (max a.product b.unary)

unfoldable pub depths : Expr → Depths
depths = fold-Expr Depths depths_step

-- at most 64 operands, and 32 parentheses and negations inside one another
unfoldable pub is_short : Expr → Bool
is_short e = nat_le (operand_count e) 64 && nat_le (depths e).sum 32

unfoldable pub access_short : Access → Bool
access_short at = list_all is_short at.map.results

abbrev pub row_short : Constraint → Bool
row_short row = is_short row.left && is_short row.right

unfoldable pub set_short : Set → Bool
set_short set = list_all row_short set.rows

abbrev pub bound_short : Bound → Bool
bound_short (bound.Int z) = true
bound_short (bound.Value n) = true
bound_short (bound.Map at) = access_short at

-- a plain statement: no allocation, dealloc, start or wait
abbrev pub plain_stands : Plain → Bool
plain_stands (Alloc r ty) = false
plain_stands (Dealloc m ty) = false
plain_stands (Start x x_at y y_at t t_at n stride types) = false
plain_stands (Wait t at n ty) = false
plain_stands p = every access_short (maps_of p)

-- the first statement that breaks the rule, by its line, or how many statements stand before what follows
pub data PlainTold : Type 0 where
  FaultAt : ℕ → PlainTold
  Counted : ℕ → PlainTold

abbrev pub then_plain : PlainTold → (ℕ → PlainTold) → PlainTold
then_plain (FaultAt line) more = FaultAt line
then_plain (Counted n) more = more n

-- a statement by itself: it is one of at most 4,096, with at most 8 loops round it
abbrev pub plain_judged : ℕ → ℕ → ℕ → Bool → PlainTold → PlainTold
plain_judged line loops count holds more = if holds && (nat_le count 4096 && nat_le loops 8) then more else FaultAt line

-- statements with so many loops round them and so many statements before them
unfoldable pub plain_told : Nest → ℕ → ℕ → PlainTold
plain_told Nothing loops count = Counted count
plain_told (Loop line v l u s body rest) loops count =
    plain_judged line loops (suc count) (bound_short l && bound_short u)
    (then_plain (plain_told body (suc loops) (suc count)) (plain_told rest loops))
plain_told (Branch line set names first has other rest) loops count =
    plain_judged line loops (suc count) (set_short set)
    (then_plain (plain_told first loops (suc count)) (λ n. then_plain (plain_told other loops n) (plain_told rest loops)))
plain_told (Does line p rest) loops count = plain_judged line loops (suc count) (plain_stands p) (plain_told rest loops (suc count))

abbrev pub line_of_fault : PlainTold → Option ℕ
line_of_fault (FaultAt line) = Some line
line_of_fault (Counted n) = None

-- the line of the first statement that breaks V13, and none where it holds
unfoldable pub plain_fault : Module → Option ℕ
plain_fault m = line_of_fault (plain_told (nest m.body) 0 0)
