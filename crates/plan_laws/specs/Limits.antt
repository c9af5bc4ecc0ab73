-- What a plan asks of each text on its way: the rule on intervals (V9), the limits on sizes and elements, on statements and loops (the rules V11 and V12), and those
-- of the grammar, counted in the printed spelling. Two need no test of their own: where V12 holds there are at most 16 loops and 16
-- conditions round a statement, so no more than 40 regions inside one another; and a box is no larger than its memref.
use Rattle.std.specs.Prelude.{ℕ, ◌+◌, Bool, true, false, ◌&&◌, nat_le, List, [], ◌∷◌, length, Option, Some, None, sum_by}
use Rattle.std.specs.List.{list_all}
use Rattle.affine_expr.specs.declared.expr.Expr.{Expr}
use Rattle.affine_expr.specs.declared.map.Constraint.{Constraint}
use Rattle.affine_ast.specs.declared.module.Arg.{Arg}
use Rattle.affine_ast.specs.declared.types.Access.{Access}
use Rattle.affine_ast.specs.declared.types.Bound.{Bound}
use Rattle.affine_ast.specs.declared.types.Bound.TheVariants as bound
use Rattle.affine_ast.specs.Nest.{Nest, Nothing, Loop, Branch, Does}
use Rattle.affine_ast.specs.Parts.{maps_of}
use Rattle.affine_ast.specs.PlainLimits.{operand_count, depths}
use Rattle.affine_ast.specs.Rules.{bound_bounded, set_bounded, maps_bounded, text_within}
use Rattle.affine_ast.specs.Scope.{Scope, Around, with_totals, counted, in_loop, in_condition, behind_plain}
use Rattle.affine_ast.specs.Validity.{behind_argument, elements_within, outside}
use Rattle.placement_texts.specs.Tests.{behind_scope, loop_scope}
use Rattle.placement_texts.specs.Valid.{scope_behind_arguments}

-- ---- one expression has at most 256 operands, and 128 parentheses and negations inside one another; a map 8 results, a set 16 rows
abbrev pub expression_fits : Expr → Bool
expression_fits e = nat_le (operand_count e) 256 && nat_le (depths e).sum 128

abbrev pub access_fits : Access → Bool
access_fits at = nat_le (length at.map.results) 8 && list_all expression_fits at.map.results

abbrev pub bound_fits : Bound → Bool
bound_fits (bound.Int z) = true
bound_fits (bound.Value n) = true
bound_fits (bound.Map at) = access_fits at

abbrev pub row_fits : Constraint → Bool
row_fits row = expression_fits row.left && expression_fits row.right

abbrev pub rows_fit : List Constraint → Bool
rows_fit rows = nat_le (length rows) 16 && list_all row_fits rows

-- ---- a module has at most 1,048,576 operands
abbrev pub map_operands : Access → ℕ
map_operands at = sum_by operand_count at.map.results

abbrev pub bound_operands : Bound → ℕ
bound_operands (bound.Int z) = 0
bound_operands (bound.Value n) = 0
bound_operands (bound.Map at) = map_operands at

abbrev pub row_operands : Constraint → ℕ
row_operands row = operand_count row.left + operand_count row.right

abbrev pub operands_in : Nest → ℕ
operands_in Nothing = 0
operands_in (Loop line v l u s body rest) = bound_operands l + (bound_operands u + (operands_in body + operands_in rest))
operands_in (Branch line set names first has other rest) =
    sum_by row_operands set.rows + (operands_in first + (operands_in other + operands_in rest))
operands_in (Does line p rest) = sum_by map_operands (maps_of p) + operands_in rest

-- ---- statements in text order, each under what stands round it
-- what stands round the next statement, where all so far keep to the limits
abbrev pub while_kept : Bool → Option Around → Option Around
while_kept true a = a
while_kept false a = None

abbrev pub and_then : Option Around → (Around → Option Around) → Option Around
and_then (Some a) more = more a
and_then None more = None

-- what stands round the statement behind them all
abbrev pub kept : Nest → Around → Option Around
kept Nothing a = Some a
kept (Loop line v l u s body rest) a =
    while_kept (text_within (counted a) && (bound_fits l && bound_fits u))
    (and_then (kept body (in_loop v l u (counted a))) (λ b. kept rest (with_totals b.totals a)))
kept (Branch line set names first has other rest) a =
    while_kept (text_within (counted a) && rows_fit set.rows)
    (and_then (kept first (in_condition (counted a))) (λ b.
    and_then (kept other (in_condition (with_totals b.totals a))) (λ c. kept rest (with_totals c.totals a))))
kept (Does line p rest) a =
    while_kept (text_within (counted a) && (elements_within (counted a).totals p && list_all access_fits (maps_of p)))
    (kept rest (behind_plain p (counted a)))

abbrev pub is_there : Option Around → Bool
is_there (Some a) = true
is_there None = false

-- what stands round the statements of a function with these arguments
abbrev pub behind_arguments : List Arg → Around → Around
behind_arguments [] a = a
behind_arguments (arg ∷ args) a = behind_arguments args (behind_argument arg.name arg.kind a)

unfoldable pub keeps_limits : List Arg → Nest → Bool
keeps_limits args n = nat_le (operands_in n) 1048576 && is_there (kept n (behind_arguments args outside))

-- ---- every expression has an interval within the limits, under what is in scope there
abbrev pub bounded_in : Nest → Scope → Bool
bounded_in Nothing s = true
bounded_in (Loop line v l u step body rest) s =
    (bound_bounded s l && bound_bounded s u) && (bounded_in body (loop_scope v l u s) && bounded_in rest s)
bounded_in (Branch line set names first has other rest) s = set_bounded s set names && (bounded_in first s && (bounded_in other s && bounded_in rest s))
bounded_in (Does line p rest) s = maps_bounded s p && bounded_in rest (behind_scope p s)

unfoldable pub keeps_intervals : List Arg → Nest → Bool
keeps_intervals args n = bounded_in n (scope_behind_arguments args (λ n. None))
