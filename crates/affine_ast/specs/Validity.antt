-- Validity of a module, and the first broken rule: that of the first argument or statement in text order that breaks one, and of
-- its rules the lowest.
use Rattle.std.specs.Prelude.{◌≡◌, ℕ, suc, ◌+◌, ℤ, Bool, true, false, ◌&&◌, List, [], ◌∷◌, Option, Some, None, nat_eq, int_le, if◌then◌else◌}
use Rattle.affine_expr.specs.declared.map.Set.{Set}
use Rattle.affine_expr.specs.Bounded.{range_at}
use Rattle.affine_ast.specs.declared.module.Arg.{Arg}
use Rattle.affine_ast.specs.declared.module.ArgKind.{ArgKind}
use Rattle.affine_ast.specs.declared.module.ArgKind.TheVariants as kind
use Rattle.affine_ast.specs.declared.module.Module.{Module}
use Rattle.affine_ast.specs.declared.name.Name.{Name}
use Rattle.affine_ast.specs.declared.types.Bound.{Bound}
use Rattle.affine_ast.specs.Intervals.{range_or}
use Rattle.affine_ast.specs.Nest.{Plain, Nest, Nothing, Loop, Branch, Does, Alloc, nest}
use Rattle.affine_ast.specs.Scope.{Binding, Symbol, MemrefArgument, Totals, Around, with_name, with_totals, counted, in_loop, in_condition, behind_plain, totals_with}
use Rattle.affine_ast.specs.Rules.{bound_in, uses_in_scope, is_new, defines_new, bound_stands, uses_stand, operands_stand, are_in, types_agree, constant_in_range, bound_fits, set_fits, counts_fit, bound_pure, step_positive, set_pure, maps_pure, is_small, bound_bounded, set_bounded, maps_bounded, spaces_agree, shape_within, allocations_within, arguments_within, text_within}
use Rattle.affine_ast.specs.Sizes.{product}

-- a rule, broken where its demand isn't met, before the rules above it
abbrev pub rule : ℕ → Bool → Option ℕ → Option ℕ
rule number holds higher = if holds then higher else Some number

-- ---- Statements

-- an allocation's shape and the totals with it
abbrev pub elements_within : Totals → Plain → Bool
elements_within t (Alloc r ty) = shape_within ty && allocations_within (totals_with ty t)
elements_within t p = true

-- the lowest rule that a plain statement breaks, under what stands round it and before what follows in its region
unfoldable pub rule_of_plain : Around → Plain → Nest → Option ℕ
rule_of_plain a p rest =
    rule 1 (uses_in_scope a.scope p) (
    rule 2 (defines_new a.scope p) (
    rule 4 (uses_stand a.scope p) (
    rule 5 (types_agree a.scope p) (
    rule 6 (constant_in_range p) (
    rule 7 (counts_fit p) (
    rule 8 (maps_pure p) (
    rule 9 (maps_bounded a.scope p) (
    rule 10 (spaces_agree a p rest) (
    rule 11 (elements_within a.totals p) (
    rule 12 (text_within a) None))))))))))

-- the lowest rule that a loop breaks by itself
unfoldable pub rule_of_loop : Around → Name → Bound → Bound → ℤ → Option ℕ
rule_of_loop a v l u step =
    rule 1 (bound_in a.scope l && bound_in a.scope u) (
    rule 2 (is_new a.scope v) (
    rule 4 (bound_stands a.scope l && bound_stands a.scope u) (
    rule 7 (bound_fits l && bound_fits u) (
    rule 8 (bound_pure l && (bound_pure u && step_positive step)) (
    rule 9 (bound_bounded a.scope l && bound_bounded a.scope u) (
    rule 12 (text_within a) None))))))

-- the lowest rule that a condition breaks by itself
unfoldable pub rule_of_condition : Around → Set → List Name → Option ℕ
rule_of_condition a set names =
    rule 1 (are_in a.scope names) (
    rule 4 (operands_stand a.scope set.dims names) (
    rule 7 (set_fits set names) (
    rule 8 (set_pure set) (
    rule 9 (set_bounded a.scope set names) (
    rule 12 (text_within a) None)))))

-- what is told of statements: the line and the rule of the first that breaks one, or the totals behind them all
pub data Told : Type 0 where
  Broken : ℕ → ℕ → Told
  Passed : Totals → Told

-- a statement by itself, before what is told of what stands in it and behind it
abbrev pub judged : ℕ → Option ℕ → Told → Told
judged line None more = more
judged line (Some number) more = Broken line number

abbrev pub then_told : Told → (Totals → Told) → Told
then_told (Broken line number) more = Broken line number
then_told (Passed t) more = more t

-- statements in text order. A region begins with what stands round it; nothing that it defines or releases is known behind it
unfoldable pub told : Nest → Around → Told
told Nothing a = Passed a.totals
told (Loop line v l u s body rest) a =
    judged line (rule_of_loop (counted a) v l u s)
    (then_told (told body (in_loop v l u (counted a))) (λ t. told rest (with_totals t a)))
told (Branch line set names first has other rest) a =
    judged line (rule_of_condition (counted a) set names)
    (then_told (told first (in_condition (counted a))) (λ t. then_told (told other (in_condition (with_totals t a))) (λ u. told rest (with_totals u a))))
told (Does line p rest) a = judged line (rule_of_plain (counted a) p rest) (told rest (behind_plain p (counted a)))

-- ---- Arguments

abbrev pub with_argument : ArgKind → Totals → Totals
with_argument (kind.Memref ty) t = record t { memrefs = suc t.memrefs; elements = t.elements + product ty.sizes }
with_argument (kind.Index range) t = record t { indexes = suc t.indexes }

abbrev pub binding_of_kind : ArgKind → Binding
binding_of_kind (kind.Memref ty) = MemrefArgument ty
binding_of_kind (kind.Index range) = Symbol (range_at (range_or range))

-- V3: a `copy.range` [a, b] has a <= b
abbrev pub range_ordered : ArgKind → Bool
range_ordered (kind.Memref ty) = true
range_ordered (kind.Index range) = int_le (range_or range).least (range_or range).greatest

abbrev pub range_small : ArgKind → Bool
range_small (kind.Memref ty) = true
range_small (kind.Index range) = is_small (range_or range).least && is_small (range_or range).greatest

abbrev pub argument_is_slow : ArgKind → Bool
argument_is_slow (kind.Memref ty) = nat_eq ty.space 0
argument_is_slow (kind.Index range) = true

abbrev pub argument_shape : ArgKind → Bool
argument_shape (kind.Memref ty) = shape_within ty
argument_shape (kind.Index range) = true

-- the lowest rule that an argument breaks
unfoldable pub rule_of_argument : Around → Name → ArgKind → Option ℕ
rule_of_argument a n k =
    rule 2 (is_new a.scope n) (
    rule 3 (range_ordered k) (
    rule 9 (range_small k) (
    rule 10 (argument_is_slow k) (
    rule 11 (argument_shape k && arguments_within (with_argument k a.totals)) None))))

abbrev pub behind_argument : Name → ArgKind → Around → Around
behind_argument n k a = with_name n (binding_of_kind k) (with_totals (with_argument k a.totals) a)

-- the arguments in order, and then the statements
unfoldable pub told_arguments : List Arg → (Around → Told) → Around → Told
told_arguments [] body a = body a
told_arguments (arg ∷ args) body a = judged arg.line (rule_of_argument a arg.name arg.kind) (told_arguments args body (behind_argument arg.name arg.kind a))

-- ---- The module

abbrev pub no_totals : Totals
no_totals = record { memrefs = 0; indexes = 0; elements = 0; allocated = 0; tags = 0; statements = 0 }

-- nothing is in scope
abbrev pub outside : Around
outside = record { scope = λ n. None; released = λ n. false; loops = 0; ifs = 0; totals = no_totals }

unfoldable pub told_module : Module → Told
told_module m = told_arguments m.args (told (nest m.body)) outside

abbrev pub broken_of : Told → Option (ℕ × ℕ)
broken_of (Broken line number) = Some (line, number)
broken_of (Passed t) = None

-- the first broken rule of a module: the line of the first argument or statement that breaks one, and the lowest that it breaks
unfoldable pub first_broken : Module → Option (ℕ × ℕ)
first_broken m = broken_of (told_module m)

-- a valid module: no argument and no statement breaks one of the rules V1 to V12
abbrev pub IsValid : Module → Type 0
IsValid m = first_broken m ≡ None
