-- What stands round a statement: the names in scope, each with its kind, its type and its interval, the loops and conditions
-- round it, and the totals so far.
use Rattle.std.specs.Prelude.{ℕ, suc, ◌+◌, ℤ, pos, Bool, true, Option, Some, None, nat_eq, if◌then◌else◌}
use Rattle.affine_expr.specs.Spread.{Range, only}
use Rattle.affine_ast.specs.declared.name.Name.{Name}
use Rattle.affine_ast.specs.declared.types.Bound.{Bound}
use Rattle.affine_ast.specs.declared.types.MemrefType.{MemrefType}
use Rattle.affine_ast.specs.declared.types.Scalar.{Scalar}
use Rattle.affine_ast.specs.declared.types.Scalar.TheVariants.{Int, Index}
use Rattle.affine_ast.specs.Names.{put}
use Rattle.affine_ast.specs.Intervals.{Ranges, ranges_at, picked_range, first_turn, last_end, turn_range}
use Rattle.affine_ast.specs.Nest.{Plain}
use Rattle.affine_ast.specs.Parts.{Effect, NewIndex, NewConstant, NewData, NewMemref, Released, Unchanged, effect_of}
use Rattle.affine_ast.specs.Sizes.{product}

-- what a name in scope stands for
pub data Binding : Type 0 where
  -- a loop variable, or a result of `affine.apply`, `min` or `max`, with its interval
  Variable : Range → Binding
  -- an index argument, with its range
  Symbol : Range → Binding
  -- a constant of type index
  IndexConstant : ℤ → Binding
  -- every other value, of this type
  Data : Scalar → Binding
  -- a memref argument, of this type
  MemrefArgument : MemrefType → Binding
  -- an allocated memref, of this type
  Allocation : MemrefType → Binding

-- the names in scope
abbrev pub Scope : Type 0
Scope = Name → Option Binding

-- the interval of a name that has one; what has none isn't asked for it
abbrev pub range_of_binding : Option Binding → Range
range_of_binding (Some (Variable r)) = r
range_of_binding (Some (Symbol r)) = r
range_of_binding (Some (IndexConstant z)) = only z
range_of_binding (Some (Data ty)) = only (pos 0)
range_of_binding (Some (MemrefArgument ty)) = only (pos 0)
range_of_binding (Some (Allocation ty)) = only (pos 0)
range_of_binding None = only (pos 0)

-- the intervals of the names in scope
unfoldable pub ranges_in : Scope → Ranges
ranges_in s n = range_of_binding (s n)

-- sums over the text so far: of the arguments, of the allocations in space 1 and 2, and of the statements
pub record Totals : Type 0 where
  -- memref arguments, index arguments, elements of all memref arguments
  pub memrefs : ℕ
  pub indexes : ℕ
  pub elements : ℕ
  -- elements of all allocations, those of tags among them; elements of tags alone
  pub allocated : ℕ
  pub tags : ℕ
  pub statements : ℕ

pub record Around : Type 0 where
  pub scope : Scope
  -- the allocations whose dealloc stands before
  pub released : Name → Bool
  -- loops and conditions round the statement
  pub loops : ℕ
  pub ifs : ℕ
  pub totals : Totals

-- a name more in scope
abbrev pub with_name : Name → Binding → Around → Around
with_name n b a = record a { scope = put a.scope n (Some b) }

abbrev pub with_totals : Totals → Around → Around
with_totals t a = record a { totals = t }

-- one statement more
abbrev pub counted : Around → Around
counted a = record a { totals = record a.totals { statements = suc a.totals.statements } }

-- what stands round the statements in a loop
abbrev pub in_loop : Name → Bound → Bound → Around → Around
in_loop v l u a = record a {
  scope = put a.scope v (Some (Variable (turn_range (first_turn (ranges_in a.scope) l) (last_end (ranges_in a.scope) u))));
  loops = suc a.loops;
}

-- what stands round the statements in a condition
abbrev pub in_condition : Around → Around
in_condition a = record a { ifs = suc a.ifs }

abbrev pub binding_of_constant : ℤ → Scalar → Binding
binding_of_constant z (Int e) = Data (Int e)
binding_of_constant z Index = IndexConstant z

abbrev pub tags_of : ℕ → ℕ → ℕ
tags_of space n = if nat_eq space 2 then n else 0

-- an allocation's elements count, and those of tags twice
abbrev pub totals_with : MemrefType → Totals → Totals
totals_with ty t = record t { allocated = t.allocated + product ty.sizes; tags = t.tags + tags_of ty.space (product ty.sizes) }

-- what a plain statement does to what stands round the one behind it
abbrev pub behind_effect : Effect → Around → Around
behind_effect (NewIndex r pick at) a = with_name r (Variable (picked_range pick (ranges_at (ranges_in a.scope) at))) a
behind_effect (NewConstant r z ty) a = with_name r (binding_of_constant z ty) a
behind_effect (NewData r ty) a = with_name r (Data ty) a
behind_effect (NewMemref r ty) a = with_name r (Allocation ty) (with_totals (totals_with ty a.totals) a)
behind_effect (Released m) a = record a { released = put a.released m true }
behind_effect Unchanged a = a

-- what stands round the statement behind a plain one
abbrev pub behind_plain : Plain → Around → Around
behind_plain p a = behind_effect (effect_of p) a
