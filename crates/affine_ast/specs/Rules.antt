-- The rules of validity V1 to V12, each as what it demands of a statement under what stands round it. A demand holds of every
-- statement that its rule doesn't speak of.
use Rattle.std.specs.Prelude.{ℕ, ◌+◌, ◌^◌, ◌-◌, ℤ, pos, neg_ℤ, Bool, true, false, not, ◌&&◌, ◌||◌, List, [], ◌∷◌, map, take, drop, length, Option, Some, None, is_some, nat_eq, nat_le, nat_lt, int_le, int_lt, if◌then◌else◌}
use Rattle.std.specs.Cmp.Lexicographic.{pointwise}
use Rattle.std.specs.List.{list_all}
use Rattle.affine_expr.specs.declared.expr.Expr.{Expr}
use Rattle.affine_expr.specs.declared.map.Constraint.{Constraint}
use Rattle.affine_expr.specs.declared.map.Set.{Set}
use Rattle.affine_expr.specs.Bounded.{bounded}
use Rattle.affine_expr.specs.Pure.{is_outside, is_pure, has_leaves_below}
use Rattle.affine_expr.specs.Spread.{Range}
use Rattle.int_ops.specs.declared.operation.CastKind.{CastKind}
use Rattle.int_ops.specs.declared.operation.CastKind.TheVariants as cast
use Rattle.affine_ast.specs.declared.name.Name.{Name}
use Rattle.affine_ast.specs.declared.types.Access.{Access}
use Rattle.affine_ast.specs.declared.types.Bound.{Bound}
use Rattle.affine_ast.specs.declared.types.Bound.TheVariants as bound
use Rattle.affine_ast.specs.declared.types.Element.{Element}
use Rattle.affine_ast.specs.declared.types.Element.TheVariants.{I32}
use Rattle.affine_ast.specs.declared.types.MemrefType.{MemrefType}
use Rattle.affine_ast.specs.declared.types.Pick.{Pick}
use Rattle.affine_ast.specs.declared.types.Pick.TheVariants.{Apply, Min, Max}
use Rattle.affine_ast.specs.declared.types.Scalar.{Scalar}
use Rattle.affine_ast.specs.declared.types.Scalar.TheVariants.{Int, Index}
use Rattle.affine_ast.specs.Names.{same_name}
use Rattle.affine_ast.specs.Nest.{Plain, Nest, Nothing, Loop, Branch, Does, Value, Load, Store, RawLoad, RawStore, Constant, Binary, Cast, Alloc, Dealloc, Start, Wait, Return}
pub use Rattle.affine_ast.specs.Parts.{stride_names}
use Rattle.affine_ast.specs.Parts.{every, result_of, maps_of}
use Rattle.affine_ast.specs.Scope.{Binding, Variable, Symbol, IndexConstant, Data, MemrefArgument, Allocation, Scope, ranges_in, Totals, Around}
use Rattle.affine_ast.specs.Sizes.{element_bits, scalar_bits}

-- ---- V1: every value used is in scope

unfoldable pub is_in : Scope → Name → Bool
is_in s n = is_some (s n)

unfoldable pub are_in : Scope → List Name → Bool
are_in s = list_all (is_in s)

-- a memref with its subscripts
abbrev pub place_in : Scope → Name → Access → Bool
place_in s m at = is_in s m && are_in s at.operands

abbrev pub bound_in : Scope → Bound → Bool
bound_in s (bound.Int z) = true
bound_in s (bound.Value n) = is_in s n
bound_in s (bound.Map at) = are_in s at.operands

abbrev pub uses_in_scope : Scope → Plain → Bool
uses_in_scope s (Value r pick at) = are_in s at.operands
uses_in_scope s (Load r m at ty) = place_in s m at
uses_in_scope s (Store x m at ty) = is_in s x && place_in s m at
uses_in_scope s (RawLoad r m at ty) = is_in s m && are_in s at
uses_in_scope s (RawStore x m at ty) = is_in s x && (is_in s m && are_in s at)
uses_in_scope s (Constant r z ty) = true
uses_in_scope s (Binary r op x y ty) = is_in s x && is_in s y
uses_in_scope s (Cast r kind x from to) = is_in s x
uses_in_scope s (Alloc r ty) = true
uses_in_scope s (Dealloc m ty) = is_in s m
uses_in_scope s (Start x x_at y y_at t t_at n stride types) =
    place_in s x x_at && (place_in s y y_at && (place_in s t t_at && (is_in s n && are_in s (stride_names stride))))
uses_in_scope s (Wait t at n ty) = place_in s t at && is_in s n
uses_in_scope s Return = true

-- ---- V2: a value defined isn't in scope already

abbrev pub is_new : Scope → Name → Bool
is_new s n = not (is_in s n)

abbrev pub is_new_result : Scope → Option Name → Bool
is_new_result s None = true
is_new_result s (Some r) = is_new s r

abbrev pub defines_new : Scope → Plain → Bool
defines_new s p = is_new_result s (result_of p)

-- ---- V4: a dimension is a loop variable, an index argument, an index constant, or a result of `affine.apply`, `min`, `max`;
-- a symbol is an index argument or index constant; a memref stands only where a memref is asked for

abbrev pub may_be_dimension : Option Binding → Bool
may_be_dimension (Some (Variable r)) = true
may_be_dimension (Some (Symbol r)) = true
may_be_dimension (Some (IndexConstant z)) = true
may_be_dimension b = false

abbrev pub may_be_symbol : Option Binding → Bool
may_be_symbol (Some (Symbol r)) = true
may_be_symbol (Some (IndexConstant z)) = true
may_be_symbol b = false

abbrev pub is_memref : Option Binding → Bool
is_memref (Some (MemrefArgument ty)) = true
is_memref (Some (Allocation ty)) = true
is_memref b = false

unfoldable pub is_dimension : Scope → Name → Bool
is_dimension s n = may_be_dimension (s n)

unfoldable pub is_symbol : Scope → Name → Bool
is_symbol s n = may_be_symbol (s n)

-- a name that stands where no memref is asked for
unfoldable pub is_value : Scope → Name → Bool
is_value s n = not (is_memref (s n))

unfoldable pub are_values : Scope → List Name → Bool
are_values s = list_all (is_value s)

-- the operands are those of so many dimensions and then those of the symbols
unfoldable pub operands_stand : Scope → ℕ → List Name → Bool
operands_stand s dims names = list_all (is_dimension s) (take dims names) && list_all (is_symbol s) (drop dims names)

abbrev pub access_stands : Scope → Access → Bool
access_stands s at = operands_stand s at.map.dims at.operands

abbrev pub bound_stands : Scope → Bound → Bool
bound_stands s (bound.Int z) = true
bound_stands s (bound.Value n) = is_dimension s n
bound_stands s (bound.Map at) = access_stands s at

abbrev pub uses_stand : Scope → Plain → Bool
uses_stand s (Value r pick at) = access_stands s at
uses_stand s (Load r m at ty) = access_stands s at
uses_stand s (Store x m at ty) = is_value s x && access_stands s at
uses_stand s (RawLoad r m at ty) = are_values s at
uses_stand s (RawStore x m at ty) = is_value s x && are_values s at
uses_stand s (Binary r op x y ty) = is_value s x && is_value s y
uses_stand s (Cast r kind x from to) = is_value s x
uses_stand s (Start x x_at y y_at t t_at n stride types) =
    access_stands s x_at && (access_stands s y_at && (access_stands s t_at && (is_value s n && are_values s (stride_names stride))))
uses_stand s (Wait t at n ty) = access_stands s at && is_value s n
uses_stand s p = true

-- ---- V5: written types are those of the values; `extsi` and `extui` go to a wider integer type, `trunci` to a narrower one,
-- `index_cast` between `index` and an integer type; both memrefs of a transfer have one element type

abbrev pub same_element : Element → Element → Bool
same_element a b = nat_eq (element_bits a) (element_bits b)

abbrev pub same_scalar : Scalar → Scalar → Bool
same_scalar (Int a) (Int b) = same_element a b
same_scalar Index Index = true
same_scalar a b = false

unfoldable pub same_type : MemrefType → MemrefType → Bool
same_type a b = pointwise nat_eq a.sizes b.sizes && (same_element a.element b.element && nat_eq a.space b.space)

abbrev pub binding_is_memref_of : Option Binding → MemrefType → Bool
binding_is_memref_of (Some (MemrefArgument ty)) written = same_type ty written
binding_is_memref_of (Some (Allocation ty)) written = same_type ty written
binding_is_memref_of b written = false

abbrev pub binding_is_scalar : Option Binding → Scalar → Bool
binding_is_scalar (Some (Data ty)) written = same_scalar ty written
binding_is_scalar (Some (Variable r)) written = same_scalar Index written
binding_is_scalar (Some (Symbol r)) written = same_scalar Index written
binding_is_scalar (Some (IndexConstant z)) written = same_scalar Index written
binding_is_scalar b written = false

-- a memref of the written type
unfoldable pub is_memref_of : Scope → Name → MemrefType → Bool
is_memref_of s m ty = binding_is_memref_of (s m) ty

-- a value of the written type
unfoldable pub is_of : Scope → Name → Scalar → Bool
is_of s n ty = binding_is_scalar (s n) ty

unfoldable pub are_indexes : Scope → List Name → Bool
are_indexes s = list_all (λ n. is_of s n Index)

abbrev pub casts_between : CastKind → Scalar → Scalar → Bool
casts_between cast.ExtS (Int a) (Int b) = nat_lt (element_bits a) (element_bits b)
casts_between cast.ExtU (Int a) (Int b) = nat_lt (element_bits a) (element_bits b)
casts_between cast.Trunc (Int a) (Int b) = nat_lt (element_bits b) (element_bits a)
casts_between cast.Index Index (Int b) = true
casts_between cast.Index (Int a) Index = true
casts_between kind from to = false

-- the memrefs of a transfer, and their types
abbrev pub ends_typed : Scope → Name → Name → Name → List MemrefType → Bool
ends_typed s x y t (x_ty ∷ y_ty ∷ t_ty ∷ []) =
    is_memref_of s x x_ty && (is_memref_of s y y_ty && (is_memref_of s t t_ty && same_element x_ty.element y_ty.element))
ends_typed s x y t types = false

abbrev pub types_agree : Scope → Plain → Bool
types_agree s (Load r m at ty) = is_memref_of s m ty
types_agree s (Store x m at ty) = is_of s x (Int ty.element) && is_memref_of s m ty
types_agree s (RawLoad r m at ty) = is_memref_of s m ty && are_indexes s at
types_agree s (RawStore x m at ty) = is_of s x (Int ty.element) && (is_memref_of s m ty && are_indexes s at)
types_agree s (Binary r op x y ty) = is_of s x ty && is_of s y ty
types_agree s (Cast r kind x from to) = is_of s x from && casts_between kind from to
types_agree s (Dealloc m ty) = is_memref_of s m ty
types_agree s (Start x x_at y y_at t t_at n stride types) = ends_typed s x y t types
types_agree s (Wait t at n ty) = is_memref_of s t ty
types_agree s p = true

-- ---- V6: a constant is in the signed range of its type

unfoldable pub in_signed_range : ℕ → ℤ → Bool
in_signed_range bits z = int_le (neg_ℤ (pos (2 ^ (bits - 1)))) z && int_lt z (pos (2 ^ (bits - 1)))

abbrev pub constant_in_range : Plain → Bool
constant_in_range (Constant r z ty) = in_signed_range (scalar_bits ty) z
constant_in_range p = true

-- ---- V7: subscripts are as many as the rank, operands as many as parameters; `affine.apply` has one result, a bound, `affine.min`
-- and `affine.max` one at least. The leaves of a map or a set are its parameters

unfoldable pub map_fits : Access → Bool
map_fits at = nat_eq (length at.operands) (at.map.dims + at.map.syms) && list_all (has_leaves_below at.map.dims at.map.syms) at.map.results

abbrev pub row_has_leaves : ℕ → ℕ → Constraint → Bool
row_has_leaves dims syms row = has_leaves_below dims syms row.left && has_leaves_below dims syms row.right

unfoldable pub set_fits : Set → List Name → Bool
set_fits set names = nat_eq (length names) (set.dims + set.syms) && list_all (row_has_leaves set.dims set.syms) set.rows

-- the subscripts of a memref of this type
unfoldable pub subscripts_fit : Access → MemrefType → Bool
subscripts_fit at ty = map_fits at && nat_eq (length at.map.results) (length ty.sizes)

-- a greatest or a least is that of one number at least; no text spells a map without results
abbrev pub has_result : Access → Bool
has_result at = not (nat_eq (length at.map.results) 0)

abbrev pub bound_fits : Bound → Bool
bound_fits (bound.Int z) = true
bound_fits (bound.Value n) = true
bound_fits (bound.Map at) = map_fits at && has_result at

abbrev pub results_fit : Pick → Access → Bool
results_fit Apply at = nat_eq (length at.map.results) 1
results_fit Min at = has_result at
results_fit Max at = has_result at

abbrev pub ends_fit : Access → Access → Access → List MemrefType → Bool
ends_fit x_at y_at t_at (x_ty ∷ y_ty ∷ t_ty ∷ []) = subscripts_fit x_at x_ty && (subscripts_fit y_at y_ty && subscripts_fit t_at t_ty)
ends_fit x_at y_at t_at types = false

abbrev pub counts_fit : Plain → Bool
counts_fit (Value r pick at) = map_fits at && results_fit pick at
counts_fit (Load r m at ty) = subscripts_fit at ty
counts_fit (Store x m at ty) = subscripts_fit at ty
counts_fit (RawLoad r m at ty) = nat_eq (length at) (length ty.sizes)
counts_fit (RawStore x m at ty) = nat_eq (length at) (length ty.sizes)
counts_fit (Start x x_at y y_at t t_at n stride types) = ends_fit x_at y_at t_at types
counts_fit (Wait t at n ty) = subscripts_fit at ty
counts_fit p = true

-- ---- V8: one side of `*` has no dimension and no symbol; the right side of `floordiv`, `ceildiv`, `mod` has none either, and is
-- positive; a step is positive

unfoldable pub access_pure : Access → Bool
access_pure at = list_all is_pure at.map.results

abbrev pub row_pure : Constraint → Bool
row_pure row = is_pure row.left && is_pure row.right

unfoldable pub set_pure : Set → Bool
set_pure set = list_all row_pure set.rows

abbrev pub bound_pure : Bound → Bool
bound_pure (bound.Int z) = true
bound_pure (bound.Value n) = true
bound_pure (bound.Map at) = access_pure at

abbrev pub step_positive : ℤ → Bool
step_positive step = int_lt (pos 0) step

abbrev pub maps_pure : Plain → Bool
maps_pure p = every access_pure (maps_of p)

-- ---- V9: every affine subexpression, integer bound, `copy.range` and constant dimension has an interval within -2^62 to 2^62

abbrev pub is_small : ℤ → Bool
is_small z = not (is_outside z)

-- a constant that stands as a dimension
abbrev pub binding_is_small : Option Binding → Bool
binding_is_small (Some (IndexConstant z)) = is_small z
binding_is_small b = true

unfoldable pub is_small_dimension : Scope → Name → Bool
is_small_dimension s n = binding_is_small (s n)

-- an expression over dimensions and symbols in these ranges
unfoldable pub has_interval : List Range → List Range → Expr → Bool
has_interval ds ss e = is_some (bounded ds ss e)

unfoldable pub access_bounded : Scope → Access → Bool
access_bounded s at =
    list_all (is_small_dimension s) (take at.map.dims at.operands)
    && list_all (has_interval (take at.map.dims (map (ranges_in s) at.operands)) (drop at.map.dims (map (ranges_in s) at.operands))) at.map.results

abbrev pub row_bounded : List Range → List Range → Constraint → Bool
row_bounded ds ss row = has_interval ds ss row.left && has_interval ds ss row.right

unfoldable pub set_bounded : Scope → Set → List Name → Bool
set_bounded s set names =
    list_all (is_small_dimension s) (take set.dims names)
    && list_all (row_bounded (take set.dims (map (ranges_in s) names)) (drop set.dims (map (ranges_in s) names))) set.rows

abbrev pub bound_bounded : Scope → Bound → Bool
bound_bounded s (bound.Int z) = is_small z
bound_bounded s (bound.Value n) = is_small_dimension s n
bound_bounded s (bound.Map at) = access_bounded s at

abbrev pub maps_bounded : Scope → Plain → Bool
maps_bounded s p = every (access_bounded s) (maps_of p)

-- ---- V10: arguments are in space 0, allocations in 1 or 2, tags hold `i32` in space 2; loads and stores use space 0 or 1; a
-- transfer goes between spaces 0 and 1, its tag is in 2; count, stride and chunk are index constants, count >= 1,
-- 1,048,576 >= stride >= chunk >= 1; an allocation has exactly one dealloc, later in its own region, and no use after it

-- deallocs of a name, at every depth
abbrev pub is_dealloc_of : Name → Plain → ℕ
is_dealloc_of m (Dealloc n ty) = if same_name n m then 1 else 0
is_dealloc_of m p = 0

unfoldable pub deallocs : Name → Nest → ℕ
deallocs m Nothing = 0
deallocs m (Loop line v l u s body rest) = deallocs m body + deallocs m rest
deallocs m (Branch line set names first has other rest) = deallocs m first + (deallocs m other + deallocs m rest)
deallocs m (Does line p rest) = is_dealloc_of m p + deallocs m rest

-- those that stand in the region itself
unfoldable pub own_deallocs : Name → Nest → ℕ
own_deallocs m Nothing = 0
own_deallocs m (Loop line v l u s body rest) = own_deallocs m rest
own_deallocs m (Branch line set names first has other rest) = own_deallocs m rest
own_deallocs m (Does line p rest) = is_dealloc_of m p + own_deallocs m rest

-- exactly one dealloc in the rest of the region, and it stands in the region itself
unfoldable pub is_released_once : Name → Nest → Bool
is_released_once m rest = nat_eq (deallocs m rest) 1 && nat_eq (own_deallocs m rest) 1

-- an allocation in space 1, or of tags in space 2
abbrev pub allocates_well : MemrefType → Bool
allocates_well ty = nat_eq ty.space 1 || (nat_eq ty.space 2 && same_element ty.element I32)

abbrev pub is_loadable : MemrefType → Bool
is_loadable ty = nat_le ty.space 1

abbrev pub is_allocation : Option Binding → Bool
is_allocation (Some (Allocation ty)) = true
is_allocation b = false

unfoldable pub is_allocated : Scope → Name → Bool
is_allocated s m = is_allocation (s m)

abbrev pub number_of_binding : Option Binding → Option ℤ
number_of_binding (Some (IndexConstant z)) = Some z
number_of_binding b = None

-- the number of an index constant
unfoldable pub constant_of : Scope → Name → Option ℤ
constant_of s n = number_of_binding (s n)

abbrev pub is_count : Option ℤ → Bool
is_count (Some z) = int_le (pos 1) z
is_count None = false

abbrev pub are_stride_and_chunk : Option ℤ → Option ℤ → Bool
are_stride_and_chunk (Some stride) (Some chunk) = int_le stride (pos 1048576) && (int_le chunk stride && int_le (pos 1) chunk)
are_stride_and_chunk (Some stride) None = false
are_stride_and_chunk None chunk = false

abbrev pub stride_well : Scope → Option (Name × Name) → Bool
stride_well s None = true
stride_well s (Some two) = are_stride_and_chunk (constant_of s two.0) (constant_of s two.1)

-- one end in the slow space and one in the fast
abbrev pub ends_in_spaces : List MemrefType → Bool
ends_in_spaces (x_ty ∷ y_ty ∷ t_ty ∷ []) = nat_le x_ty.space 1 && (nat_le y_ty.space 1 && (nat_eq (x_ty.space + y_ty.space) 1 && nat_eq t_ty.space 2))
ends_in_spaces types = false

abbrev pub is_live : Around → Name → Bool
is_live a m = not (a.released m)

abbrev pub spaces_agree : Around → Plain → Nest → Bool
spaces_agree a (Load r m at ty) rest = is_loadable ty && is_live a m
spaces_agree a (Store x m at ty) rest = is_loadable ty && is_live a m
spaces_agree a (RawLoad r m at ty) rest = is_loadable ty && is_live a m
spaces_agree a (RawStore x m at ty) rest = is_loadable ty && is_live a m
spaces_agree a (Alloc r ty) rest = allocates_well ty && is_released_once r rest
spaces_agree a (Dealloc m ty) rest = is_allocated a.scope m && is_live a m
spaces_agree a (Start x x_at y y_at t t_at n stride types) rest =
    ends_in_spaces types && (is_count (constant_of a.scope n) && (stride_well a.scope stride && (is_live a x && (is_live a y && is_live a t))))
spaces_agree a (Wait t at n ty) rest = nat_eq ty.space 2 && (is_count (constant_of a.scope n) && is_live a t)
spaces_agree a p rest = true

-- ---- V11: sizes are at least 1; ranks, arguments and elements are within the limits

unfoldable pub sizes_positive : List ℕ → Bool
sizes_positive = list_all (nat_le 1)

abbrev pub rank_within : ℕ → ℕ → Bool
rank_within space rank = if nat_eq space 0 then nat_le rank 6 else (if nat_eq space 1 then (nat_le 1 rank && nat_le rank 7) else nat_eq rank 1)

-- the sizes and the rank of a type
unfoldable pub shape_within : MemrefType → Bool
shape_within ty = sizes_positive ty.sizes && rank_within ty.space (length ty.sizes)

abbrev pub allocations_within : Totals → Bool
allocations_within t = nat_le t.allocated 16777216 && nat_le t.tags 65536

abbrev pub arguments_within : Totals → Bool
arguments_within t = nat_le t.memrefs 64 && (nat_le t.indexes 16 && nat_le t.elements 1048576)

-- ---- V12: statements, loops and ifs are within the limits

abbrev pub text_within : Around → Bool
text_within a = nat_le a.totals.statements 65536 && (nat_le a.loops 16 && nat_le a.ifs 16)
