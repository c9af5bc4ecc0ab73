-- Texts that a machine of 64-bit words can walk: wherever the list of their actions comes, every number that it needs fits.
use Rattle.std.specs.Prelude.{◌≡◌, ℕ, ◌+◌, ◌^◌, ◌≤◌, ◌<◌, ℤ, pos, neg_ℤ, ◌≤ℤ◌, ◌<ℤ◌, List, [], ◌∷◌, length, take, drop, Option, Some, None, if◌then◌else◌}
use Rattle.std.specs.List.{All}
use Rattle.affine_expr.specs.declared.map.Set.{Set}
use Rattle.affine_expr.specs.Bounded.{Evaluable}
use Rattle.int_ops.specs.Cast.{CanCast}
use Rattle.int_ops.specs.Wrapped.{InRange}
use Rattle.affine_ast.specs.declared.name.Name.{Name}
use Rattle.affine_ast.specs.declared.types.Access.{Access}
use Rattle.affine_ast.specs.declared.types.Bound.{Bound}
use Rattle.affine_ast.specs.declared.types.Bound.TheVariants as bound
use Rattle.affine_ast.specs.declared.types.MemrefType.{MemrefType}
use Rattle.affine_ast.specs.declared.types.Pick.{Pick}
use Rattle.affine_ast.specs.declared.types.Pick.TheVariants.{Apply, Min, Max}
use Rattle.affine_ast.specs.Nest.{Plain, Nest, Nothing, Loop, Branch, Does, Value, Load, Store, RawLoad, RawStore, Constant, Binary, Cast, Alloc, Dealloc, Start, Wait, Return}
use Rattle.affine_ast.specs.Sizes.{element_bits, scalar_bits, product}
use Rattle.direct_meaning.specs.Action.{Home, SlowMemref, FastMemref, TagMemref}
use Rattle.direct_meaning.specs.Static.{Env, knows, numbers, results_of, picked, lower_of, upper_of}
use Rattle.direct_meaning.specs.Actions.{is_fast, after_plain, behind}
use Rattle.valid_laws.specs.Evaluable.{EvaluableSet}

-- ---- numbers

-- a number from -2 ^ 62 to 2 ^ 62, as every affine value of a valid module is
pub record IsSmall (z : ℤ) : Type 0 where
  pub least : neg_ℤ (pos (2 ^ 62)) ≤ℤ z
  pub most : z ≤ℤ pos (2 ^ 62)

-- a name stands for a number that fits 64 bits
pub record IsNumber (known : Option ℤ) : Type 0 where
  pub value : ℤ
  pub is : known ≡ Some value
  pub fits : InRange 64 value

-- so does each of these names
abbrev pub AreNumbers : Env → List Name → Type 0
AreNumbers e names = All (λ n. IsNumber (e.known n)) names

-- a value that is used at a width: where it is a number, it lies in the width's signed range
abbrev pub FitsOperand : ℕ → Option ℤ → Type 0
FitsOperand bits None = Unit {0}
FitsOperand bits (Some z) = InRange bits z

-- the numbers of the next allocations, in space 1 and 2, within the limits of a module
pub record CountsFit (e : Env) : Type 0 where
  pub fasts : e.fasts ≤ 65536
  pub tags : e.tags ≤ 65536

-- ---- maps and sets

-- a use of a map: its operands are as many as its dimensions and symbols, each a number; each result may be evaluated at these,
-- with a small value
pub record SafeAccess (e : Env) (at : Access) : Type 0 where
  pub count : length at.operands ≡ at.map.dims + at.map.syms
  pub known : AreNumbers e at.operands
  pub evaluable : All (Evaluable (take at.map.dims (numbers e at.operands)) (drop at.map.dims (numbers e at.operands))) at.map.results
  pub small : All IsSmall (results_of e at)

-- `affine.apply` has one result
abbrev pub HasResults : Pick → Access → Type 0
HasResults Apply at = length at.map.results ≡ 1
HasResults Min at = Unit {0}
HasResults Max at = Unit {0}

-- a value that a map gives is a small number
pub record SafeValue (e : Env) (pick : Pick) (at : Access) : Type 0 where
  pub access : SafeAccess e at
  pub results : HasResults pick at
  pub small : IsSmall (picked pick (results_of e at))

abbrev pub SafeBound : Env → Bound → Type 0
SafeBound e (bound.Int z) = IsSmall z
SafeBound e (bound.Value n) = IsNumber (e.known n)
SafeBound e (bound.Map at) = SafeAccess e at

-- the bounds of a loop are small numbers, and its step is positive
pub record SafeLoop (e : Env) (l u : Bound) (s : ℤ) : Type 0 where
  pub lower : SafeBound e l
  pub upper : SafeBound e u
  pub lower_small : IsSmall (lower_of e l)
  pub upper_small : IsSmall (upper_of e u)
  pub step : pos 0 <ℤ s

-- a set's operands are as many as its dimensions and symbols, each a number, and both sides of its rows may be evaluated
pub record SafeCondition (e : Env) (set : Set) (names : List Name) : Type 0 where
  pub count : length names ≡ set.dims + set.syms
  pub known : AreNumbers e names
  pub evaluable : EvaluableSet e set names

-- ---- memrefs

-- an argument's memref: one of at most 64, its elements side by side from the slow place `first` on, of 1,048,576 in all
pub record IsSlow (number first : ℕ) (ty : MemrefType) : Type 0 where
  pub space : ty.space ≡ 0
  pub rank : length ty.sizes ≤ 6
  pub number_fits : number < 64
  pub places_fit : first + product ty.sizes ≤ 1048576

-- an allocation in space 1: one of at most 65,536, of at most 16,777,216 elements
pub record IsFast (number : ℕ) (ty : MemrefType) : Type 0 where
  pub space : ty.space ≡ 1
  pub has_halves : 1 ≤ length ty.sizes
  pub rank : length ty.sizes ≤ 7
  pub number_fits : number < 65536
  pub cells_fit : product ty.sizes ≤ 16777216

-- tags: those from `first` on, of 65,536 in all
pub record AreTags (first : ℕ) (ty : MemrefType) : Type 0 where
  pub space : ty.space ≡ 2
  pub rank : length ty.sizes ≡ 1
  pub numbers_fit : first + product ty.sizes ≤ 65536

abbrev pub StandsFor : Option Home → MemrefType → Type 0
StandsFor None ty = ⊥
StandsFor (Some (SlowMemref number first)) ty = IsSlow number first ty
StandsFor (Some (FastMemref number)) ty = IsFast number ty
StandsFor (Some (TagMemref first)) ty = AreTags first ty

-- a name stands for a memref of this type, whose sizes are at least 1
pub record IsMemref (home : Option Home) (ty : MemrefType) : Type 0 where
  pub stands : StandsFor home ty
  pub sizes : All (λ n. 1 ≤ n) ty.sizes

-- an element of a memref: as many subscripts as its rank
pub record SafePlace (e : Env) (m : Name) (at : Access) (ty : MemrefType) : Type 0 where
  pub memref : IsMemref (e.home m) ty
  pub access : SafeAccess e at
  pub subscripts : length at.map.results ≡ length ty.sizes

-- an element that is loaded or stored, in space 0 or 1
pub record SafeCell (e : Env) (m : Name) (at : Access) (ty : MemrefType) : Type 0 where
  pub place : SafePlace e m at ty
  pub space : ty.space ≤ 1

-- the same where the subscripts are values
pub record SafeRawCell (e : Env) (m : Name) (at : List Name) (ty : MemrefType) : Type 0 where
  pub memref : IsMemref (e.home m) ty
  pub space : ty.space ≤ 1
  pub subscripts : length at ≡ length ty.sizes
  pub known : All (λ n. FitsOperand 64 (e.known n)) at

-- what an allocation stands for: the next one of space 1, or the next tags
abbrev pub new_home : Env → MemrefType → Home
new_home e ty = if is_fast ty then FastMemref e.fasts else TagMemref e.tags

-- ---- transfers

-- a count: a known number of at least 1 that fits 64 bits
pub record IsCount (known : Option ℤ) : Type 0 where
  pub value : ℕ
  pub is : known ≡ Some (pos value)
  pub least : 1 ≤ value
  pub fits : value < 2 ^ 63

-- a stride and a chunk: known numbers, the chunk at least 1 and no more than the stride, which is at most 1,048,576
pub record AreStrideAndChunk (known_stride known_chunk : Option ℤ) : Type 0 where
  pub stride : ℕ
  pub chunk : ℕ
  pub stride_is : known_stride ≡ Some (pos stride)
  pub chunk_is : known_chunk ≡ Some (pos chunk)
  pub least : 1 ≤ chunk
  pub within : chunk ≤ stride
  pub most : stride ≤ 1048576

abbrev pub SafeChunks : Env → Option (Name × Name) → Type 0
SafeChunks e None = Unit {0}
SafeChunks e (Some two) = AreStrideAndChunk (e.known two.0) (e.known two.1)

-- the ends of a transfer, one in space 0 and one in space 1, with elements of one width, and its tag
pub record SafeEnds (e : Env) (a : Name) (a_at : Access) (b : Name) (b_at : Access) (t : Name) (t_at : Access) (a_ty b_ty t_ty : MemrefType) : Type 0 where
  pub from : SafePlace e a a_at a_ty
  pub to : SafePlace e b b_at b_ty
  pub tag : SafePlace e t t_at t_ty
  pub spaces : a_ty.space + b_ty.space ≡ 1
  pub tag_space : t_ty.space ≡ 2
  pub elements : element_bits a_ty.element ≡ element_bits b_ty.element

abbrev pub SafeTypes : Env → Name → Access → Name → Access → Name → Access → List MemrefType → Type 0
SafeTypes e a a_at b b_at t t_at (a_ty ∷ b_ty ∷ t_ty ∷ []) = SafeEnds e a a_at b b_at t t_at a_ty b_ty t_ty
SafeTypes e a a_at b b_at t t_at types = ⊥

-- ---- statements

abbrev pub SafePlain : Env → Plain → Type 0
SafePlain e (Value r pick at) = SafeValue e pick at
SafePlain e (Load r m at ty) = SafeCell e m at ty
SafePlain e (Store x m at ty) = FitsOperand (element_bits ty.element) (e.known x) × SafeCell e m at ty
SafePlain e (RawLoad r m at ty) = SafeRawCell e m at ty
SafePlain e (RawStore x m at ty) = FitsOperand (element_bits ty.element) (e.known x) × SafeRawCell e m at ty
SafePlain e (Constant r z ty) = InRange (scalar_bits ty) z
SafePlain e (Binary r op a b ty) = FitsOperand (scalar_bits ty) (e.known a) × FitsOperand (scalar_bits ty) (e.known b)
SafePlain e (Cast r kind x from to) = FitsOperand (scalar_bits from) (e.known x) × CanCast kind (scalar_bits from) (scalar_bits to)
SafePlain e (Alloc r ty) = IsMemref (Some (new_home e ty)) ty
SafePlain e (Dealloc m ty) = IsMemref (e.home m) ty × (1 ≤ ty.space)
SafePlain e (Start a a_at b b_at t t_at n stride types) = SafeTypes e a a_at b b_at t t_at types × IsCount (e.known n) × SafeChunks e stride
SafePlain e (Wait t at n ty) = SafePlace e t at ty × (ty.space ≡ 2) × IsCount (e.known n)
SafePlain e Return = Unit {0}

-- every statement of the text, in each turn of the loops round it: its expressions may be evaluated, the numbers that it uses
-- and makes known fit, each memref name stands for a memref of the written space and rank, and the numbers of slow places, of fast memrefs
-- and of tags keep within the limits of a module
abbrev pub SafeNest : Nest → Env → Type 0
SafeNest Nothing e = CountsFit e
SafeNest (Loop line v l u s body rest) e =
    CountsFit e × SafeLoop e l u s × ((t : ℤ) → lower_of e l ≤ℤ t → t <ℤ upper_of e u → SafeNest body (knows e v t)) × SafeNest rest (behind body e)
SafeNest (Branch line set names first has other rest) e =
    CountsFit e × SafeCondition e set names × SafeNest first e × SafeNest other (behind first e) × SafeNest rest (behind other (behind first e))
SafeNest (Does line p rest) e = CountsFit e × SafePlain e p × SafeNest rest (after_plain p e)
