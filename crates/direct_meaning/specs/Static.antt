-- What is known before the first cell is read: the numbers of names, what memrefs stand for, and places.
pub use Rattle.affine_ast.specs.Sizes.{element_bits, scalar_bits, product}
use Rattle.std.specs.Prelude.{ℕ, ◌+◌, ◌*◌, ℤ, pos, negsuc, Bool, List, [], ◌∷◌, map, take, drop, fold, Option, Some, None, nat_lt, if◌then◌else◌, slice_index_or}
use Rattle.std.specs.Int.{int_min, int_max}
use Rattle.affine_expr.specs.declared.map.Set.{Set}
use Rattle.affine_expr.specs.Value.{value}
use Rattle.affine_expr.specs.Truth.{holds}
use Rattle.affine_ast.specs.declared.name.Name.{Name}
use Rattle.affine_ast.specs.declared.types.Access.{Access}
use Rattle.affine_ast.specs.declared.types.Bound.{Bound}
use Rattle.affine_ast.specs.declared.types.Bound.TheVariants as bound
use Rattle.affine_ast.specs.declared.types.Element.{Element}
use Rattle.affine_ast.specs.declared.types.Element.TheVariants.{I8, I16, I32, I64}
use Rattle.affine_ast.specs.declared.types.MemrefType.{MemrefType}
use Rattle.affine_ast.specs.declared.types.Pick.{Pick}
use Rattle.affine_ast.specs.declared.types.Pick.TheVariants.{Apply, Min, Max}
use Rattle.affine_ast.specs.Names.{put}
use Rattle.direct_meaning.specs.Action.{Home, SlowMemref, FastMemref, TagMemref, Place, Slow, Fast, Outside, Operand, Number, Register}

abbrev pub element_bytes : Element → ℕ
element_bytes I8 = 1
element_bytes I16 = 2
element_bytes I32 = 4
element_bytes I64 = 8

-- what stands round a statement. It goes down the text: each turn of a loop begins with the loop's own, and nothing that
-- a region makes known leaves it
pub record Env : Type 0 where
  -- the numbers of loop variables, index arguments, index constants and results of `affine.apply`, `min` and `max`;
  -- every other name holds data
  pub known : Name → Option ℤ
  -- what the memrefs in scope stand for
  pub home : Name → Option Home
  -- how many allocations in space 1, and how many elements of allocations in space 2, stand before in the text
  pub fasts : ℕ
  pub tags : ℕ

-- a name with a number
abbrev pub knows : Env → Name → ℤ → Env
knows e n z = record e { known = put e.known n (Some z) }

-- a name that holds data
abbrev pub forgets : Env → Name → Env
forgets e n = record e { known = put e.known n None }

abbrev pub number : Option ℤ → ℤ
number (Some z) = z
number None = pos 0

abbrev pub operand_of : Name → Option ℤ → Operand
operand_of n (Some z) = Number z
operand_of n None = Register n

-- a value that a statement uses
abbrev pub operand : Env → Name → Operand
operand e n = operand_of n (e.known n)

abbrev pub numbers : Env → List Name → List ℤ
numbers e names = map (λ n. number (e.known n)) names

-- the values of a map's results: its operands are those of its dimensions and then those of its symbols
unfoldable pub results_of : Env → Access → List ℤ
results_of e at = map (value (take at.map.dims (numbers e at.operands)) (drop at.map.dims (numbers e at.operands))) at.map.results

abbrev pub least : List ℤ → ℤ
least [] = pos 0
least (x ∷ xs) = fold int_min x xs

abbrev pub greatest : List ℤ → ℤ
greatest [] = pos 0
greatest (x ∷ xs) = fold int_max x xs

-- which of a map's results a value is
abbrev pub picked : Pick → List ℤ → ℤ
picked Apply zs = slice_index_or zs 0 (pos 0)
picked Min zs = least zs
picked Max zs = greatest zs

-- a lower bound is the greatest of its results, an upper bound the least
unfoldable pub lower_of : Env → Bound → ℤ
lower_of e (bound.Int z) = z
lower_of e (bound.Value n) = number (e.known n)
lower_of e (bound.Map at) = greatest (results_of e at)

unfoldable pub upper_of : Env → Bound → ℤ
upper_of e (bound.Int z) = z
upper_of e (bound.Value n) = number (e.known n)
upper_of e (bound.Map at) = least (results_of e at)

-- whether a condition is true
unfoldable pub holds_at : Env → Set → List Name → Bool
holds_at e set names = holds (take set.dims (numbers e names)) (drop set.dims (numbers e names)) set

-- a subscript that lies from 0 up to, and not including, a size
abbrev pub within : ℤ → ℕ → Option ℕ
within (pos k) n = if nat_lt k n then Some k else None
within (negsuc k) n = None

abbrev pub row_major : Option ℕ → ℕ → Option ℕ → Option ℕ
row_major (Some k) size (Some r) = Some (k * size + r)
row_major (Some k) size None = None
row_major None size r = None

-- the element's number, row-major; none where a subscript is outside its size
abbrev pub cell_in : List ℕ → List ℤ → Option ℕ
cell_in [] [] = Some 0
cell_in (n ∷ ns) (z ∷ zs) = row_major (within z n) (product ns) (cell_in ns zs)
cell_in [] (z ∷ zs) = None
cell_in (n ∷ ns) [] = None

abbrev pub slow_at : ℕ → Option ℕ → Place
slow_at first (Some cell) = Slow (first + cell)
slow_at first None = Outside

abbrev pub fast_at : ℕ → Option ℕ → Option ℕ → Place
fast_at number (Some half) (Some cell) = Fast number half cell
fast_at number (Some half) None = Outside
fast_at number None cell = Outside

-- in a fast memref the first subscript is the half, the others give the cell in it
abbrev pub half_place : ℕ → List ℕ → List ℤ → Place
half_place number (halves ∷ sizes) (z ∷ zs) = fast_at number (within z halves) (cell_in sizes zs)
half_place number [] zs = Outside
half_place number (halves ∷ sizes) [] = Outside

-- the place of an element. Tags aren't loaded or stored
abbrev pub place_at : Option Home → List ℕ → List ℤ → Place
place_at (Some (SlowMemref number first)) sizes subscripts = slow_at first (cell_in sizes subscripts)
place_at (Some (FastMemref number)) sizes subscripts = half_place number sizes subscripts
place_at (Some (TagMemref first)) sizes subscripts = Outside
place_at None sizes subscripts = Outside

unfoldable pub place_of : Env → Name → Access → MemrefType → Place
place_of e m at ty = place_at (e.home m) ty.sizes (results_of e at)

-- the number of a tag
abbrev pub tag_at : Option Home → Option ℕ → Option ℕ
tag_at (Some (TagMemref first)) (Some cell) = Some (first + cell)
tag_at (Some (TagMemref first)) None = None
tag_at (Some (SlowMemref number first)) cell = None
tag_at (Some (FastMemref number)) cell = None
tag_at None cell = None

unfoldable pub tag_of : Env → Name → Access → MemrefType → Option ℕ
tag_of e t at ty = tag_at (e.home t) (cell_in ty.sizes (results_of e at))
