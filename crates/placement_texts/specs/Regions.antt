-- Where the box of a placement lies, and what the loop's accesses have to do with it.
use Rattle.std.specs.Prelude.{◌≡◌, ℕ, ℤ, pos, ◌+ℤ◌, ◌*ℤ◌, ◌≤ℤ◌, Bool, true, false, List, [], ◌∷◌, Some, if◌then◌else◌}
use Rattle.affine_ast.specs.declared.name.Name.{Name}
use Rattle.affine_ast.specs.declared.types.Access.{Access}
use Rattle.affine_ast.specs.declared.types.MemrefType.{MemrefType}
use Rattle.affine_ast.specs.Names.{same_name}
use Rattle.affine_ast.specs.Nest.{Plain, Load, Store}
use Rattle.affine_ast.specs.Rules.{map_fits}
use Rattle.direct_meaning.specs.Turns.{gap}
use Rattle.direct_meaning.specs.Action.{SlowMemref, Slow}
use Rattle.direct_meaning.specs.Static.{Env, number, cell_in, results_of, place_of}
use Rattle.boxes.specs.Boxes.{Side}
use Rattle.placement_texts.specs.Boxes.{sizes_of, InBox, is_of}
use Rattle.placement_texts.specs.Labels.{Numbers}
use Rattle.placement_texts.specs.Own.{OwnNames}
use Rattle.placement_texts.specs.Mapped.{Together}
use Rattle.placement_texts.specs.Template.{Dimension, clamp, term_names}

-- the sum of the terms and the offset
abbrev pub form_number : Env → List (Name × ℤ) → ℤ → ℤ
form_number e [] z = z
form_number e (t ∷ ts) z = number (e.known t.0) *ℤ t.1 +ℤ form_number e ts z

abbrev pub place_number : Env → Dimension → ℤ
place_number e d = if d.clamped then clamp d (form_number e d.terms d.offset) else form_number e d.terms d.offset

-- the values are the text's
abbrev pub OwnDims : (Name → Bool) → List Dimension → Type 0
OwnDims own [] = Unit {0}
OwnDims own (d ∷ ds) = OwnNames own (term_names d.terms) × OwnDims own ds

-- the box, under what is known before the loop
abbrev pub spans_at : Env → List Dimension → List Side
spans_at e [] = []
spans_at e (d ∷ ds) = record { size = d.size; place = gap (place_number e d); extent = d.extent } ∷ spans_at e ds

-- it lies in the memref
abbrev pub PlacesLie : Env → List Dimension → Type 0
PlacesLie e [] = Unit {0}
PlacesLie e (d ∷ ds) = (pos 0 ≤ℤ place_number e d) × ((place_number e d +ℤ pos d.extent) ≤ℤ pos d.size) × PlacesLie e ds

-- the memref that is staged: its name, its number among the memref arguments and its first slow place
module _ (m : Name) (order first : ℕ) (spans : List Side) where
  -- an access of it: it stands for the memref, its subscripts are as V7 asks for, and where they lie in the memref they lie in
  -- the box
  pub record Reaches (e : Env) (at : Access) (ty : MemrefType) : Type 0 where
    pub home : e.home m ≡ Some (SlowMemref order first)
    pub sizes : ty.sizes ≡ sizes_of spans
    pub fits : map_fits at ≡ true
    pub inside : (k : ℕ) → cell_in (sizes_of spans) (results_of e at) ≡ Some k → InBox spans (results_of e at)

  -- each load and each store of it is such an access
  abbrev pub ReachesBox : Plain → Env → Type 0
  ReachesBox (Load r n at ty) e = same_name m n ≡ true → Reaches e at ty
  ReachesBox (Store x n at ty) e = same_name m n ≡ true → Reaches e at ty
  ReachesBox q e = Unit {0}

-- and that of another memref goes to none of its slow places
module _ (m : Name) (first : ℕ) (sizes : List ℕ) where
  abbrev pub Elsewhere : Env → Name → Access → MemrefType → Type 0
  Elsewhere e n at ty = (p : ℕ) → place_of e n at ty ≡ Slow p → is_of first sizes p ≡ false

  abbrev pub Apart : Plain → Env → Type 0
  Apart (Load r n at ty) e = same_name m n ≡ false → Elsewhere e n at ty
  Apart (Store x n at ty) e = same_name m n ≡ false → Elsewhere e n at ty
  Apart q e = Unit {0}

-- what scope and types give of each statement: tags of a memref move up together, and memrefs are apart
abbrev pub Tidy : Numbers → Name → ℕ → List ℕ → Plain → Env → Type 0
Tidy new m first sizes q e = Together new q e × Apart m first sizes q e
