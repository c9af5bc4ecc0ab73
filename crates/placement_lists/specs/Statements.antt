-- The template of a placement as lists of statements: what stands before its loop, and behind it. All have line 0.
use Rattle.std.specs.Prelude.{◌≡◌, ℕ, suc, pos, Bool, true, false, List, [], ◌∷◌, ◌++◌, ℤ, Option, Some, None, if◌then◌else◌}
use Rattle.affine_expr.specs.declared.expr.Expr.{Const}
use Rattle.affine_ast.specs.declared.name.Name.{Name}
use Rattle.affine_ast.specs.declared.stmt.Stmt.{Stmt}
use Rattle.affine_ast.specs.declared.stmt.What as what
use Rattle.affine_ast.specs.declared.stmt.What.{What}
use Rattle.affine_ast.specs.declared.types.Bound.TheVariants as bound
use Rattle.affine_ast.specs.declared.types.Pick.TheVariants.{Apply, Min, Max}
use Rattle.affine_ast.specs.declared.types.Scalar.TheVariants.{Index}
use Rattle.affine_ast.specs.Nest.{nest}
use Rattle.affine_ast.specs.Sizes.{product}
use Rattle.placement_texts.specs.Template as template
use Rattle.placement_texts.specs.Template.{Dimension, How, Copies, Transfers, Placement, dim_extents, slow_type, fast_type, tag_type, fast_name, tag_name, count_name, stride_name, chunk_name, in_value, out_value, place_name, least_name, in_turn, out_turn, form, over_terms, last_place, value_or_zero, begins, slow_at_turns, fast_at_turns, slow_at_places, fast_at_zeros, tag_at_zero, stride_of}

abbrev pub made : What → Stmt
made w = record { line = 0; what = w }

-- ---- places
module _ (name : ℕ → Name) where
  abbrev pub place_statements : ℕ → Dimension → List (Name × ℤ) → List Stmt
  place_statements k d [] = []
  place_statements k d (t ∷ ts) =
      if d.clamped
      then made (what.Value (least_name name k) Min (over_terms (t ∷ ts) (form (t ∷ ts) d.offset ∷ Const (last_place d) ∷ [])))
      ∷ made (what.Value (place_name name k) Max (value_or_zero (least_name name k))) ∷ []
      else made (what.Value (place_name name k) Apply (over_terms (t ∷ ts) (form (t ∷ ts) d.offset ∷ []))) ∷ []

  abbrev pub places_from : ℕ → List Dimension → List Stmt
  places_from k [] = []
  places_from k (d ∷ ds) = place_statements k d d.terms ++ places_from (suc k) ds

-- ---- copy loops
abbrev pub loops : (ℕ → Name) → ℕ → List Dimension → List Stmt → List Stmt
loops turn d [] inner = inner
loops turn d (dim ∷ dims) inner =
    made (what.For (turn d) (bound.Int (pos 0)) (bound.Int (pos dim.extent)) (pos 1) (loops turn (suc d) dims inner)) ∷ []

module _ (p : Placement) where
  abbrev pub copy_in : List Stmt
  copy_in = loops (in_turn p.name) 0 p.dims
      (made (what.Load (in_value p.name) p.memref (slow_at_turns (in_turn p.name) (begins p)) (slow_type p))
      ∷ made (what.Store (in_value p.name) (fast_name p.name) (fast_at_turns (in_turn p.name) (begins p)) (fast_type p)) ∷ [])

  abbrev pub copy_out : List Stmt
  copy_out = loops (out_turn p.name) 0 p.dims
      (made (what.Load (out_value p.name) (fast_name p.name) (fast_at_turns (out_turn p.name) (begins p)) (fast_type p))
      ∷ made (what.Store (out_value p.name) p.memref (slow_at_turns (out_turn p.name) (begins p)) (slow_type p)) ∷ [])

  -- ---- transfers
  abbrev pub wait : Stmt
  wait = made (what.Wait (tag_name p.name) tag_at_zero (count_name p.name) tag_type)

  abbrev pub start_in : Option (ℕ × ℕ) → List Stmt
  start_in chunks =
      made (what.Start p.memref (slow_at_places (begins p)) (fast_name p.name) (fast_at_zeros (begins p)) (tag_name p.name) tag_at_zero
      (count_name p.name) (stride_of p chunks) (slow_type p ∷ fast_type p ∷ tag_type ∷ [])) ∷ wait ∷ []

  abbrev pub start_out : Option (ℕ × ℕ) → List Stmt
  start_out chunks =
      made (what.Start (fast_name p.name) (fast_at_zeros (begins p)) p.memref (slow_at_places (begins p)) (tag_name p.name) tag_at_zero
      (count_name p.name) (stride_of p chunks) (fast_type p ∷ slow_type p ∷ tag_type ∷ [])) ∷ wait ∷ []

  abbrev pub index_constant : Name → ℕ → Stmt
  index_constant n k = made (what.Constant n (pos k) Index)

  abbrev pub chunk_constants : Option (ℕ × ℕ) → List Stmt
  chunk_constants None = []
  chunk_constants (Some two) = index_constant (stride_name p.name) two.0 ∷ index_constant (chunk_name p.name) two.1 ∷ []

  abbrev pub constants : How → List Stmt
  constants Copies = []
  constants (Transfers chunks) = index_constant (count_name p.name) (product (dim_extents p.dims)) ∷ chunk_constants chunks

  -- ---- the memrefs
  abbrev pub allocs : How → List Stmt
  allocs Copies = made (what.Alloc (fast_name p.name) (fast_type p)) ∷ []
  allocs (Transfers chunks) = made (what.Alloc (fast_name p.name) (fast_type p)) ∷ made (what.Alloc (tag_name p.name) tag_type) ∷ []

  abbrev pub deallocs : How → List Stmt
  deallocs Copies = made (what.Dealloc (fast_name p.name) (fast_type p)) ∷ []
  deallocs (Transfers chunks) = made (what.Dealloc (fast_name p.name) (fast_type p)) ∷ made (what.Dealloc (tag_name p.name) tag_type) ∷ []

  abbrev pub read_in : How → List Stmt
  read_in Copies = copy_in
  read_in (Transfers chunks) = start_in chunks

  abbrev pub write_out : How → List Stmt
  write_out Copies = copy_out
  write_out (Transfers chunks) = start_out chunks

  abbrev pub where_so : Bool → List Stmt → List Stmt
  where_so true part = part
  where_so false part = []

  -- what stands before the loop, and behind it
  abbrev pub before : List Stmt
  before = places_from p.name 0 p.dims ++ (constants p.how ++ (allocs p.how ++ where_so p.reads (read_in p.how)))

  abbrev pub behind : List Stmt
  behind = where_so p.writes (write_out p.how) ++ deallocs p.how

-- these are the statements of the template
pub record AreTheTemplate (p : Placement) (more : List Stmt) : Type 0 where
  pub before_is : nest (before p ++ more) ≡ template.before p (nest more)
  pub behind_is : nest (behind p ++ more) ≡ template.behind_loop p (nest more)

abbrev pub ListsAreTheTemplate : Type 0
ListsAreTheTemplate = (p : Placement) (more : List Stmt) → AreTheTemplate p more
