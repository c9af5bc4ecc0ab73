-- The lists of statements are the template's text.
use Rattle.std.proofs.Common.{◌≡◌, ℕ, suc, ℤ, pos, Bool, true, false, List, [], ◌∷◌, ◌++◌, refl, ap, ◌∙◌}
use Rattle.std.specs.Prelude.{Option, Some, None, if◌then◌else◌}
use Rattle.std.proofs.lemmas.List.{append_assoc}
use Rattle.affine_expr.specs.declared.expr.Expr.{Const}
use Rattle.affine_ast.specs.declared.name.Name.{Name}
use Rattle.affine_ast.specs.declared.stmt.Stmt.{Stmt}
use Rattle.affine_ast.specs.declared.stmt.What as what
use Rattle.affine_ast.specs.declared.stmt.What.{What}
use Rattle.affine_ast.specs.declared.types.Access.{Access}
use Rattle.affine_ast.specs.declared.types.Bound.TheVariants as bound
use Rattle.affine_ast.specs.declared.types.MemrefType.{MemrefType}
use Rattle.affine_ast.specs.declared.types.Pick.{Pick}
use Rattle.affine_ast.specs.declared.types.Pick.TheVariants.{Apply, Min, Max}
use Rattle.affine_ast.specs.declared.types.Scalar.TheVariants.{Index}
use Rattle.affine_ast.specs.Nest.{Nest, Nothing, Loop, Does, Value, Load, Store, Constant, Alloc, Dealloc, Start, Wait, nest, followed_by}
use Rattle.affine_ast.proofs.Nests.{nest-nil, nest-cons, nest-append, put-For, put-Value, put-Load, put-Store, put-Constant, put-Alloc, put-Dealloc, put-Start, put-Wait}
use Rattle.affine_ast.specs.Sizes.{product}
use Rattle.placement_texts.specs.Template as template
use Rattle.placement_texts.specs.Template.{Dimension, How, Copies, Transfers, Placement, dim_extents, slow_type, fast_type, tag_type, begins, slow_at_turns, fast_at_turns, slow_at_places, fast_at_zeros, tag_at_zero, stride_of, fast_name, tag_name, count_name, stride_name, chunk_name, in_value, out_value, place_name, least_name, in_turn, out_turn, form, over_terms, last_place, value_or_zero}
use Rattle.placement_lists.specs.Statements.{made, place_statements, places_from, loops, copy_in, copy_out, start_in, start_out, chunk_constants, constants, allocs, deallocs, read_in, write_out, where_so, before, behind, ListsAreTheTemplate}

-- ---- one statement before others
module _ (more : List Stmt) where
  of_value : (r : Name) (pick : Pick) (at : Access) → nest (made (what.Value r pick at) ∷ more) ≡ Does 0 (Value r pick at) (nest more)
  of_value r pick at = nest-cons (made (what.Value r pick at)) more ∙ put-Value 0 (nest more) r pick at

  of_load : (r m : Name) (at : Access) (ty : MemrefType) → nest (made (what.Load r m at ty) ∷ more) ≡ Does 0 (Load r m at ty) (nest more)
  of_load r m at ty = nest-cons (made (what.Load r m at ty)) more ∙ put-Load 0 (nest more) r m at ty

  of_store : (x m : Name) (at : Access) (ty : MemrefType) → nest (made (what.Store x m at ty) ∷ more) ≡ Does 0 (Store x m at ty) (nest more)
  of_store x m at ty = nest-cons (made (what.Store x m at ty)) more ∙ put-Store 0 (nest more) x m at ty

  of_constant : (r : Name) (k : ℕ) → nest (made (what.Constant r (pos k) Index) ∷ more) ≡ Does 0 (Constant r (pos k) Index) (nest more)
  of_constant r k = nest-cons (made (what.Constant r (pos k) Index)) more ∙ put-Constant 0 (nest more) r (pos k) Index

  of_alloc : (r : Name) (ty : MemrefType) → nest (made (what.Alloc r ty) ∷ more) ≡ Does 0 (Alloc r ty) (nest more)
  of_alloc r ty = nest-cons (made (what.Alloc r ty)) more ∙ put-Alloc 0 (nest more) r ty

  of_dealloc : (m : Name) (ty : MemrefType) → nest (made (what.Dealloc m ty) ∷ more) ≡ Does 0 (Dealloc m ty) (nest more)
  of_dealloc m ty = nest-cons (made (what.Dealloc m ty)) more ∙ put-Dealloc 0 (nest more) m ty

  of_start : (a : Name) (aa : Access) (b : Name) (bb : Access) (t : Name) (ta : Access) (n : Name) (stride : Option (Name × Name)) (types : List MemrefType)
      → nest (made (what.Start a aa b bb t ta n stride types) ∷ more) ≡ Does 0 (Start a aa b bb t ta n stride types) (nest more)
  of_start a aa b bb t ta n stride types = nest-cons (made (what.Start a aa b bb t ta n stride types)) more ∙ put-Start 0 (nest more) a aa b bb t ta n stride types

  of_wait : (t : Name) (at : Access) (n : Name) (ty : MemrefType) → nest (made (what.Wait t at n ty) ∷ more) ≡ Does 0 (Wait t at n ty) (nest more)
  of_wait t at n ty = nest-cons (made (what.Wait t at n ty)) more ∙ put-Wait 0 (nest more) t at n ty

-- ---- two statements before others
two_values : (r q : Name) (one two : Pick) (at by : Access) (more : List Stmt) → nest (made (what.Value r one at) ∷ made (what.Value q two by) ∷ more) ≡ Does 0 (Value r one at) (Does 0 (Value q two by) (nest more))
two_values r q one two at by more = of_value (made (what.Value q two by) ∷ more) r one at ∙ ap (Does 0 (Value r one at)) (of_value more q two by)

load_store : (r m x k : Name) (at by : Access) (ty other : MemrefType) → nest (made (what.Load r m at ty) ∷ made (what.Store x k by other) ∷ []) ≡ Does 0 (Load r m at ty) (Does 0 (Store x k by other) Nothing)
load_store r m x k at by ty other =
    of_load (made (what.Store x k by other) ∷ []) r m at ty
    ∙ ap (Does 0 (Load r m at ty)) (of_store [] x k by other ∙ ap (Does 0 (Store x k by other)) nest-nil)

two_constants : (r q : Name) (k j : ℕ) (more : List Stmt) → nest (made (what.Constant r (pos k) Index) ∷ made (what.Constant q (pos j) Index) ∷ more) ≡ Does 0 (Constant r (pos k) Index) (Does 0 (Constant q (pos j) Index) (nest more))
two_constants r q k j more = of_constant (made (what.Constant q (pos j) Index) ∷ more) r k ∙ ap (Does 0 (Constant r (pos k) Index)) (of_constant more q j)

two_allocs : (r q : Name) (ty other : MemrefType) (more : List Stmt) → nest (made (what.Alloc r ty) ∷ made (what.Alloc q other) ∷ more) ≡ Does 0 (Alloc r ty) (Does 0 (Alloc q other) (nest more))
two_allocs r q ty other more = of_alloc (made (what.Alloc q other) ∷ more) r ty ∙ ap (Does 0 (Alloc r ty)) (of_alloc more q other)

two_deallocs : (r q : Name) (ty other : MemrefType) (more : List Stmt) → nest (made (what.Dealloc r ty) ∷ made (what.Dealloc q other) ∷ more) ≡ Does 0 (Dealloc r ty) (Does 0 (Dealloc q other) (nest more))
two_deallocs r q ty other more = of_dealloc (made (what.Dealloc q other) ∷ more) r ty ∙ ap (Does 0 (Dealloc r ty)) (of_dealloc more q other)

waits : (t n : Name) (at : Access) (ty : MemrefType) → nest (made (what.Wait t at n ty) ∷ []) ≡ Does 0 (Wait t at n ty) Nothing
waits t n at ty = of_wait [] t at n ty ∙ ap (Does 0 (Wait t at n ty)) nest-nil

start_wait : (a : Name) (aa : Access) (b : Name) (bb : Access) (t : Name) (ta : Access) (n : Name) (stride : Option (Name × Name)) (types : List MemrefType) (w k : Name) (at : Access) (ty : MemrefType)
    → nest (made (what.Start a aa b bb t ta n stride types) ∷ made (what.Wait w at k ty) ∷ []) ≡ Does 0 (Start a aa b bb t ta n stride types) (Does 0 (Wait w at k ty) Nothing)
start_wait a aa b bb t ta n stride types w k at ty =
    of_start (made (what.Wait w at k ty) ∷ []) a aa b bb t ta n stride types ∙ ap (Does 0 (Start a aa b bb t ta n stride types)) (waits w k at ty)

-- ---- places
module _ (name : ℕ → Name) where
  place_is : (k : ℕ) (d : Dimension) (ts : List (Name × ℤ)) (more : List Stmt) → nest (place_statements name k d ts ++ more) ≡ template.place_statement name k d ts (nest more)
  place_is k d [] more = refl
  place_is k d (t ∷ ts) more = by d.clamped
    where
      by : (b : Bool) → nest ((if b then made (what.Value (least_name name k) Min (over_terms (t ∷ ts) (form (t ∷ ts) d.offset ∷ Const (last_place d) ∷ [])))
          ∷ made (what.Value (place_name name k) Max (value_or_zero (least_name name k))) ∷ []
          else made (what.Value (place_name name k) Apply (over_terms (t ∷ ts) (form (t ∷ ts) d.offset ∷ []))) ∷ []) ++ more)
          ≡ (if b then Does 0 (Value (least_name name k) Min (over_terms (t ∷ ts) (form (t ∷ ts) d.offset ∷ Const (last_place d) ∷ []))) (Does 0 (Value (place_name name k) Max (value_or_zero (least_name name k))) (nest more))
          else Does 0 (Value (place_name name k) Apply (over_terms (t ∷ ts) (form (t ∷ ts) d.offset ∷ []))) (nest more))
      by true = two_values (least_name name k) (place_name name k) Min Max (over_terms (t ∷ ts) (form (t ∷ ts) d.offset ∷ Const (last_place d) ∷ [])) (value_or_zero (least_name name k)) more
      by false = of_value more (place_name name k) Apply (over_terms (t ∷ ts) (form (t ∷ ts) d.offset ∷ []))

  places_are : (k : ℕ) (ds : List Dimension) (more : List Stmt) → nest (places_from name k ds ++ more) ≡ template.places_from name k ds (nest more)
  places_are k [] more = refl
  places_are k (d ∷ ds) more =
      ap nest (append_assoc (place_statements name k d d.terms) (places_from name (suc k) ds) more)
      ∙ place_is k d d.terms (places_from name (suc k) ds ++ more)
      ∙ ap (template.place_statement name k d d.terms) (places_are (suc k) ds more)

-- ---- copy loops
loops_are : (turn : ℕ → Name) (d : ℕ) (dims : List Dimension) (inner : List Stmt) → nest (loops turn d dims inner) ≡ template.loops turn d dims (nest inner)
loops_are turn d [] inner = refl
loops_are turn d (dim ∷ dims) inner =
    nest-cons (made (what.For (turn d) (bound.Int (pos 0)) (bound.Int (pos dim.extent)) (pos 1) (loops turn (suc d) dims inner))) []
    ∙ put-For 0 (nest []) (turn d) (bound.Int (pos 0)) (bound.Int (pos dim.extent)) (pos 1) (loops turn (suc d) dims inner)
    ∙ (λ i. Loop 0 (turn d) (bound.Int (pos 0)) (bound.Int (pos dim.extent)) (pos 1) (loops_are turn (suc d) dims inner i) (nest-nil i))

module _ (p : Placement) where
  in_is : nest (copy_in p) ≡ template.copy_in p
  in_is =
      loops_are (in_turn p.name) 0 p.dims
      (made (what.Load (in_value p.name) p.memref (slow_at_turns (in_turn p.name) (begins p)) (slow_type p))
      ∷ made (what.Store (in_value p.name) (fast_name p.name) (fast_at_turns (in_turn p.name) (begins p)) (fast_type p)) ∷ [])
      ∙ ap (template.loops (in_turn p.name) 0 p.dims)
      (load_store (in_value p.name) p.memref (in_value p.name) (fast_name p.name) (slow_at_turns (in_turn p.name) (begins p)) (fast_at_turns (in_turn p.name) (begins p)) (slow_type p) (fast_type p))

  out_is : nest (copy_out p) ≡ template.copy_out p
  out_is =
      loops_are (out_turn p.name) 0 p.dims
      (made (what.Load (out_value p.name) (fast_name p.name) (fast_at_turns (out_turn p.name) (begins p)) (fast_type p))
      ∷ made (what.Store (out_value p.name) p.memref (slow_at_turns (out_turn p.name) (begins p)) (slow_type p)) ∷ [])
      ∙ ap (template.loops (out_turn p.name) 0 p.dims)
      (load_store (out_value p.name) (fast_name p.name) (out_value p.name) p.memref (fast_at_turns (out_turn p.name) (begins p)) (slow_at_turns (out_turn p.name) (begins p)) (fast_type p) (slow_type p))

  start_in_is : (chunks : Option (ℕ × ℕ)) → nest (start_in p chunks) ≡ template.start_in p chunks
  start_in_is chunks =
      start_wait p.memref (slow_at_places (begins p)) (fast_name p.name) (fast_at_zeros (begins p)) (tag_name p.name) tag_at_zero (count_name p.name) (stride_of p chunks) (slow_type p ∷ fast_type p ∷ tag_type ∷ [])
      (tag_name p.name) (count_name p.name) tag_at_zero tag_type

  start_out_is : (chunks : Option (ℕ × ℕ)) → nest (start_out p chunks) ≡ template.start_out p chunks
  start_out_is chunks =
      start_wait (fast_name p.name) (fast_at_zeros (begins p)) p.memref (slow_at_places (begins p)) (tag_name p.name) tag_at_zero (count_name p.name) (stride_of p chunks) (fast_type p ∷ slow_type p ∷ tag_type ∷ [])
      (tag_name p.name) (count_name p.name) tag_at_zero tag_type

  reads_are : (how : How) → nest (read_in p how) ≡ template.read_in p how
  reads_are Copies = in_is
  reads_are (Transfers chunks) = start_in_is chunks

  writes_are : (how : How) → nest (write_out p how) ≡ template.write_out p how
  writes_are Copies = out_is
  writes_are (Transfers chunks) = start_out_is chunks

  -- ---- what stands round the loop
  chunks_are : (chunks : Option (ℕ × ℕ)) (more : List Stmt) → nest (chunk_constants p chunks ++ more) ≡ template.chunk_constants p chunks (nest more)
  chunks_are None more = refl
  chunks_are (Some two) more = two_constants (stride_name p.name) (chunk_name p.name) two.0 two.1 more

  constants_are : (how : How) (more : List Stmt) → nest (constants p how ++ more) ≡ template.constants p how (nest more)
  constants_are Copies more = refl
  constants_are (Transfers chunks) more =
      of_constant (chunk_constants p chunks ++ more) (count_name p.name) (product (dim_extents p.dims))
      ∙ ap (Does 0 (Constant (count_name p.name) (pos (product (dim_extents p.dims))) Index)) (chunks_are chunks more)

  allocs_are : (how : How) (more : List Stmt) → nest (allocs p how ++ more) ≡ template.allocs p how (nest more)
  allocs_are Copies more = of_alloc more (fast_name p.name) (fast_type p)
  allocs_are (Transfers chunks) more = two_allocs (fast_name p.name) (tag_name p.name) (fast_type p) tag_type more

  deallocs_are : (how : How) (more : List Stmt) → nest (deallocs p how ++ more) ≡ template.deallocs p how (nest more)
  deallocs_are Copies more = of_dealloc more (fast_name p.name) (fast_type p)
  deallocs_are (Transfers chunks) more = two_deallocs (fast_name p.name) (tag_name p.name) (fast_type p) tag_type more

  so_is : (b : Bool) (part : List Stmt) (text : Nest) (more : List Stmt) → nest part ≡ text → nest (where_so p b part ++ more) ≡ template.where_so p b text (nest more)
  so_is true part text more e = nest-append part more ∙ ap (λ n. followed_by n (nest more)) e
  so_is false part text more e = refl

  before_is : (more : List Stmt) → nest (before p ++ more) ≡ template.before p (nest more)
  before_is more =
      let reads = where_so p p.reads (read_in p p.how) in
      ap nest (append_assoc (places_from p.name 0 p.dims) (constants p p.how ++ (allocs p p.how ++ reads)) more)
      ∙ places_are p.name 0 p.dims ((constants p p.how ++ (allocs p p.how ++ reads)) ++ more)
      ∙ ap (template.places_from p.name 0 p.dims)
      (ap nest (append_assoc (constants p p.how) (allocs p p.how ++ reads) more)
      ∙ constants_are p.how ((allocs p p.how ++ reads) ++ more)
      ∙ ap (template.constants p p.how)
      (ap nest (append_assoc (allocs p p.how) reads more)
      ∙ allocs_are p.how (reads ++ more)
      ∙ ap (template.allocs p p.how) (so_is p.reads (read_in p p.how) (template.read_in p p.how) more (reads_are p.how))))

  behind_is : (more : List Stmt) → nest (behind p ++ more) ≡ template.behind_loop p (nest more)
  behind_is more =
      ap nest (append_assoc (where_so p p.writes (write_out p p.how)) (deallocs p p.how) more)
      ∙ so_is p.writes (write_out p p.how) (template.write_out p p.how) (deallocs p p.how ++ more) (writes_are p.how)
      ∙ ap (template.where_so p p.writes (template.write_out p p.how)) (deallocs_are p.how more)

pub lists_are : ListsAreTheTemplate
lists_are p more = record { before_is = before_is p more; behind_is = behind_is p more }
