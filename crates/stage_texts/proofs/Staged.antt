-- What holds of each statement of a text and of those of a template holds of each statement of the text with the placement.
use Rattle.std.proofs.Common.{ℕ, suc, ℤ, pos, List, [], ◌∷◌, Bool, true, false, Some, None}
use Rattle.std.specs.Prelude.{Option, if◌then◌else◌}
use Rattle.affine_expr.specs.declared.expr.Expr.{Const}
use Rattle.affine_expr.specs.declared.map.Set.{Set}
use Rattle.affine_ast.specs.declared.name.Name.{Name}
use Rattle.affine_ast.specs.declared.types.Bound.{Bound}
use Rattle.affine_ast.specs.declared.types.Bound.TheVariants as bound
use Rattle.affine_ast.specs.declared.types.Pick.TheVariants.{Apply, Min, Max}
use Rattle.affine_ast.specs.declared.types.Scalar.TheVariants.{Index}
use Rattle.affine_ast.specs.Nest.{Plain, Nest, Nothing, Loop, Branch, Does, Value, Load, Store, Constant, Alloc, Dealloc, Start, Wait, followed_by}
use Rattle.affine_ast.specs.Sizes.{product}
use Rattle.placement_texts.specs.Mapped.{mapped}
use Rattle.placement_texts.specs.Spots.{Spot, Here, Behind, Inside, Other, staged_at}
use Rattle.placement_texts.specs.Template.{Dimension, How, Copies, Transfers, Placement, dim_extents, slow_type, fast_type, tag_type, fast_name, tag_name, count_name, in_value, out_value, place_name, least_name, in_turn, out_turn, form, over_terms, last_place, value_or_zero, place_statement, places_from, slow_at_turns, fast_at_turns, slow_at_places, fast_at_zeros, tag_at_zero, loops, begins, stride_of, read_in, write_out, chunk_constants, constants, allocs, deallocs, where_so, before, behind_loop, redirect}
use Rattle.stage_texts.specs.Shape.{Each}

module _ (P Q : Plain → Type 0) (more : (q : Plain) → P q → Q q) (L : Name → Bound → Bound → ℤ → Type 0) (B : Set → List Name → Type 0) where
  abbrev Before : Nest → Type 0
  Before = Each P L B

  abbrev Holds : Nest → Type 0
  Holds = Each Q L B

  -- the second holds where the first does
  each_more : (n : Nest) → Before n → Holds n
  each_more Nothing h = tt
  each_more (Loop line v l u s body rest) h = (h.0, each_more body h.1, each_more rest h.2)
  each_more (Branch line set names first has other rest) h = (h.0, each_more first h.1, each_more other h.2, each_more rest h.3)
  each_more (Does line q rest) h = (more q h.0, each_more rest h.1)

  -- of each statement of the template, and of an access that is redirected
  pub record HoldsOf (p : Placement) : Type 0 where
    pub least : (k : ℕ) (d : Dimension) (t : Name × ℤ) (ts : List (Name × ℤ)) → Q (Value (least_name p.name k) Min (over_terms (t ∷ ts) (form (t ∷ ts) d.offset ∷ Const (last_place d) ∷ [])))
    pub raised : (k : ℕ) → Q (Value (place_name p.name k) Max (value_or_zero (least_name p.name k)))
    pub placed : (k : ℕ) (d : Dimension) (t : Name × ℤ) (ts : List (Name × ℤ)) → Q (Value (place_name p.name k) Apply (over_terms (t ∷ ts) (form (t ∷ ts) d.offset ∷ [])))
    pub turn_in : (k : ℕ) (d : Dimension) → L (in_turn p.name k) (bound.Int (pos 0)) (bound.Int (pos d.extent)) (pos 1)
    pub turn_out : (k : ℕ) (d : Dimension) → L (out_turn p.name k) (bound.Int (pos 0)) (bound.Int (pos d.extent)) (pos 1)
    pub load_in : Q (Load (in_value p.name) p.memref (slow_at_turns (in_turn p.name) (begins p)) (slow_type p))
    pub store_in : Q (Store (in_value p.name) (fast_name p.name) (fast_at_turns (in_turn p.name) (begins p)) (fast_type p))
    pub load_out : Q (Load (out_value p.name) (fast_name p.name) (fast_at_turns (out_turn p.name) (begins p)) (fast_type p))
    pub store_out : Q (Store (out_value p.name) p.memref (slow_at_turns (out_turn p.name) (begins p)) (slow_type p))
    pub start_in : (chunks : Option (ℕ × ℕ)) → Q (Start p.memref (slow_at_places (begins p)) (fast_name p.name) (fast_at_zeros (begins p)) (tag_name p.name) tag_at_zero (count_name p.name) (stride_of p chunks) (slow_type p ∷ fast_type p ∷ tag_type ∷ []))
    pub start_out : (chunks : Option (ℕ × ℕ)) → Q (Start (fast_name p.name) (fast_at_zeros (begins p)) p.memref (slow_at_places (begins p)) (tag_name p.name) tag_at_zero (count_name p.name) (stride_of p chunks) (fast_type p ∷ slow_type p ∷ tag_type ∷ []))
    pub wait : Q (Wait (tag_name p.name) tag_at_zero (count_name p.name) tag_type)
    pub constant : (i k : ℕ) → Q (Constant (p.name i) (pos k) Index)
    pub alloc_fast : Q (Alloc (fast_name p.name) (fast_type p))
    pub alloc_tag : Q (Alloc (tag_name p.name) tag_type)
    pub dealloc_fast : Q (Dealloc (fast_name p.name) (fast_type p))
    pub dealloc_tag : Q (Dealloc (tag_name p.name) tag_type)
    pub redirected : (q : Plain) → P q → Q (redirect p q)

  each_followed : (a b : Nest) → Holds a → Holds b → Holds (followed_by a b)
  each_followed Nothing b h k = k
  each_followed (Loop line v l u s body rest) b h k = (h.0, h.1, each_followed rest b h.2 k)
  each_followed (Branch line set names first has other rest) b h k = (h.0, h.1, h.2, each_followed rest b h.3 k)
  each_followed (Does line p rest) b h k = (h.0, each_followed rest b h.1 k)

  module _ (p : Placement) (t : HoldsOf p) where
    each_redirected : (n : Nest) → Before n → Holds (mapped (redirect p) n)
    each_redirected Nothing h = tt
    each_redirected (Loop line v l u s body rest) h = (h.0, each_redirected body h.1, each_redirected rest h.2)
    each_redirected (Branch line set names first has other rest) h = (h.0, each_redirected first h.1, each_redirected other h.2, each_redirected rest h.3)
    each_redirected (Does line q rest) h = (t.redirected q h.0, each_redirected rest h.1)

    either : (c : Bool) (x y z : Plain) (rest : Nest) → Q x → Q y → Q z → Holds rest → Holds (if c then Does 0 x (Does 0 y rest) else Does 0 z rest)
    either true x y z rest a b c h = (a, (b, h))
    either false x y z rest a b c h = (c, h)

    each_place : (k : ℕ) (d : Dimension) (ts : List (Name × ℤ)) (rest : Nest) → Holds rest → Holds (place_statement p.name k d ts rest)
    each_place k d [] rest h = h
    each_place k d (u ∷ ts) rest h =
        either d.clamped (Value (least_name p.name k) Min (over_terms (u ∷ ts) (form (u ∷ ts) d.offset ∷ Const (last_place d) ∷ []))) (Value (place_name p.name k) Max (value_or_zero (least_name p.name k)))
        (Value (place_name p.name k) Apply (over_terms (u ∷ ts) (form (u ∷ ts) d.offset ∷ []))) rest (t.least k d u ts) (t.raised k) (t.placed k d u ts) h

    each_places : (k : ℕ) (ds : List Dimension) (rest : Nest) → Holds rest → Holds (places_from p.name k ds rest)
    each_places k [] rest h = h
    each_places k (d ∷ ds) rest h = each_place k d d.terms (places_from p.name (suc k) ds rest) (each_places (suc k) ds rest h)

    each_loops : (turn : ℕ → Name) → ((k : ℕ) (d : Dimension) → L (turn k) (bound.Int (pos 0)) (bound.Int (pos d.extent)) (pos 1)) → (k : ℕ) (ds : List Dimension) (inner : Nest) → Holds inner → Holds (loops turn k ds inner)
    each_loops turn f k [] inner h = h
    each_loops turn f k (d ∷ ds) inner h = (f k d, each_loops turn f (suc k) ds inner h, tt)

    each_reads : (how : How) → Holds (read_in p how)
    each_reads Copies = each_loops (in_turn p.name) t.turn_in 0 p.dims _ (t.load_in, (t.store_in, tt))
    each_reads (Transfers chunks) = (t.start_in chunks, (t.wait, tt))

    each_writes : (how : How) → Holds (write_out p how)
    each_writes Copies = each_loops (out_turn p.name) t.turn_out 0 p.dims _ (t.load_out, (t.store_out, tt))
    each_writes (Transfers chunks) = (t.start_out chunks, (t.wait, tt))

    each_where : (c : Bool) (part rest : Nest) → Holds part → Holds rest → Holds (where_so p c part rest)
    each_where true part rest h k = each_followed part rest h k
    each_where false part rest h k = k

    each_chunks : (chunks : Option (ℕ × ℕ)) (rest : Nest) → Holds rest → Holds (chunk_constants p chunks rest)
    each_chunks None rest h = h
    each_chunks (Some two) rest h = (t.constant 3 two.0, (t.constant 4 two.1, h))

    each_constants : (how : How) (rest : Nest) → Holds rest → Holds (constants p how rest)
    each_constants Copies rest h = h
    each_constants (Transfers chunks) rest h = (t.constant 2 (product (dim_extents p.dims)), each_chunks chunks rest h)

    each_allocs : (how : How) (rest : Nest) → Holds rest → Holds (allocs p how rest)
    each_allocs Copies rest h = (t.alloc_fast, h)
    each_allocs (Transfers chunks) rest h = (t.alloc_fast, (t.alloc_tag, h))

    each_deallocs : (how : How) (rest : Nest) → Holds rest → Holds (deallocs p how rest)
    each_deallocs Copies rest h = (t.dealloc_fast, h)
    each_deallocs (Transfers chunks) rest h = (t.dealloc_fast, (t.dealloc_tag, h))

    each_before : (rest : Nest) → Holds rest → Holds (before p rest)
    each_before rest h =
        let reads = where_so p p.reads (read_in p p.how) rest in
        each_places 0 p.dims (constants p p.how (allocs p p.how reads)) (each_constants p.how (allocs p p.how reads) (each_allocs p.how reads (each_where p.reads (read_in p p.how) rest (each_reads p.how) h)))

    each_behind : (rest : Nest) → Holds rest → Holds (behind_loop p rest)
    each_behind rest h = each_where p.writes (write_out p p.how) (deallocs p p.how rest) (each_writes p.how) (each_deallocs p.how rest h)

    pub each_staged : (s : Spot) (n : Nest) → Before n → Holds (staged_at p s n)
    each_staged s Nothing h = tt
    each_staged Here (Loop line v l u step body rest) h = each_before (Loop line v l u step (mapped (redirect p) body) (behind_loop p rest)) (h.0, each_redirected body h.1, each_behind rest (each_more rest h.2))
    each_staged (Behind s) (Loop line v l u step body rest) h = (h.0, each_more body h.1, each_staged s rest h.2)
    each_staged (Inside s) (Loop line v l u step body rest) h = (h.0, each_staged s body h.1, each_more rest h.2)
    each_staged (Other s) (Loop line v l u step body rest) h = each_more (Loop line v l u step body rest) h
    each_staged Here (Branch line set names first has other rest) h = each_more (Branch line set names first has other rest) h
    each_staged (Behind s) (Branch line set names first has other rest) h = (h.0, each_more first h.1, each_more other h.2, each_staged s rest h.3)
    each_staged (Inside s) (Branch line set names first has other rest) h = (h.0, each_staged s first h.1, each_more other h.2, each_more rest h.3)
    each_staged (Other s) (Branch line set names first has other rest) h = (h.0, each_more first h.1, each_staged s other h.2, each_more rest h.3)
    each_staged Here (Does line q rest) h = each_more (Does line q rest) h
    each_staged (Behind s) (Does line q rest) h = (more q h.0, each_staged s rest h.1)
    each_staged (Inside s) (Does line q rest) h = each_more (Does line q rest) h
    each_staged (Other s) (Does line q rest) h = each_more (Does line q rest) h
