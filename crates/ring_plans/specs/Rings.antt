-- A loop with placements at statements of its body, each by transfers, of which some are doubled: each of these has a ring of several
-- places, so that the transfers of some turns are under way during others. It is a rewriting of the text in which each placement stands
-- singly. What the template of a placement made there is known by the names that it defines or uses: its fast memref, its tags, its
-- constants.
use Rattle.std.specs.Prelude.{ℕ, suc, ◌+◌, ℤ, pos, ◌+ℤ◌, ◌*ℤ◌, Bool, false, ◌||◌, List, [], ◌∷◌, ◌++◌, take, drop, Option, None, if◌then◌else◌}
use Rattle.std.specs.List.{list_any}
use Rattle.affine_expr.specs.declared.expr.Expr.{Expr, Dim, Const, FloorDiv, Mod}
use Rattle.affine_expr.specs.declared.map.Rel.TheVariants as rel
use Rattle.affine_expr.specs.declared.map.Set.{Set}
use Rattle.affine_ast.specs.declared.name.Name.{Name}
use Rattle.affine_ast.specs.declared.types.Access.{Access}
use Rattle.affine_ast.specs.declared.types.Bound.{Bound}
use Rattle.affine_ast.specs.declared.types.Element.TheVariants.{I32}
use Rattle.affine_ast.specs.declared.types.MemrefType.{MemrefType}
use Rattle.affine_ast.specs.Names.{same_name}
use Rattle.affine_ast.specs.Nest.{Plain, Nest, Nothing, Loop, Branch, Does, Load, Store, Constant, Alloc, Dealloc, Start, Wait}
use Rattle.loop_forms.specs.Sums.{sum_of}
use Rattle.numbered_names.specs.Numbers.{defined, made_of}
use Rattle.loop_forms.specs.Split.{as_map, behind, reach, sole, split_of}
use Rattle.placement_texts.specs.Renamed.{named}
use Rattle.placement_texts.specs.Spots.{Spot, Here, Behind, Inside, Other, found}
use Rattle.placement_texts.specs.Template.{Dimension, How, Copies, Transfers, Placement, dim_extents, slow_type, fast_name, tag_name, count_name, stride_name, chunk_name, plus, begins_from, slow_at_places, fast_at_zeros, tag_at_zero, places_from, constants, stride_of}

-- a text in which the statements from a place on, to the end of their region, are changed
abbrev pub changed_at : (Nest → Nest) → Spot → Nest → Nest
changed_at f Here n = f n
changed_at f (Behind s) (Loop line v l u step body rest) = Loop line v l u step body (changed_at f s rest)
changed_at f (Behind s) (Branch line set names first has other rest) = Branch line set names first has other (changed_at f s rest)
changed_at f (Behind s) (Does line q rest) = Does line q (changed_at f s rest)
changed_at f (Inside s) (Loop line v l u step body rest) = Loop line v l u step (changed_at f s body) rest
changed_at f (Inside s) (Branch line set names first has other rest) = Branch line set names (changed_at f s first) has other rest
changed_at f (Other s) (Branch line set names first has other rest) = Branch line set names first has (changed_at f s other) rest
changed_at f s n = n

-- ---- a turn some steps later

-- the names of that turn's places, which copy loops would take, and transfers don't
abbrev pub later_names : (ℕ → Name) → ℕ → Name
later_names name n = name (2 + n)

-- ---- names of what is defined twice
-- Prologue and epilogue define what the main loop defines: the places of the starts, and what the body defines. There each made
-- name is the twin of the main loop's, so that no two definitions of a text have one made name.

-- no template takes it: it is a byte longer than the names that templates take
abbrev pub twin : Name → Name
twin n = record { text = n.text ++ 50 ∷ []; made = n.made }

abbrev pub twin_of_some : List Name → Name → Name
twin_of_some names n = if list_any (same_name n) names then twin n else n

-- a text with twins for the made names that it defines; those that it only uses stay
abbrev pub twin_text : Nest → Nest
twin_text n = named (twin_of_some (made_of (defined n))) n

-- the coefficient of a value
abbrev pub coefficient_of : Name → List (Name × ℤ) → ℤ
coefficient_of v [] = pos 0
coefficient_of v (t ∷ ts) = if same_name v t.0 then t.1 else coefficient_of v ts

-- dimensions of a box where this value is z more
abbrev pub dims_later : Name → ℤ → List Dimension → List Dimension
dims_later v z [] = []
dims_later v z (d ∷ ds) = record d { offset = d.offset +ℤ (coefficient_of v d.terms *ℤ z) } ∷ dims_later v z ds

-- ---- the loop of a variable between bounds, by a step, and rings of so many places
module _ (buffers : ℕ) (v : Name) (lower upper : Bound) (s : ℤ) where
  -- the place in the ring of the turn that is z later, where the variable is this dimension: `(i + z) floordiv s mod B`
  abbrev pub ring_place : ℕ → ℤ → Expr
  ring_place d z = Mod (FloorDiv (plus (Dim d) z) (Const s)) (Const (pos buffers))

  -- with this place for the first subscript
  abbrev pub at_place : ℤ → Access → Access
  at_place z at = record {
    map = record { dims = suc at.map.dims; syms = at.map.syms; results = ring_place at.map.dims z ∷ drop 1 at.map.results };
    operands = take at.map.dims at.operands ++ v ∷ drop at.map.dims at.operands;
  }

  abbrev pub ring_tags : MemrefType
  ring_tags = record { sizes = buffers ∷ []; element = I32; space = 2 }

  abbrev pub ring_type : Placement → MemrefType
  ring_type p = record { sizes = buffers ∷ dim_extents p.dims; element = p.element; space = 1 }

  abbrev pub wait_for : Placement → Nest → Nest
  wait_for p rest = Does 0 (Wait (tag_name p.name) (at_place (pos 0) tag_at_zero) (count_name p.name) ring_tags) rest

  abbrev pub stride_names : Placement → How → Option (Name × Name)
  stride_names p Copies = None
  stride_names p (Transfers chunks) = stride_of p chunks

  -- the start into the place of the turn that is z later, behind the values that say where the box is then, under these names
  abbrev pub start_later : (ℕ → Name) → ℤ → Placement → Nest → Nest
  start_later name z p rest =
      let ds = dims_later v z p.dims in
      let bs = begins_from name 0 ds in
      places_from name 0 ds
      (Does 0 (Start p.memref (slow_at_places bs) (fast_name p.name) (at_place z (fast_at_zeros bs)) (tag_name p.name) (at_place z tag_at_zero)
      (count_name p.name) (stride_names p p.how) (slow_type p ∷ ring_type p ∷ ring_tags ∷ [])) rest)

  -- the wait for the transfer out of B turns before, where there was such a turn: `i >= lb + B * s`
  abbrev pub late_rows : Access → Set
  late_rows l = record {
    dims = suc l.map.dims;
    syms = l.map.syms;
    rows = record { left = Dim 0; rel = rel.Ge; right = sum_of (behind 1 0 (sole l.map.results)) (Const (pos buffers *ℤ s)) } ∷ [];
  }

  abbrev pub late_wait : Placement → Nest → Nest
  late_wait p rest = Branch 0 (late_rows (as_map lower)) (v ∷ (as_map lower).operands) (wait_for p Nothing) false Nothing rest

  -- ---- the statements of the loop's body, in which a placement stands singly, with its ring
  module _ (p : Placement) where
    abbrev pub is_constant : Name → Bool
    is_constant r = same_name (count_name p.name) r || (same_name (stride_name p.name) r || same_name (chunk_name p.name) r)

    abbrev pub is_memref : Name → Bool
    is_memref m = same_name (fast_name p.name) m || same_name (tag_name p.name) m

    -- allocations stand round the loop instead; where an outward placement's tags were allocated it waits for the place of the ring
    abbrev pub alloc_in_ring : ℕ → Name → MemrefType → Nest → Nest
    alloc_in_ring line r ty rest =
        if same_name (tag_name p.name) r
        then (if p.reads then rest else late_wait p rest)
        else (if same_name (fast_name p.name) r then rest else Does line (Alloc r ty) rest)

    -- a transfer in is started ahead of its turn, so its start goes away, and its wait stays. A transfer out stays, with its wait where
    -- the placement is inward; where it is outward the wait comes late
    abbrev pub in_ring : ℕ → Plain → Nest → Nest
    in_ring line (Constant r z ty) rest = if is_constant r then rest else Does line (Constant r z ty) rest
    in_ring line (Alloc r ty) rest = alloc_in_ring line r ty rest
    in_ring line (Dealloc m ty) rest = if is_memref m then rest else Does line (Dealloc m ty) rest
    in_ring line (Start a a_at b b_at t t_at n stride types) rest =
        if same_name (tag_name p.name) t
        then (if same_name (fast_name p.name) b
        then rest
        else Does line (Start a (at_place (pos 0) a_at) b b_at t (at_place (pos 0) t_at) n stride (ring_type p ∷ slow_type p ∷ ring_tags ∷ [])) rest)
        else Does line (Start a a_at b b_at t t_at n stride types) rest
    in_ring line (Wait t at n ty) rest =
        if same_name (tag_name p.name) t
        then (if p.reads then Does line (Wait t (at_place (pos 0) at) n ring_tags) rest else rest)
        else Does line (Wait t at n ty) rest
    in_ring line (Load r m at ty) rest = if same_name (fast_name p.name) m then Does line (Load r m (at_place (pos 0) at) (ring_type p)) rest else Does line (Load r m at ty) rest
    in_ring line (Store x m at ty) rest = if same_name (fast_name p.name) m then Does line (Store x m (at_place (pos 0) at) (ring_type p)) rest else Does line (Store x m at ty) rest
    in_ring line q rest = Does line q rest

    abbrev pub all_in_ring : Nest → Nest
    all_in_ring Nothing = Nothing
    all_in_ring (Loop line w a b step body rest) = Loop line w a b step (all_in_ring body) (all_in_ring rest)
    all_in_ring (Branch line set names first has other rest) = Branch line set names (all_in_ring first) has (all_in_ring other) (all_in_ring rest)
    all_in_ring (Does line q rest) = in_ring line q (all_in_ring rest)

    abbrev pub ring_allocs : Nest → Nest
    ring_allocs rest = Does 0 (Alloc (fast_name p.name) (ring_type p)) (Does 0 (Alloc (tag_name p.name) ring_tags) rest)

    abbrev pub ring_deallocs : Nest → Nest
    ring_deallocs rest = Does 0 (Dealloc (fast_name p.name) (ring_type p)) (Does 0 (Dealloc (tag_name p.name) ring_tags) rest)

    -- behind the loop an outward placement waits for the transfers of the last B turns, those of an epilogue of one buffer more
    abbrev pub last_waits : Nest → Nest
    last_waits rest =
        let last = (split_of lower upper s (suc buffers)).epilogue in
        if p.reads then rest else Loop 0 v last.0 last.1 s (wait_for p Nothing) rest

  -- ---- several placements, in plan order
  abbrev pub bodies : List Placement → Nest → Nest
  bodies [] n = n
  bodies (p ∷ ps) n = bodies ps (all_in_ring p n)

  abbrev pub opened : List Placement → Nest → Nest
  opened [] rest = rest
  opened (p ∷ ps) rest = constants p p.how (ring_allocs p (opened ps rest))

  -- under the names of places ahead, each changed by this function
  abbrev pub started : (Name → Name) → ℤ → List Placement → Nest → Nest
  started f z [] rest = rest
  started f z (p ∷ ps) rest = if p.reads then start_later (λ n. f (later_names p.name n)) z p (started f z ps rest) else started f z ps rest

  abbrev pub waited : List Placement → Nest → Nest
  waited [] rest = rest
  waited (p ∷ ps) rest = last_waits p (waited ps rest)

  -- in reverse
  abbrev pub closed : List Placement → Nest → Nest
  closed [] rest = rest
  closed (p ∷ ps) rest = closed ps (ring_deallocs p rest)

  abbrev pub some_read : List Placement → Bool
  some_read [] = false
  some_read (p ∷ ps) = p.reads || some_read ps

  -- where a placement is inward the loop becomes three. The main loop alone keeps the line, so that there is one loop still in the
  -- count of the statements that have lines
  abbrev pub ring_loops : List Placement → ℕ → Nest → Nest → Nest
  ring_loops ps line body rest =
      let parts = split_of lower upper s buffers in
      if some_read ps
      then Loop 0 v parts.prologue.0 parts.prologue.1 s (started twin (pos 0) ps Nothing)
      (Loop line v parts.main.0 parts.main.1 s (started (λ n. n) (reach s buffers) ps body)
      (Loop 0 v parts.epilogue.0 parts.epilogue.1 s (twin_text body) rest))
      else Loop line v lower upper s body rest

  abbrev pub doubled_loop : List Placement → ℕ → Nest → Nest → Nest
  doubled_loop ps line body rest = opened ps (ring_loops ps line (bodies ps body) (waited ps (closed ps rest)))

abbrev pub doubled_first : ℕ → List Placement → Nest → Nest
doubled_first buffers ps (Loop line v l u s body rest) = doubled_loop buffers v l u s ps line body rest
doubled_first buffers ps n = n

-- a text with a ring of so many places for each of these placements in the loop there, counted over the statements that have lines
abbrev pub double_at : ℕ → List Placement → Spot → Nest → Nest
double_at buffers ps s n = changed_at (doubled_first buffers ps) (found s n) n
