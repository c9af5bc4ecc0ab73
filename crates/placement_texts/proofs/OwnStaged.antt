-- The names of the text in which a memref is staged: the text's and the template's.
use Rattle.std.proofs.Common.{◌≡◌, ℕ, zero, suc, ◌+◌, ◌*◌, ◌≤◌, ℤ, List, [], ◌∷◌, ◌++◌, arith, Bool, true, false, take, drop}
use Rattle.std.specs.Prelude.{Option, Some, None, if◌then◌else◌}
use Rattle.affine_ast.specs.declared.name.Name.{Name}
use Rattle.affine_ast.specs.declared.types.Access.{Access}
use Rattle.affine_ast.specs.declared.types.Bound.{Bound}
use Rattle.affine_ast.specs.declared.types.Bound.TheVariants as bound
use Rattle.affine_ast.specs.Names.{same_name}
use Rattle.affine_ast.specs.Nest.{Plain, Nest, Nothing, Loop, Branch, Does, Value, Load, Store, RawLoad, RawStore, Constant, Binary, Cast, Alloc, Dealloc, Start, Wait, Return, followed_by}
use Rattle.affine_ast.specs.Sizes.{product}
use Rattle.placement_texts.specs.Own.{OwnNames, OwnBound, OwnPair, OwnPlain, OwnNest}
use Rattle.placement_texts.specs.Mapped.{mapped}
use Rattle.placement_texts.specs.Template.{How, Copies, Transfers, Placement, Dimension, dim_extents, term_names, Begin, named, begin, begins_from, begins, turn_names, in_fast, place_statement, places_from, loops, in_turn, out_turn, read_in, write_out, stride_of, chunk_constants, constants, allocs, deallocs, where_so, redirect, staged_loop}
use Rattle.placement_texts.specs.Regions.{OwnDims}
use Rattle.placement_texts.specs.Spots.{Spot, Here, Behind, Inside, Other, staged_at}

module _ (own own' : Name → Bool) (more : (n : Name) → own n ≡ true → own' n ≡ true) where
  -- ---- more names
  pub names_more : (ns : List Name) → OwnNames own ns → OwnNames own' ns
  names_more [] h = tt
  names_more (n ∷ ns) h = (more n h.0, names_more ns h.1)

  bound_more : (l : Bound) → OwnBound own l → OwnBound own' l
  bound_more (bound.Int z) h = tt
  bound_more (bound.Value n) h = more n h
  bound_more (bound.Map at) h = names_more at.operands h

  pair_more : (two : Option (Name × Name)) → OwnPair own two → OwnPair own' two
  pair_more None h = tt
  pair_more (Some two) h = (more two.0 h.0, more two.1 h.1)

  plain_more : (q : Plain) → OwnPlain own q → OwnPlain own' q
  plain_more (Value r pick at) h = (more r h.0, names_more at.operands h.1)
  plain_more (Load r m at ty) h = (more r h.0, (more m h.1.0, names_more at.operands h.1.1))
  plain_more (Store x m at ty) h = (more x h.0, (more m h.1.0, names_more at.operands h.1.1))
  plain_more (RawLoad r m at ty) h = (more r h.0, more m h.1, names_more at h.2)
  plain_more (RawStore x m at ty) h = (more x h.0, more m h.1, names_more at h.2)
  plain_more (Constant r z ty) h = more r h
  plain_more (Binary r op a b ty) h = (more r h.0, more a h.1, more b h.2)
  plain_more (Cast r kind x from to) h = (more r h.0, more x h.1)
  plain_more (Alloc r ty) h = (more r h.0, h.1)
  plain_more (Dealloc m ty) h = more m h
  plain_more (Start a a_at b b_at t t_at n stride types) h =
      ((more a h.0.0, names_more a_at.operands h.0.1), (more b h.1.0, names_more b_at.operands h.1.1), (more t h.2.0, names_more t_at.operands h.2.1), more n h.3, pair_more stride h.4)
  plain_more (Wait t at n ty) h = ((more t h.0.0, names_more at.operands h.0.1), more n h.1)
  plain_more Return h = tt

  pub nest_more : (n : Nest) → OwnNest own n → OwnNest own' n
  nest_more Nothing h = tt
  nest_more (Loop line v l u s body rest) h = (more v h.0, bound_more l h.1, bound_more u h.2, nest_more body h.3, nest_more rest h.4)
  nest_more (Branch line set ns first has other rest) h = (names_more ns h.0, nest_more first h.1, nest_more other h.2, nest_more rest h.3)
  nest_more (Does line q rest) h = (plain_more q h.0, nest_more rest h.1)

  -- ---- the template's
  module _ (p : Placement) (made : (i : ℕ) → own' (p.name i) ≡ true) (memref_own : own p.memref ≡ true) (dims_own : OwnDims own p.dims) (elements : 1 ≤ product (dim_extents p.dims)) where
    both_own : (xs ys : List Name) → OwnNames own' xs → OwnNames own' ys → OwnNames own' (xs ++ ys)
    both_own [] ys h k = k
    both_own (x ∷ xs) ys h k = (h.0, both_own xs ys h.1 k)

    take_own : (n : ℕ) (xs : List Name) → OwnNames own' xs → OwnNames own' (take n xs)
    take_own zero xs h = tt
    take_own (suc n) [] h = tt
    take_own (suc n) (x ∷ xs) h = (h.0, take_own n xs h.1)

    drop_own : (n : ℕ) (xs : List Name) → OwnNames own' xs → OwnNames own' (drop n xs)
    drop_own zero xs h = h
    drop_own (suc n) [] h = tt
    drop_own (suc n) (x ∷ xs) h = drop_own n xs h.1

    begin_named : (k : ℕ) (d : Dimension) (ts : List (Name × ℤ)) (bs : List Begin) → OwnNames own' (named bs) → OwnNames own' (named (begin p.name k d ts ∷ bs))
    begin_named k d [] bs h = h
    begin_named k d (t ∷ ts) bs h = (made (7 + 4 * k), h)

    named_own : (k : ℕ) (ds : List Dimension) → OwnNames own' (named (begins_from p.name k ds))
    named_own k [] = tt
    named_own k (d ∷ ds) = begin_named k d d.terms (begins_from p.name (suc k) ds) (named_own (suc k) ds)

    turns_own : (turn : ℕ → Name) → ((j : ℕ) → own' (turn j) ≡ true) → (k : ℕ) (bs : List Begin) → OwnNames own' (turn_names turn k bs)
    turns_own turn h k [] = tt
    turns_own turn h k (b ∷ bs) = (h k, turns_own turn h (suc k) bs)

    fast_own : (at : Access) → OwnNames own' at.operands → OwnNames own' (in_fast (begins p) at).operands
    fast_own at h = both_own (take at.map.dims at.operands) _ (take_own at.map.dims at.operands h) (both_own (named (begins p)) _ (named_own 0 p.dims) (drop_own at.map.dims at.operands h))

    by_test : (b : Bool) (x y : Plain) → OwnPlain own' x → OwnPlain own' y → OwnPlain own' (if b then x else y)
    by_test true x y h k = h
    by_test false x y h k = k

    redirect_own : (q : Plain) → OwnPlain own' q → OwnPlain own' (redirect p q)
    redirect_own (Load r m at ty) h = by_test (same_name p.memref m) _ (Load r m at ty) (h.0, (made 0, fast_own at h.1.1)) h
    redirect_own (Store x m at ty) h = by_test (same_name p.memref m) _ (Store x m at ty) (h.0, (made 0, fast_own at h.1.1)) h
    redirect_own (Value r pick at) h = h
    redirect_own (RawLoad r m at ty) h = h
    redirect_own (RawStore x m at ty) h = h
    redirect_own (Constant r z ty) h = h
    redirect_own (Binary r op a b ty) h = h
    redirect_own (Cast r kind x from to) h = h
    redirect_own (Alloc r ty) h = h
    redirect_own (Dealloc m ty) h = h
    redirect_own (Start a a_at b b_at t t_at n stride types) h = h
    redirect_own (Wait t at n ty) h = h
    redirect_own Return h = h

    mapped_own : (n : Nest) → OwnNest own' n → OwnNest own' (mapped (redirect p) n)
    mapped_own Nothing h = tt
    mapped_own (Loop line v l u s body rest) h = (h.0, h.1, h.2, mapped_own body h.3, mapped_own rest h.4)
    mapped_own (Branch line set ns first has other rest) h = (h.0, mapped_own first h.1, mapped_own other h.2, mapped_own rest h.3)
    mapped_own (Does line q rest) h = (redirect_own q h.0, mapped_own rest h.1)

    followed_own : (a b : Nest) → OwnNest own' a → OwnNest own' b → OwnNest own' (followed_by a b)
    followed_own Nothing b h k = k
    followed_own (Loop line v l u s body rest) b h k = (h.0, h.1, h.2, h.3, followed_own rest b h.4 k)
    followed_own (Branch line set ns first has other rest) b h k = (h.0, h.1, h.2, followed_own rest b h.3 k)
    followed_own (Does line q rest) b h k = (h.0, followed_own rest b h.1 k)

    loops_own : (turn : ℕ → Name) → ((j : ℕ) → own' (turn j) ≡ true) → (k : ℕ) (ds : List Dimension) (inner : Nest) → OwnNest own' inner → OwnNest own' (loops turn k ds inner)
    loops_own turn t k [] inner h = h
    loops_own turn t k (d ∷ ds) inner h = (t k, tt, tt, loops_own turn t (suc k) ds inner h, tt)

    stride_own : (chunks : Option (ℕ × ℕ)) → OwnPair own' (stride_of p chunks)
    stride_own None = tt
    stride_own (Some two) = (made 3, made 4)

    in_own : (j : ℕ) → own' (in_turn p.name j) ≡ true
    in_own j = made (9 + 4 * j)

    out_own : (j : ℕ) → own' (out_turn p.name j) ≡ true
    out_own j = made (10 + 4 * j)

    read_own : (how : How) → OwnNest own' (read_in p how)
    read_own Copies =
        loops_own (in_turn p.name) in_own 0 p.dims _ (
          (made 5, (more p.memref memref_own, both_own (turn_names (in_turn p.name) 0 (begins p)) _ (turns_own (in_turn p.name) in_own 0 (begins p)) (named_own 0 p.dims))),
          ((made 5, (made 0, turns_own (in_turn p.name) in_own 0 (begins p))), tt),
        )
    read_own (Transfers chunks) = (((more p.memref memref_own, named_own 0 p.dims), (made 0, tt), (made 1, tt), made 2, stride_own chunks), (((made 1, tt), made 2), tt))

    write_own : (how : How) → OwnNest own' (write_out p how)
    write_own Copies =
        loops_own (out_turn p.name) out_own 0 p.dims _ (
          (made 6, (made 0, turns_own (out_turn p.name) out_own 0 (begins p))),
          ((made 6, (more p.memref memref_own, both_own (turn_names (out_turn p.name) 0 (begins p)) _ (turns_own (out_turn p.name) out_own 0 (begins p)) (named_own 0 p.dims))), tt),
        )
    write_own (Transfers chunks) = (((made 0, tt), (more p.memref memref_own, named_own 0 p.dims), (made 1, tt), made 2, stride_own chunks), (((made 1, tt), made 2), tt))

    so_own : (b : Bool) (part rest : Nest) → OwnNest own' part → OwnNest own' rest → OwnNest own' (where_so p b part rest)
    so_own true part rest h k = followed_own part rest h k
    so_own false part rest h k = k

    place_by_own : (b : Bool) (x y : Nest) → OwnNest own' x → OwnNest own' y → OwnNest own' (if b then x else y)
    place_by_own true x y h k = h
    place_by_own false x y h k = k

    place_own : (k : ℕ) (d : Dimension) (ts : List (Name × ℤ)) (rest : Nest) → OwnNames own (term_names ts) → OwnNest own' rest → OwnNest own' (place_statement p.name k d ts rest)
    place_own k d [] rest h r = r
    place_own k d (t ∷ ts) rest h r =
        let ns = names_more (term_names (t ∷ ts)) h in
        place_by_own d.clamped _ _ ((made (8 + 4 * k), ns), ((made (7 + 4 * k), (made (8 + 4 * k), tt)), r)) ((made (7 + 4 * k), ns), r)

    places_own : (k : ℕ) (ds : List Dimension) (rest : Nest) → OwnDims own ds → OwnNest own' rest → OwnNest own' (places_from p.name k ds rest)
    places_own k [] rest h r = r
    places_own k (d ∷ ds) rest h r = place_own k d d.terms (places_from p.name (suc k) ds rest) h.0 (places_own (suc k) ds rest h.1 r)

    chunks_own : (chunks : Option (ℕ × ℕ)) (rest : Nest) → OwnNest own' rest → OwnNest own' (chunk_constants p chunks rest)
    chunks_own None rest r = r
    chunks_own (Some two) rest r = (made 3, (made 4, r))

    constants_own : (how : How) (rest : Nest) → OwnNest own' rest → OwnNest own' (constants p how rest)
    constants_own Copies rest r = r
    constants_own (Transfers chunks) rest r = (made 2, chunks_own chunks rest r)

    has_cells : 1 ≤ 1 * product (dim_extents p.dims)
    has_cells = let e = elements in omega (arith, e)

    allocs_own : (how : How) (rest : Nest) → OwnNest own' rest → OwnNest own' (allocs p how rest)
    allocs_own Copies rest r = ((made 0, has_cells), r)
    allocs_own (Transfers chunks) rest r = ((made 0, has_cells), ((made 1, omega arith), r))

    deallocs_own : (how : How) (rest : Nest) → OwnNest own' rest → OwnNest own' (deallocs p how rest)
    deallocs_own Copies rest r = (made 0, r)
    deallocs_own (Transfers chunks) rest r = (made 0, (made 1, r))

    loop_own : (line : ℕ) (v : Name) (l u : Bound) (s : ℤ) (body rest : Nest) → OwnNest own' (Loop line v l u s body rest) → OwnNest own' rest → OwnNest own' (staged_loop p (Loop line v l u s body rest) rest)
    loop_own line v l u s body rest h r =
        places_own 0 p.dims _ dims_own (constants_own p.how _ (allocs_own p.how _ (so_own p.reads (read_in p p.how) _ (read_own p.how)
        (h.0, h.1, h.2, mapped_own body h.3, so_own p.writes (write_out p p.how) _ (write_own p.how) (deallocs_own p.how rest r)))))

    pub staged_own : (s : Spot) (n : Nest) → OwnNest own' n → OwnNest own' (staged_at p s n)
    staged_own s Nothing h = tt
    staged_own Here (Loop line v l u step body rest) h = loop_own line v l u step body rest h h.4
    staged_own (Behind s) (Loop line v l u step body rest) h = (h.0, h.1, h.2, h.3, staged_own s rest h.4)
    staged_own (Inside s) (Loop line v l u step body rest) h = (h.0, h.1, h.2, staged_own s body h.3, h.4)
    staged_own (Other s) (Loop line v l u step body rest) h = h
    staged_own Here (Branch line set ns first has other rest) h = h
    staged_own (Behind s) (Branch line set ns first has other rest) h = (h.0, h.1, h.2, staged_own s rest h.3)
    staged_own (Inside s) (Branch line set ns first has other rest) h = (h.0, staged_own s first h.1, h.2, h.3)
    staged_own (Other s) (Branch line set ns first has other rest) h = (h.0, h.1, staged_own s other h.2, h.3)
    staged_own (Behind s) (Does line q rest) h = (h.0, staged_own s rest h.1)
    staged_own Here (Does line q rest) h = h
    staged_own (Inside s) (Does line q rest) h = h
    staged_own (Other s) (Does line q rest) h = h
