-- What the rewriting for a ring makes of the statements of a loop's body.
use Rattle.std.proofs.Common.{◌≡◌, ℕ, suc, ℤ, pos, List, [], ◌∷◌, refl, ap, ◌∙◌, arith, Bool, true, false}
use Rattle.std.specs.Prelude.{◌||◌, Option, Some, None, if◌then◌else◌}
use Rattle.affine_expr.specs.declared.expr.Expr.{Const}
use Rattle.affine_ast.specs.declared.name.Name.{Name}
use Rattle.affine_ast.specs.declared.types.Access.{Access}
use Rattle.affine_ast.specs.Sizes.{product}
use Rattle.affine_ast.specs.declared.types.Bound.{Bound}
use Rattle.affine_ast.specs.declared.types.Pick.{Pick}
use Rattle.affine_ast.specs.declared.types.Pick.TheVariants.{Apply, Min, Max}
use Rattle.affine_ast.specs.declared.types.Scalar.{Scalar}
use Rattle.affine_ast.specs.declared.types.Scalar.TheVariants.{Index}
use Rattle.affine_ast.specs.Names.{same_name}
use Rattle.affine_ast.specs.Nest.{Plain, Nest, Nothing, Loop, Branch, Does, Value, Load, Store, RawLoad, RawStore, Constant, Binary, Cast, Alloc, Dealloc, Start, Wait, Return, followed_by}
use Rattle.affine_ast.proofs.Names.{same_name-refl}
use Rattle.placement_texts.specs.Mapped.{mapped}
use Rattle.placement_texts.specs.Own.{MadeNames}
use Rattle.placement_texts.specs.Template.{Dimension, Placement, Transfers, allocs, begins, chunk_constants, chunk_name, constants, count_name, deallocs, dim_extents, fast_at_zeros, fast_name, fast_type, form, index_constant, last_place, least_name, over_terms, place_name, place_statement, places_from, read_in, slow_at_places, slow_type, start_in, start_out, stride_name, stride_of, tag_at_zero, tag_name, tag_type, value_or_zero, wait, where_so, write_out}
use Rattle.placement_texts.proofs.Follows.{apart_own}
use Rattle.placement_texts.proofs.PlaceRun.{other_name, sym_false}
use Rattle.ring_plans.specs.Rings.{all_in_ring, at_place, in_ring, is_constant, is_memref, late_wait, ring_tags, ring_type, wait_for}
use Rattle.ring_scripts.specs.Texts.{Works, AllWork, ring_access, ring_start_out, WorkInRing, OpensInRing, ClosesInRing}

or_true : (b : Bool) → (b || true) ≡ true
or_true true = refl
or_true false = refl

module _ (buffers : ℕ) (v : Name) (lower upper : Bound) (s : ℤ) (p : Placement) where
  abbrev ringed : Nest → Nest
  ringed = all_in_ring buffers v lower upper s p

  -- ---- what isn't of the template
  chosen : (c : Bool) (line : ℕ) (x y : Plain) (rest : Nest) → (if c then Does line x rest else Does line y rest) ≡ Does line (if c then x else y) rest
  chosen true line x y rest = refl
  chosen false line x y rest = refl

  one_works : (line : ℕ) (q : Plain) (rest : Nest) → Works buffers v lower upper s p q → in_ring buffers v lower upper s p line q rest ≡ Does line (ring_access buffers v lower upper s p q) rest
  one_works line (Value r pick at) rest h = refl
  one_works line (Load r m at ty) rest h = chosen (same_name (fast_name p.name) m) line _ _ rest
  one_works line (Store x m at ty) rest h = chosen (same_name (fast_name p.name) m) line _ _ rest
  one_works line (RawLoad r m at ty) rest h = refl
  one_works line (RawStore x m at ty) rest h = refl
  one_works line (Constant r z ty) rest h = ap (λ b. if b then rest else Does line (Constant r z ty) rest) h
  one_works line (Binary r op a b ty) rest h = refl
  one_works line (Cast r kind x from to) rest h = refl
  one_works line (Alloc r ty) rest h = λ i. if h.0 i then (if p.reads then rest else late_wait buffers v lower upper s p rest) else (if h.1 i then rest else Does line (Alloc r ty) rest)
  one_works line (Dealloc m ty) rest h = ap (λ b. if b then rest else Does line (Dealloc m ty) rest) h
  one_works line (Start a a_at b b_at t t_at n stride types) rest h =
      ap (λ c. if c
      then (if same_name (fast_name p.name) b then rest else Does line (Start a (at_place buffers v lower upper s (pos 0) a_at) b b_at t (at_place buffers v lower upper s (pos 0) t_at) n stride (ring_type buffers v lower upper s p ∷ slow_type p ∷ ring_tags buffers v lower upper s ∷ [])) rest)
      else Does line (Start a a_at b b_at t t_at n stride types) rest) h
  one_works line (Wait t at n ty) rest h =
      ap (λ c. if c then (if p.reads then Does line (Wait t (at_place buffers v lower upper s (pos 0) at) n (ring_tags buffers v lower upper s)) rest else rest) else Does line (Wait t at n ty) rest) h
  one_works line Return rest h = refl

  all_work : (n : Nest) → AllWork buffers v lower upper s p n → ringed n ≡ mapped (ring_access buffers v lower upper s p) n
  all_work Nothing h = refl
  all_work (Loop line w l u step body rest) h = λ i. Loop line w l u step (all_work body h.0 i) (all_work rest h.1 i)
  all_work (Branch line set names first has other rest) h = λ i. Branch line set names (all_work first h.0 i) has (all_work other h.1 i) (all_work rest h.2 i)
  all_work (Does line q rest) h = one_works line q (ringed rest) h.0 ∙ ap (Does line (ring_access buffers v lower upper s p q)) (all_work rest h.1)

  -- ---- places
  values_stay : (c : Bool) (r r' : Name) (x y z : Pick) (a b d : Access) (rest : Nest)
      → ringed (if c then Does 0 (Value r x a) (Does 0 (Value r' y b) rest) else Does 0 (Value r' z d) rest) ≡ (if c then Does 0 (Value r x a) (Does 0 (Value r' y b) (ringed rest)) else Does 0 (Value r' z d) (ringed rest))
  values_stay true r r' x y z a b d rest = refl
  values_stay false r r' x y z a b d rest = refl

  one_place : (k : ℕ) (d : Dimension) (ts : List (Name × ℤ)) (rest : Nest) → ringed (place_statement p.name k d ts rest) ≡ place_statement p.name k d ts (ringed rest)
  one_place k d [] rest = refl
  one_place k d (t ∷ ts) rest =
      values_stay d.clamped (least_name p.name k) (place_name p.name k) Min Max Apply
      (over_terms (t ∷ ts) (form (t ∷ ts) d.offset ∷ Const (last_place d) ∷ [])) (value_or_zero (least_name p.name k)) (over_terms (t ∷ ts) (form (t ∷ ts) d.offset ∷ [])) rest

  all_places : (k : ℕ) (ds : List Dimension) (rest : Nest) → ringed (places_from p.name k ds rest) ≡ places_from p.name k ds (ringed rest)
  all_places k [] rest = refl
  all_places k (d ∷ ds) rest = one_place k d d.terms (places_from p.name (suc k) ds rest) ∙ ap (place_statement p.name k d d.terms) (all_places (suc k) ds rest)

  -- ---- constants
  constant_goes : (r : Name) (z : ℤ) (ty : Scalar) (rest : Nest) → is_constant buffers v lower upper s p r ≡ true → ringed (Does 0 (Constant r z ty) rest) ≡ ringed rest
  constant_goes r z ty rest h = ap (λ b. if b then ringed rest else Does 0 (Constant r z ty) (ringed rest)) h

  is_count : is_constant buffers v lower upper s p (count_name p.name) ≡ true
  is_count = ap (λ b. b || (same_name (stride_name p.name) (count_name p.name) || same_name (chunk_name p.name) (count_name p.name))) (same_name-refl (count_name p.name))

  is_stride : is_constant buffers v lower upper s p (stride_name p.name) ≡ true
  is_stride =
      ap (λ b. same_name (count_name p.name) (stride_name p.name) || (b || same_name (chunk_name p.name) (stride_name p.name))) (same_name-refl (stride_name p.name))
      ∙ or_true (same_name (count_name p.name) (stride_name p.name))

  is_chunk : is_constant buffers v lower upper s p (chunk_name p.name) ≡ true
  is_chunk =
      ap (λ b. same_name (count_name p.name) (chunk_name p.name) || (same_name (stride_name p.name) (chunk_name p.name) || b)) (same_name-refl (chunk_name p.name))
      ∙ ap (λ b. same_name (count_name p.name) (chunk_name p.name) || b) (or_true (same_name (stride_name p.name) (chunk_name p.name)))
      ∙ or_true (same_name (count_name p.name) (chunk_name p.name))

  chunks_go : (chunks : Option (ℕ × ℕ)) (rest : Nest) → ringed (chunk_constants p chunks rest) ≡ ringed rest
  chunks_go None rest = refl
  chunks_go (Some two) rest = constant_goes (stride_name p.name) (pos two.0) Index (index_constant p (chunk_name p.name) two.1 rest) is_stride ∙ constant_goes (chunk_name p.name) (pos two.1) Index rest is_chunk

  constants_go : (chunks : Option (ℕ × ℕ)) (rest : Nest) → ringed (constants p (Transfers chunks) rest) ≡ ringed rest
  constants_go chunks rest = constant_goes (count_name p.name) (pos (product (dim_extents p.dims))) Index (chunk_constants p chunks rest) is_count ∙ chunks_go chunks rest

  module _ (own : Name → Bool) (names : MadeNames own p.name) where
    tag_is_tag : same_name (tag_name p.name) (tag_name p.name) ≡ true
    tag_is_tag = same_name-refl (tag_name p.name)

    fast_is_fast : same_name (fast_name p.name) (fast_name p.name) ≡ true
    fast_is_fast = same_name-refl (fast_name p.name)

    apart : same_name (tag_name p.name) (fast_name p.name) ≡ false
    apart = other_name p.name own names 1 0 (λ e. omega (arith, e))

    -- ---- allocations, of which that of the tags becomes the late wait of an outward placement
    allocs_go : (chunks : Option (ℕ × ℕ)) (rest : Nest) → ringed (allocs p (Transfers chunks) rest) ≡ (if p.reads then ringed rest else late_wait buffers v lower upper s p (ringed rest))
    allocs_go chunks rest =
        (λ i. if apart i
        then (if p.reads then ringed (Does 0 (Alloc (tag_name p.name) tag_type) rest) else late_wait buffers v lower upper s p (ringed (Does 0 (Alloc (tag_name p.name) tag_type) rest)))
        else (if fast_is_fast i then ringed (Does 0 (Alloc (tag_name p.name) tag_type) rest) else Does 0 (Alloc (fast_name p.name) (fast_type p)) (ringed (Does 0 (Alloc (tag_name p.name) tag_type) rest))))
        ∙ ap (λ c. if c
        then (if p.reads then ringed rest else late_wait buffers v lower upper s p (ringed rest))
        else (if same_name (fast_name p.name) (tag_name p.name) then ringed rest else Does 0 (Alloc (tag_name p.name) tag_type) (ringed rest))) tag_is_tag

    deallocs_go : (chunks : Option (ℕ × ℕ)) (rest : Nest) → ringed (deallocs p (Transfers chunks) rest) ≡ ringed rest
    deallocs_go chunks rest =
        ap (λ c. if c || same_name (tag_name p.name) (fast_name p.name) then ringed (Does 0 (Dealloc (tag_name p.name) tag_type) rest) else Does 0 (Dealloc (fast_name p.name) (fast_type p)) (ringed (Does 0 (Dealloc (tag_name p.name) tag_type) rest))) fast_is_fast
        ∙ ap (λ b. if b then ringed rest else Does 0 (Dealloc (tag_name p.name) tag_type) (ringed rest)) (ap (λ c. same_name (fast_name p.name) (tag_name p.name) || c) tag_is_tag ∙ or_true (same_name (fast_name p.name) (tag_name p.name)))

    -- ---- waits and starts
    wait_stays : (rest : Nest) → ringed (Does 0 (Wait (tag_name p.name) tag_at_zero (count_name p.name) tag_type) rest) ≡ (if p.reads then wait_for buffers v lower upper s p (ringed rest) else ringed rest)
    wait_stays rest =
        ap (λ c. if c
        then (if p.reads then wait_for buffers v lower upper s p (ringed rest) else ringed rest)
        else Does 0 (Wait (tag_name p.name) tag_at_zero (count_name p.name) tag_type) (ringed rest)) tag_is_tag

    start_in_goes : (chunks : Option (ℕ × ℕ)) (rest : Nest) → ringed (followed_by (start_in p chunks) rest) ≡ (if p.reads then wait_for buffers v lower upper s p (ringed rest) else ringed rest)
    start_in_goes chunks rest =
        (λ i. if tag_is_tag i
        then (if fast_is_fast i then ringed (followed_by (wait p) rest) else Does 0
        (Start p.memref (at_place buffers v lower upper s (pos 0) (slow_at_places (begins p))) (fast_name p.name) (fast_at_zeros (begins p)) (tag_name p.name) (at_place buffers v lower upper s (pos 0) tag_at_zero)
        (count_name p.name) (stride_of p chunks) (ring_type buffers v lower upper s p ∷ slow_type p ∷ ring_tags buffers v lower upper s ∷ [])) (ringed (followed_by (wait p) rest)))
        else Does 0 (Start p.memref (slow_at_places (begins p)) (fast_name p.name) (fast_at_zeros (begins p)) (tag_name p.name) tag_at_zero
        (count_name p.name) (stride_of p chunks) (slow_type p ∷ fast_type p ∷ tag_type ∷ [])) (ringed (followed_by (wait p) rest)))
        ∙ wait_stays rest

    start_out_stays : (chunks : Option (ℕ × ℕ)) (rest : Nest) → own p.memref ≡ true → ringed (followed_by (start_out p chunks) rest)
        ≡ ring_start_out buffers v lower upper s p chunks (if p.reads then wait_for buffers v lower upper s p (ringed rest) else ringed rest)
    start_out_stays chunks rest h =
        let other : same_name (fast_name p.name) p.memref ≡ false = sym_false (fast_name p.name) p.memref (apart_own own p.memref (fast_name p.name) h (names.made 0)) in
        (λ i. if tag_is_tag i
        then (if other i then ringed (followed_by (wait p) rest) else ring_start_out buffers v lower upper s p chunks (ringed (followed_by (wait p) rest)))
        else Does 0 (Start (fast_name p.name) (fast_at_zeros (begins p)) p.memref (slow_at_places (begins p)) (tag_name p.name) tag_at_zero
        (count_name p.name) (stride_of p chunks) (fast_type p ∷ slow_type p ∷ tag_type ∷ [])) (ringed (followed_by (wait p) rest)))
        ∙ ap (ring_start_out buffers v lower upper s p chunks) (wait_stays rest)

    -- ---- before the loop, and behind it
    front : (chunks : Option (ℕ × ℕ)) (rest : Nest) (c : Bool) → p.reads ≡ c
        → ringed (allocs p (Transfers chunks) (where_so p c (start_in p chunks) rest)) ≡ (if c then wait_for buffers v lower upper s p (ringed rest) else late_wait buffers v lower upper s p (ringed rest))
    front chunks rest true r =
        allocs_go chunks (followed_by (start_in p chunks) rest)
        ∙ (λ i. if r i then ringed (followed_by (start_in p chunks) rest) else late_wait buffers v lower upper s p (ringed (followed_by (start_in p chunks) rest)))
        ∙ start_in_goes chunks rest
        ∙ (λ i. if r i then wait_for buffers v lower upper s p (ringed rest) else ringed rest)
    front chunks rest false r =
        allocs_go chunks rest
        ∙ (λ i. if r i then ringed rest else late_wait buffers v lower upper s p (ringed rest))

    opens_by : (chunks : Option (ℕ × ℕ)) (rest : Nest) → ringed (places_from p.name 0 p.dims (constants p (Transfers chunks) (allocs p (Transfers chunks) (where_so p p.reads (start_in p chunks) rest))))
        ≡ places_from p.name 0 p.dims (if p.reads then wait_for buffers v lower upper s p (ringed rest) else late_wait buffers v lower upper s p (ringed rest))
    opens_by chunks rest =
        all_places 0 p.dims (constants p (Transfers chunks) (allocs p (Transfers chunks) (where_so p p.reads (start_in p chunks) rest)))
        ∙ ap (places_from p.name 0 p.dims) (constants_go chunks (allocs p (Transfers chunks) (where_so p p.reads (start_in p chunks) rest)) ∙ front chunks rest p.reads refl)

    back : (chunks : Option (ℕ × ℕ)) (rest : Nest) (w : Bool) → own p.memref ≡ true → ringed (where_so p w (start_out p chunks) (deallocs p (Transfers chunks) rest))
        ≡ (if w then ring_start_out buffers v lower upper s p chunks (if p.reads then wait_for buffers v lower upper s p (ringed rest) else ringed rest) else ringed rest)
    back chunks rest true h =
        start_out_stays chunks (deallocs p (Transfers chunks) rest) h
        ∙ ap (λ n. ring_start_out buffers v lower upper s p chunks (if p.reads then wait_for buffers v lower upper s p n else n)) (deallocs_go chunks rest)
    back chunks rest false h = deallocs_go chunks rest

pub work_in_ring : WorkInRing
work_in_ring buffers v lower upper s p n h = all_work buffers v lower upper s p n h

pub opens_in_ring : OpensInRing
opens_in_ring own buffers v lower upper s p chunks rest names how =
    ap (λ h. all_in_ring buffers v lower upper s p (places_from p.name 0 p.dims (constants p h (allocs p h (where_so p p.reads (read_in p h) rest))))) how
    ∙ opens_by buffers v lower upper s p own names chunks rest

pub closes_in_ring : ClosesInRing
closes_in_ring own buffers v lower upper s p chunks rest names h how =
    ap (λ h. all_in_ring buffers v lower upper s p (where_so p p.writes (write_out p h) (deallocs p h rest))) how
    ∙ back buffers v lower upper s p own names chunks rest p.writes h
