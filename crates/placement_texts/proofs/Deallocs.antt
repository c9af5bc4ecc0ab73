-- The deallocs of a name of the text, in the text in which a memref is staged.
use Rattle.std.proofs.Common.{◌≡◌, ℕ, suc, ◌+◌, ℤ, List, [], ◌∷◌, refl, ◌∙◌, arith, Bool, true, false}
use Rattle.std.specs.Prelude.{◌&&◌, Option, Some, None, nat_eq, if◌then◌else◌}
use Rattle.affine_ast.specs.declared.name.Name.{Name}
use Rattle.affine_ast.specs.declared.types.Bound.{Bound}
use Rattle.affine_ast.specs.Names.{same_name}
use Rattle.affine_ast.specs.Nest.{Plain, Nest, Nothing, Loop, Branch, Does, Value, Load, Store, RawLoad, RawStore, Constant, Binary, Cast, Alloc, Dealloc, Start, Wait, Return, followed_by}
use Rattle.affine_ast.specs.Rules.{is_dealloc_of, deallocs, own_deallocs, is_released_once}
use Rattle.placement_texts.specs.Mapped.{mapped}
use Rattle.placement_texts.specs.Template.{How, Copies, Transfers, Placement, Dimension, fast_name, tag_name, tag_type, place_statement, places_from, loops, read_in, write_out, chunk_constants, constants, allocs, deallocs as deallocs_of, where_so, behind_loop, redirect, staged_loop}
use Rattle.placement_texts.specs.Spots.{Spot, Here, Behind, Inside, Other, IsLoop, staged_at}

by_bool : {A B : Type 0} (f : A → B) (t : Bool) (x y : A) → f x ≡ f y → f (if t then x else y) ≡ f y
by_bool f true x y h = h
by_bool f false x y h = refl

module _ (p : Placement) (r : Name) where
  pub dealloc_redirected : (q : Plain) → is_dealloc_of r (redirect p q) ≡ is_dealloc_of r q
  dealloc_redirected (Load x m at ty) = by_bool (is_dealloc_of r) (same_name p.memref m) _ (Load x m at ty) refl
  dealloc_redirected (Store x m at ty) = by_bool (is_dealloc_of r) (same_name p.memref m) _ (Store x m at ty) refl
  dealloc_redirected (Value x pick at) = refl
  dealloc_redirected (RawLoad x m at ty) = refl
  dealloc_redirected (RawStore x m at ty) = refl
  dealloc_redirected (Constant x z ty) = refl
  dealloc_redirected (Binary x op a b ty) = refl
  dealloc_redirected (Cast x kind y from to) = refl
  dealloc_redirected (Alloc x ty) = refl
  dealloc_redirected (Dealloc m ty) = refl
  dealloc_redirected (Start a a_at b b_at t t_at n stride types) = refl
  dealloc_redirected (Wait t at n ty) = refl
  dealloc_redirected Return = refl

  -- ---- deallocs
  pub all_followed : (a b : Nest) → deallocs r (followed_by a b) ≡ deallocs r a + deallocs r b
  unfolding deallocs
  all_followed Nothing b = omega arith
  all_followed (Loop line v l u s body rest) b = let e = all_followed rest b in omega (arith, e)
  all_followed (Branch line set ns first has other rest) b = let e = all_followed rest b in omega (arith, e)
  all_followed (Does line q rest) b = let e = all_followed rest b in omega (arith, e)

  pub all_mapped : (n : Nest) → deallocs r (mapped (redirect p) n) ≡ deallocs r n
  unfolding deallocs
  all_mapped Nothing = refl
  all_mapped (Loop line v l u s body rest) = let e = all_mapped rest in let f = all_mapped body in omega (arith, e, f)
  all_mapped (Branch line set ns first has other rest) = let e = all_mapped rest in let f = all_mapped first in let g = all_mapped other in omega (arith, e, f, g)
  all_mapped (Does line q rest) = let e = all_mapped rest in let f = dealloc_redirected q in omega (arith, e, f)

  all_place : (k : ℕ) (d : Dimension) (ts : List (Name × ℤ)) (rest : Nest) → deallocs r (place_statement p.name k d ts rest) ≡ deallocs r rest
  unfolding deallocs
  all_place k d [] rest = refl
  all_place k d (t ∷ ts) rest = grind arith

  pub all_places : (k : ℕ) (ds : List Dimension) (rest : Nest) → deallocs r (places_from p.name k ds rest) ≡ deallocs r rest
  all_places k [] rest = refl
  all_places k (d ∷ ds) rest = all_place k d d.terms (places_from p.name (suc k) ds rest) ∙ all_places (suc k) ds rest

  all_loops : (turn : ℕ → Name) (d : ℕ) (ds : List Dimension) (inner : Nest) → deallocs r inner ≡ 0 → deallocs r (loops turn d ds inner) ≡ 0
  unfolding deallocs
  all_loops turn d [] inner h = h
  all_loops turn d (dim ∷ ds) inner h = let e = all_loops turn (suc d) ds inner h in omega (arith, e)

  pub all_read : (how : How) → deallocs r (read_in p how) ≡ 0
  unfolding deallocs
  all_read Copies = all_loops _ 0 p.dims _ refl
  all_read (Transfers chunks) = refl

  pub all_write : (how : How) → deallocs r (write_out p how) ≡ 0
  unfolding deallocs
  all_write Copies = all_loops _ 0 p.dims _ refl
  all_write (Transfers chunks) = refl

  pub all_so : (b : Bool) (part rest : Nest) → deallocs r part ≡ 0 → deallocs r (where_so p b part rest) ≡ deallocs r rest
  all_so true part rest h = let e = all_followed part rest in omega (arith, e, h)
  all_so false part rest h = refl

  pub all_chunks : (chunks : Option (ℕ × ℕ)) (rest : Nest) → deallocs r (chunk_constants p chunks rest) ≡ deallocs r rest
  unfolding deallocs
  all_chunks None rest = refl
  all_chunks (Some two) rest = omega arith

  pub all_front : (how : How) (rest : Nest) → deallocs r (constants p how (allocs p how rest)) ≡ deallocs r rest
  unfolding deallocs
  all_front Copies rest = omega arith
  all_front (Transfers chunks) rest = let e = all_chunks chunks (allocs p (Transfers chunks) rest) in omega (arith, e)

  module _ (fast : same_name (fast_name p.name) r ≡ false) (tag : same_name (tag_name p.name) r ≡ false) where
    fast_differs : is_dealloc_of r (Dealloc (fast_name p.name) tag_type) ≡ 0
    fast_differs = rw fast refl

    tag_differs : is_dealloc_of r (Dealloc (tag_name p.name) tag_type) ≡ 0
    tag_differs = rw tag refl

    all_free : (how : How) (rest : Nest) → deallocs r (deallocs_of p how rest) ≡ deallocs r rest
    unfolding deallocs
    all_free Copies rest = let f = fast_differs in omega (arith, f)
    all_free (Transfers chunks) rest = let f = fast_differs in let g = tag_differs in omega (arith, f, g)

    all_loop : (line : ℕ) (v : Name) (l u : Bound) (step : ℤ) (body rest : Nest) → deallocs r (staged_loop p (Loop line v l u step body rest) rest) ≡ deallocs r (Loop line v l u step body rest)
    unfolding deallocs
    all_loop line v l u step body rest =
        let inner = Loop line v l u step (mapped (redirect p) body) (behind_loop p rest) in
        let reading = where_so p p.reads (read_in p p.how) inner in
        let a = all_places 0 p.dims (constants p p.how (allocs p p.how reading)) ∙ all_front p.how reading ∙ all_so p.reads (read_in p p.how) inner (all_read p.how) in
        let b = all_mapped body in
        let c = all_so p.writes (write_out p p.how) (deallocs_of p p.how rest) (all_write p.how) ∙ all_free p.how rest in
        omega (arith, a, b, c)

    pub all_staged : (s : Spot) (n : Nest) → IsLoop s n → deallocs r (staged_at p s n) ≡ deallocs r n
    unfolding deallocs
    all_staged s Nothing h = absurd h
    all_staged Here (Loop line v l u step body rest) h = all_loop line v l u step body rest
    all_staged (Behind s) (Loop line v l u step body rest) h = let e = all_staged s rest h in omega (arith, e)
    all_staged (Inside s) (Loop line v l u step body rest) h = let e = all_staged s body h in omega (arith, e)
    all_staged (Other s) (Loop line v l u step body rest) h = absurd h
    all_staged Here (Branch line set ns first has other rest) h = absurd h
    all_staged (Behind s) (Branch line set ns first has other rest) h = let e = all_staged s rest h in omega (arith, e)
    all_staged (Inside s) (Branch line set ns first has other rest) h = let e = all_staged s first h in omega (arith, e)
    all_staged (Other s) (Branch line set ns first has other rest) h = let e = all_staged s other h in omega (arith, e)
    all_staged Here (Does line q rest) h = absurd h
    all_staged (Behind s) (Does line q rest) h = let e = all_staged s rest h in omega (arith, e)
    all_staged (Inside s) (Does line q rest) h = absurd h
    all_staged (Other s) (Does line q rest) h = absurd h

  -- ---- own_deallocs
  pub here_followed : (a b : Nest) → own_deallocs r (followed_by a b) ≡ own_deallocs r a + own_deallocs r b
  unfolding own_deallocs
  here_followed Nothing b = omega arith
  here_followed (Loop line v l u s body rest) b = let e = here_followed rest b in omega (arith, e)
  here_followed (Branch line set ns first has other rest) b = let e = here_followed rest b in omega (arith, e)
  here_followed (Does line q rest) b = let e = here_followed rest b in omega (arith, e)

  pub here_mapped : (n : Nest) → own_deallocs r (mapped (redirect p) n) ≡ own_deallocs r n
  unfolding own_deallocs
  here_mapped Nothing = refl
  here_mapped (Loop line v l u s body rest) = let e = here_mapped rest in let f = here_mapped body in omega (arith, e, f)
  here_mapped (Branch line set ns first has other rest) = let e = here_mapped rest in let f = here_mapped first in let g = here_mapped other in omega (arith, e, f, g)
  here_mapped (Does line q rest) = let e = here_mapped rest in let f = dealloc_redirected q in omega (arith, e, f)

  here_place : (k : ℕ) (d : Dimension) (ts : List (Name × ℤ)) (rest : Nest) → own_deallocs r (place_statement p.name k d ts rest) ≡ own_deallocs r rest
  unfolding own_deallocs
  here_place k d [] rest = refl
  here_place k d (t ∷ ts) rest = grind arith

  pub here_places : (k : ℕ) (ds : List Dimension) (rest : Nest) → own_deallocs r (places_from p.name k ds rest) ≡ own_deallocs r rest
  here_places k [] rest = refl
  here_places k (d ∷ ds) rest = here_place k d d.terms (places_from p.name (suc k) ds rest) ∙ here_places (suc k) ds rest

  here_loops : (turn : ℕ → Name) (d : ℕ) (ds : List Dimension) (inner : Nest) → own_deallocs r inner ≡ 0 → own_deallocs r (loops turn d ds inner) ≡ 0
  unfolding own_deallocs
  here_loops turn d [] inner h = h
  here_loops turn d (dim ∷ ds) inner h = let e = here_loops turn (suc d) ds inner h in omega (arith, e)

  pub here_read : (how : How) → own_deallocs r (read_in p how) ≡ 0
  unfolding own_deallocs
  here_read Copies = here_loops _ 0 p.dims _ refl
  here_read (Transfers chunks) = refl

  pub here_write : (how : How) → own_deallocs r (write_out p how) ≡ 0
  unfolding own_deallocs
  here_write Copies = here_loops _ 0 p.dims _ refl
  here_write (Transfers chunks) = refl

  pub here_so : (b : Bool) (part rest : Nest) → own_deallocs r part ≡ 0 → own_deallocs r (where_so p b part rest) ≡ own_deallocs r rest
  here_so true part rest h = let e = here_followed part rest in omega (arith, e, h)
  here_so false part rest h = refl

  pub here_chunks : (chunks : Option (ℕ × ℕ)) (rest : Nest) → own_deallocs r (chunk_constants p chunks rest) ≡ own_deallocs r rest
  unfolding own_deallocs
  here_chunks None rest = refl
  here_chunks (Some two) rest = omega arith

  pub here_front : (how : How) (rest : Nest) → own_deallocs r (constants p how (allocs p how rest)) ≡ own_deallocs r rest
  unfolding own_deallocs
  here_front Copies rest = omega arith
  here_front (Transfers chunks) rest = let e = here_chunks chunks (allocs p (Transfers chunks) rest) in omega (arith, e)

  module _ (fast : same_name (fast_name p.name) r ≡ false) (tag : same_name (tag_name p.name) r ≡ false) where
    here_free : (how : How) (rest : Nest) → own_deallocs r (deallocs_of p how rest) ≡ own_deallocs r rest
    unfolding own_deallocs
    here_free Copies rest = let f = fast_differs fast tag in omega (arith, f)
    here_free (Transfers chunks) rest = let f = fast_differs fast tag in let g = tag_differs fast tag in omega (arith, f, g)

    here_loop : (line : ℕ) (v : Name) (l u : Bound) (step : ℤ) (body rest : Nest) → own_deallocs r (staged_loop p (Loop line v l u step body rest) rest) ≡ own_deallocs r (Loop line v l u step body rest)
    unfolding own_deallocs
    here_loop line v l u step body rest =
        let inner = Loop line v l u step (mapped (redirect p) body) (behind_loop p rest) in
        let reading = where_so p p.reads (read_in p p.how) inner in
        let a = here_places 0 p.dims (constants p p.how (allocs p p.how reading)) ∙ here_front p.how reading ∙ here_so p.reads (read_in p p.how) inner (here_read p.how) in
        let b = here_mapped body in
        let c = here_so p.writes (write_out p p.how) (deallocs_of p p.how rest) (here_write p.how) ∙ here_free p.how rest in
        omega (arith, a, b, c)

    pub here_staged : (s : Spot) (n : Nest) → IsLoop s n → own_deallocs r (staged_at p s n) ≡ own_deallocs r n
    unfolding own_deallocs
    here_staged s Nothing h = absurd h
    here_staged Here (Loop line v l u step body rest) h = here_loop line v l u step body rest
    here_staged (Behind s) (Loop line v l u step body rest) h = let e = here_staged s rest h in omega (arith, e)
    here_staged (Inside s) (Loop line v l u step body rest) h = let e = here_staged s body h in omega (arith, e)
    here_staged (Other s) (Loop line v l u step body rest) h = absurd h
    here_staged Here (Branch line set ns first has other rest) h = absurd h
    here_staged (Behind s) (Branch line set ns first has other rest) h = let e = here_staged s rest h in omega (arith, e)
    here_staged (Inside s) (Branch line set ns first has other rest) h = let e = here_staged s first h in omega (arith, e)
    here_staged (Other s) (Branch line set ns first has other rest) h = let e = here_staged s other h in omega (arith, e)
    here_staged Here (Does line q rest) h = absurd h
    here_staged (Behind s) (Does line q rest) h = let e = here_staged s rest h in omega (arith, e)
    here_staged (Inside s) (Does line q rest) h = absurd h
    here_staged (Other s) (Does line q rest) h = absurd h

    pub released_staged : (s : Spot) (n : Nest) → IsLoop s n → is_released_once r (staged_at p s n) ≡ is_released_once r n
    unfolding is_released_once
    released_staged s n h = λ i. nat_eq (all_staged fast tag s n h i) 1 && nat_eq (here_staged s n h i) 1

  pub released_mapped : (n : Nest) → is_released_once r (mapped (redirect p) n) ≡ is_released_once r n
  unfolding is_released_once
  released_mapped n = λ i. nat_eq (all_mapped n i) 1 && nat_eq (here_mapped n i) 1
