-- Where each memref of tags that is released has one element, so it is in the text in which a memref is staged.
use Rattle.std.proofs.Common.{ℕ, suc, ℤ, List, [], ◌∷◌, refl, Bool, true, false}
use Rattle.std.specs.Prelude.{Option, Some, None, if◌then◌else◌}
use Rattle.affine_ast.specs.declared.name.Name.{Name}
use Rattle.affine_ast.specs.declared.types.Bound.{Bound}
use Rattle.affine_ast.specs.Names.{same_name}
use Rattle.affine_ast.specs.Nest.{Plain, Nest, Nothing, Loop, Branch, Does, Value, Load, Store, RawLoad, RawStore, Constant, Binary, Cast, Alloc, Dealloc, Start, Wait, Return, followed_by}
use Rattle.placement_texts.specs.Mapped.{mapped}
use Rattle.placement_texts.specs.Template.{How, Copies, Transfers, Placement, Dimension, fast_name, fast_type, place_statement, places_from, loops, read_in, write_out, chunk_constants, constants, allocs, deallocs, where_so, redirect, staged_loop}
use Rattle.placement_texts.specs.Spots.{Spot, Here, Behind, Inside, Other, staged_at}
use Rattle.placement_texts.specs.OneTag.{InText}
use Rattle.placement_aside.specs.Law.{ReleaseIsOne}

abbrev T : Nest → Type 0
T n = InText ReleaseIsOne n

followed : (a b : Nest) → T a → T b → T (followed_by a b)
followed Nothing b h k = k
followed (Loop line v l u s body rest) b h k = (h.0, followed rest b h.1 k)
followed (Branch line set ns first has other rest) b h k = (h.0, h.1, followed rest b h.2 k)
followed (Does line q rest) b h k = (h.0, followed rest b h.1 k)

by_test : (t : Bool) (x y : Plain) → ReleaseIsOne x → ReleaseIsOne y → ReleaseIsOne (if t then x else y)
by_test true x y h k = h
by_test false x y h k = k

either : (t : Bool) (x y : Nest) → T x → T y → T (if t then x else y)
either true x y h k = h
either false x y h k = k

module _ (p : Placement) where
  redirected : (q : Plain) → ReleaseIsOne q → ReleaseIsOne (redirect p q)
  redirected (Load r m at ty) h = by_test (same_name p.memref m) _ (Load r m at ty) tt tt
  redirected (Store x m at ty) h = by_test (same_name p.memref m) _ (Store x m at ty) tt tt
  redirected (Value r pick at) h = tt
  redirected (RawLoad r m at ty) h = tt
  redirected (RawStore x m at ty) h = tt
  redirected (Constant r z ty) h = tt
  redirected (Binary r op x y ty) h = tt
  redirected (Cast r kind x from to) h = tt
  redirected (Alloc r ty) h = tt
  redirected (Dealloc m ty) h = h
  redirected (Start a a_at b b_at t t_at n stride types) h = tt
  redirected (Wait t at n ty) h = tt
  redirected Return h = tt

  in_loop : (n : Nest) → T n → T (mapped (redirect p) n)
  in_loop Nothing h = tt
  in_loop (Loop line v l u s body rest) h = (in_loop body h.0, in_loop rest h.1)
  in_loop (Branch line set ns first has other rest) h = (in_loop first h.0, in_loop other h.1, in_loop rest h.2)
  in_loop (Does line q rest) h = (redirected q h.0, in_loop rest h.1)

  in_loops : (turn : ℕ → Name) (k : ℕ) (ds : List Dimension) (inner : Nest) → T inner → T (loops turn k ds inner)
  in_loops turn k [] inner h = h
  in_loops turn k (d ∷ ds) inner h = (in_loops turn (suc k) ds inner h, tt)

  reading : (how : How) → T (read_in p how)
  reading Copies = in_loops _ 0 p.dims _ (tt, (tt, tt))
  reading (Transfers chunks) = (tt, (tt, tt))

  writing : (how : How) → T (write_out p how)
  writing Copies = in_loops _ 0 p.dims _ (tt, (tt, tt))
  writing (Transfers chunks) = (tt, (tt, tt))

  so : (b : Bool) (part rest : Nest) → T part → T rest → T (where_so p b part rest)
  so true part rest h k = followed part rest h k
  so false part rest h k = k

  place : (k : ℕ) (d : Dimension) (ts : List (Name × ℤ)) (rest : Nest) → T rest → T (place_statement p.name k d ts rest)
  place k d [] rest h = h
  place k d (t ∷ ts) rest h = either d.clamped _ _ (tt, (tt, h)) (tt, h)

  places : (k : ℕ) (ds : List Dimension) (rest : Nest) → T rest → T (places_from p.name k ds rest)
  places k [] rest h = h
  places k (d ∷ ds) rest h = place k d d.terms (places_from p.name (suc k) ds rest) (places (suc k) ds rest h)

  chunks_ : (chunks : Option (ℕ × ℕ)) (rest : Nest) → T rest → T (chunk_constants p chunks rest)
  chunks_ None rest h = h
  chunks_ (Some two) rest h = (tt, (tt, h))

  constants_ : (how : How) (rest : Nest) → T rest → T (constants p how rest)
  constants_ Copies rest h = h
  constants_ (Transfers chunks) rest h = (tt, chunks_ chunks rest h)

  allocs_ : (how : How) (rest : Nest) → T rest → T (allocs p how rest)
  allocs_ Copies rest h = (tt, h)
  allocs_ (Transfers chunks) rest h = (tt, (tt, h))

  fast : ReleaseIsOne (Dealloc (fast_name p.name) (fast_type p))
  fast e = absurd (let z : ⊥ = cc in z)

  deallocs_ : (how : How) (rest : Nest) → T rest → T (deallocs p how rest)
  deallocs_ Copies rest h = (fast, h)
  deallocs_ (Transfers chunks) rest h = (fast, ((λ e. refl), h))

  at_loop : (line : ℕ) (v : Name) (l u : Bound) (s : ℤ) (body rest : Nest) → T body → T rest → T (staged_loop p (Loop line v l u s body rest) rest)
  at_loop line v l u s body rest h k =
      places 0 p.dims _ (constants_ p.how _ (allocs_ p.how _ (so p.reads (read_in p p.how) _ (reading p.how) (in_loop body h, so p.writes (write_out p p.how) _ (writing p.how) (deallocs_ p.how rest k)))))

  pub release_staged : (s : Spot) (n : Nest) → InText ReleaseIsOne n → InText ReleaseIsOne (staged_at p s n)
  release_staged s Nothing h = tt
  release_staged Here (Loop line v l u step body rest) h = at_loop line v l u step body rest h.0 h.1
  release_staged (Behind s) (Loop line v l u step body rest) h = (h.0, release_staged s rest h.1)
  release_staged (Inside s) (Loop line v l u step body rest) h = (release_staged s body h.0, h.1)
  release_staged (Other s) (Loop line v l u step body rest) h = h
  release_staged Here (Branch line set ns first has other rest) h = h
  release_staged (Behind s) (Branch line set ns first has other rest) h = (h.0, h.1, release_staged s rest h.2)
  release_staged (Inside s) (Branch line set ns first has other rest) h = (release_staged s first h.0, h.1, h.2)
  release_staged (Other s) (Branch line set ns first has other rest) h = (h.0, release_staged s other h.1, h.2)
  release_staged (Behind s) (Does line q rest) h = (h.0, release_staged s rest h.1)
  release_staged Here (Does line q rest) h = h
  release_staged (Inside s) (Does line q rest) h = h
  release_staged (Other s) (Does line q rest) h = h
