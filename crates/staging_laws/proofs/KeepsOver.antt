-- What a placement's loop keeps to by its text, it keeps to when another placement is staged.
use Rattle.std.proofs.Common.{◌≡◌, ◌⊎◌, inl, inr, ℕ, zero, suc, List, [], ◌∷◌, sym, ◌∙◌, Bool, true, false}
use Rattle.std.specs.Prelude.{ℤ, Some, None, if◌then◌else◌}
use Rattle.affine_expr.specs.declared.expr.Expr.{Const}
use Rattle.affine_ast.specs.declared.name.Name.{Name}
use Rattle.affine_ast.specs.declared.types.Bound.{Bound}
use Rattle.affine_ast.specs.declared.types.Pick.TheVariants.{Apply, Min, Max}
use Rattle.affine_ast.specs.Names.{same_name}
use Rattle.affine_ast.specs.Nest.{Plain, Nest, Nothing, Loop, Branch, Does, Value, Load, Store, RawLoad, RawStore, Constant, Binary, Cast, Alloc, Dealloc, Start, Wait, Return, followed_by}
use Rattle.direct_meaning.specs.Static.{Env, knows, lower_of, upper_of}
use Rattle.direct_meaning.specs.Turns.{turns}
use Rattle.direct_meaning.specs.Actions.{after_plain, behind}
use Rattle.boxes.specs.Every.{Every}
use Rattle.placement_texts.specs.Mapped.{mapped}
use Rattle.placement_texts.specs.OneTag.{InText}
use Rattle.placement_texts.specs.Template.{Dimension, Placement, How, Copies, Transfers, fast_name, tag_name, least_name, place_name, in_turn, out_turn, fast_type, in_fast, begins, over_terms, form, last_place, value_or_zero, place_statement, places_from, loops, constants, allocs, deallocs, where_so, read_in, write_out, before, behind_loop, redirect}
use Rattle.placement_texts.specs.Spots.{Spot, Here, Behind, Inside, Other, HasLine, Disjoint, found, staged_at}
use Rattle.placement_texts.proofs.Skipped.{Skips, before_skips, behind_skips}
use Rattle.staging_laws.specs.Spared.{Keeps, AtLoop, LoopIn}

-- by the text, so in each visit
pub at_in : (Q : Nest → Type 0) (s : Spot) (n : Nest) (e : Env) → LoopIn Q s n → AtLoop (λ loop e. Q loop) s n e
at_in Q s Nothing e h = tt
at_in Q Here (Loop line v l u step body rest) e h = h
at_in Q (Behind s) (Loop line v l u step body rest) e h = at_in Q s rest (behind body e) h
at_in Q (Inside s) (Loop line v l u step body rest) e h = all (turns (lower_of e l) (upper_of e u) step) (λ t. at_in Q s body (knows e v t) h)
  where
    all : (ts : List ℤ) → ((t : ℤ) → AtLoop (λ loop e. Q loop) s body (knows e v t)) → Every (λ t. AtLoop (λ loop e. Q loop) s body (knows e v t)) ts
    all [] k = tt
    all (t ∷ ts) k = (k t, all ts k)
at_in Q (Other s) (Loop line v l u step body rest) e h = tt
at_in Q Here (Branch line set ns first has other rest) e h = tt
at_in Q (Behind s) (Branch line set ns first has other rest) e h = at_in Q s rest (behind other (behind first e)) h
at_in Q (Inside s) (Branch line set ns first has other rest) e h = λ t. at_in Q s first e h
at_in Q (Other s) (Branch line set ns first has other rest) e h = λ t. at_in Q s other (behind first e) h
at_in Q (Behind s) (Does line q rest) e h = at_in Q s rest (after_plain q e) h
at_in Q Here (Does line q rest) e h = tt
at_in Q (Inside s) (Does line q rest) e h = tt
at_in Q (Other s) (Does line q rest) e h = tt

-- o's loop, when p is staged
module _ (o p : Placement) (fast : same_name o.memref (fast_name p.name) ≡ false) where
  abbrev Q : Nest → Type 0
  Q n = InText (Keeps o) n

  never : (b : Bool) → b ≡ false → {A : Type 0} → b ≡ true → A
  never b e h = absurd (let z : false ≡ true = sym e ∙ h in cc)

  keep_redirect : (q : Plain) → Keeps o q → Keeps o (redirect p q)
  keep_redirect (Load r m at ty) h = one (same_name p.memref m)
    where
      one : (b : Bool) → Keeps o (if b then Load r (fast_name p.name) (in_fast (begins p) at) (fast_type p) else Load r m at ty)
      one true = λ e. never (same_name o.memref (fast_name p.name)) fast e
      one false = h
  keep_redirect (Store x m at ty) h = one (same_name p.memref m)
    where
      one : (b : Bool) → Keeps o (if b then Store x (fast_name p.name) (in_fast (begins p) at) (fast_type p) else Store x m at ty)
      one true = λ e. never (same_name o.memref (fast_name p.name)) fast e
      one false = h
  keep_redirect (Value r pick at) h = h
  keep_redirect (RawLoad r m at ty) h = h
  keep_redirect (RawStore x m at ty) h = h
  keep_redirect (Constant r z ty) h = h
  keep_redirect (Binary r op a b ty) h = h
  keep_redirect (Cast r kind x from to) h = h
  keep_redirect (Alloc r ty) h = h
  keep_redirect (Dealloc m ty) h = h
  keep_redirect (Start a a_at b b_at t t_at n stride types) h = h
  keep_redirect (Wait t at n ty) h = h
  keep_redirect Return h = h

  keep_mapped : (n : Nest) → Q n → Q (mapped (redirect p) n)
  keep_mapped Nothing h = tt
  keep_mapped (Loop line v l u s body rest) h = (keep_mapped body h.0, keep_mapped rest h.1)
  keep_mapped (Branch line set ns first has other rest) h = (keep_mapped first h.0, keep_mapped other h.1, keep_mapped rest h.2)
  keep_mapped (Does line q rest) h = (keep_redirect q h.0, keep_mapped rest h.1)

  -- ---- the template, of another memref
  module _ (differ : same_name o.memref p.memref ≡ false) where
    load_differs : {A : Type 0} → same_name o.memref p.memref ≡ true → A
    load_differs e = never (same_name o.memref p.memref) differ e

    fast_differs : {A : Type 0} → same_name o.memref (fast_name p.name) ≡ true → A
    fast_differs e = never (same_name o.memref (fast_name p.name)) fast e

    loops_keep : (turn : ℕ → Name) (d : ℕ) (dims : List Dimension) (inner : Nest) → Q inner → Q (loops turn d dims inner)
    loops_keep turn d [] inner h = h
    loops_keep turn d (dim ∷ dims) inner h = (loops_keep turn (suc d) dims inner h, tt)

    followed_loops : (turn : ℕ → Name) (d : ℕ) (dims : List Dimension) (inner rest : Nest) → Q inner → Q (followed_by inner rest) → Q rest → Q (followed_by (loops turn d dims inner) rest)
    followed_loops turn d [] inner rest h k r = k
    followed_loops turn d (dim ∷ dims) inner rest h k r = (loops_keep turn (suc d) dims inner h, r)

    in_keeps : (how : How) (rest : Nest) → Q rest → Q (followed_by (read_in p how) rest)
    in_keeps Copies rest h = followed_loops (in_turn p.name) 0 p.dims _ rest ((λ e. load_differs e), ((λ e. fast_differs e), tt)) ((λ e. load_differs e), ((λ e. fast_differs e), h)) h
    in_keeps (Transfers chunks) rest h = ((differ, fast), (tt, h))

    out_keeps : (how : How) (rest : Nest) → Q rest → Q (followed_by (write_out p how) rest)
    out_keeps Copies rest h = followed_loops (out_turn p.name) 0 p.dims _ rest ((λ e. fast_differs e), ((λ e. load_differs e), tt)) ((λ e. fast_differs e), ((λ e. load_differs e), h)) h
    out_keeps (Transfers chunks) rest h = ((fast, differ), (tt, h))

    so_in : (b : Bool) (how : How) (rest : Nest) → Q rest → Q (where_so p b (read_in p how) rest)
    so_in true how rest h = in_keeps how rest h
    so_in false how rest h = h

    so_out : (b : Bool) (how : How) (rest : Nest) → Q rest → Q (where_so p b (write_out p how) rest)
    so_out true how rest h = out_keeps how rest h
    so_out false how rest h = h

    allocs_keep : (how : How) (rest : Nest) → Q rest → Q (allocs p how rest)
    allocs_keep Copies rest h = (tt, h)
    allocs_keep (Transfers chunks) rest h = (tt, (tt, h))

    deallocs_keep : (how : How) (rest : Nest) → Q rest → Q (deallocs p how rest)
    deallocs_keep Copies rest h = (tt, h)
    deallocs_keep (Transfers chunks) rest h = (tt, (tt, h))

    constants_keep : (how : How) (rest : Nest) → Q rest → Q (constants p how rest)
    constants_keep Copies rest h = h
    constants_keep (Transfers None) rest h = (tt, h)
    constants_keep (Transfers (Some two)) rest h = (tt, (tt, (tt, h)))

    place_keeps : (k : ℕ) (d : Dimension) (ts : List (Name × ℤ)) (rest : Nest) → Q rest → Q (place_statement p.name k d ts rest)
    place_keeps k d [] rest h = h
    place_keeps k d (t ∷ ts) rest h = one d.clamped
      where
        one : (b : Bool) → Q (if b
            then Does 0 (Value (least_name p.name k) Min (over_terms (t ∷ ts) (form (t ∷ ts) d.offset ∷ Const (last_place d) ∷ []))) (Does 0 (Value (place_name p.name k) Max (value_or_zero (least_name p.name k))) rest)
            else Does 0 (Value (place_name p.name k) Apply (over_terms (t ∷ ts) (form (t ∷ ts) d.offset ∷ []))) rest)
        one true = (tt, (tt, h))
        one false = (tt, h)

    places_keep : (k : ℕ) (ds : List Dimension) (rest : Nest) → Q rest → Q (places_from p.name k ds rest)
    places_keep k [] rest h = h
    places_keep k (d ∷ ds) rest h = place_keeps k d d.terms (places_from p.name (suc k) ds rest) (places_keep (suc k) ds rest h)

    before_keeps : (rest : Nest) → Q rest → Q (before p rest)
    before_keeps rest h =
        let so = where_so p p.reads (read_in p p.how) rest in
        places_keep 0 p.dims (constants p p.how (allocs p p.how so)) (constants_keep p.how (allocs p p.how so) (allocs_keep p.how so (so_in p.reads p.how rest h)))

    behind_keeps : (rest : Nest) → Q rest → Q (behind_loop p rest)
    behind_keeps rest h = so_out p.writes p.how (deallocs p p.how rest) (deallocs_keep p.how rest h)

    keep_staged : (s : Spot) (n : Nest) → Q n → Q (staged_at p s n)
    keep_staged s Nothing h = tt
    keep_staged Here (Loop line v l u step body rest) h = before_keeps (Loop line v l u step (mapped (redirect p) body) (behind_loop p rest)) (keep_mapped body h.0, behind_keeps rest h.1)
    keep_staged (Behind s) (Loop line v l u step body rest) h = (h.0, keep_staged s rest h.1)
    keep_staged (Inside s) (Loop line v l u step body rest) h = (keep_staged s body h.0, h.1)
    keep_staged (Other s) (Loop line v l u step body rest) h = h
    keep_staged Here (Branch line set ns first has other rest) h = h
    keep_staged (Behind s) (Branch line set ns first has other rest) h = (h.0, h.1, keep_staged s rest h.2)
    keep_staged (Inside s) (Branch line set ns first has other rest) h = (keep_staged s first h.0, h.1, h.2)
    keep_staged (Other s) (Branch line set ns first has other rest) h = (h.0, keep_staged s other h.1, h.2)
    keep_staged (Behind s) (Does line q rest) h = (h.0, keep_staged s rest h.1)
    keep_staged Here (Does line q rest) h = h
    keep_staged (Inside s) (Does line q rest) h = h
    keep_staged (Other s) (Does line q rest) h = h

  -- ---- o's loop, found again
  abbrev K : Spot → Nest → Type 0
  K t n = LoopIn Q (found t n) n

  any_env : Env
  any_env = record { known = λ n. None; home = λ n. None; fasts = 0; tags = 0 }

  skips : (t : Spot) → Skips (tag_name p.name) (λ n e. K t n)
  skips t = record { does = λ q rest g s k. k; loop = λ v l u step body rest g s k. k }

  found_mapped : (t : Spot) (n : Nest) → K t n → K t (mapped (redirect p) n)
  found_mapped t Nothing h = tt
  found_mapped t (Loop zero v l u step body rest) h = found_mapped t rest h
  found_mapped t (Branch zero set ns first has other rest) h = found_mapped t rest h
  found_mapped t (Does zero q rest) h = found_mapped t rest h
  found_mapped Here (Loop (suc line) v l u step body rest) h = (keep_mapped body h.0, tt)
  found_mapped (Behind t) (Loop (suc line) v l u step body rest) h = found_mapped t rest h
  found_mapped (Inside t) (Loop (suc line) v l u step body rest) h = found_mapped t body h
  found_mapped (Other t) (Loop (suc line) v l u step body rest) h = tt
  found_mapped Here (Branch (suc line) set ns first has other rest) h = tt
  found_mapped (Behind t) (Branch (suc line) set ns first has other rest) h = found_mapped t rest h
  found_mapped (Inside t) (Branch (suc line) set ns first has other rest) h = found_mapped t first h
  found_mapped (Other t) (Branch (suc line) set ns first has other rest) h = found_mapped t other h
  found_mapped (Behind t) (Does (suc line) q rest) h = found_mapped t rest h
  found_mapped Here (Does (suc line) q rest) h = tt
  found_mapped (Inside t) (Does (suc line) q rest) h = tt
  found_mapped (Other t) (Does (suc line) q rest) h = tt

  module _ (tag_memref : same_name (tag_name p.name) p.memref ≡ false) (tag_fast : same_name (tag_name p.name) (fast_name p.name) ≡ false) where
    abbrev Apart : Spot → Spot → Nest → Type 0
    Apart t s n = (same_name o.memref p.memref ≡ false) ⊎ Disjoint (found t n) s

    at_loop : (t : Spot) (line : ℕ) (v : Name) (l u : Bound) (step : ℤ) (body rest : Nest) → Apart t Here (Loop (suc line) v l u step body rest) → K t (Loop (suc line) v l u step body rest) → K t (Loop (suc line) v l u step (mapped (redirect p) body) (behind_loop p rest))
    at_loop Here line v l u step body rest a h = (keep_mapped body h.0, tt)
    at_loop (Behind t) line v l u step body rest a h = behind_skips (tag_name p.name) (λ n e. K t n) (skips t) p tag_memref tag_fast rest any_env h
    at_loop (Inside t) line v l u step body rest a h = found_mapped t body h
    at_loop (Other t) line v l u step body rest a h = tt

    pub keeps_over : (t s : Spot) (n : Nest) → HasLine s n → Apart t s n → K t n → K t (staged_at p s n)
    keeps_over t s Nothing i a h = tt
    keeps_over t Here (Loop zero v l u step body rest) i a h = absurd i
    keeps_over t Here (Loop (suc line) v l u step body rest) i a h =
        before_skips (tag_name p.name) (λ n e. K t n) (skips t) p tag_memref tag_fast (Loop (suc line) v l u step (mapped (redirect p) body) (behind_loop p rest)) any_env (at_loop t line v l u step body rest a h)
    keeps_over t (Behind s) (Loop zero v l u step body rest) i a h = keeps_over t s rest i a h
    keeps_over t (Inside s) (Loop zero v l u step body rest) i a h = h
    keeps_over t (Other s) (Loop zero v l u step body rest) i a h = h
    keeps_over Here (Behind s) (Loop (suc line) v l u step body rest) i a h = h
    keeps_over (Behind t) (Behind s) (Loop (suc line) v l u step body rest) i a h = keeps_over t s rest i a h
    keeps_over (Inside t) (Behind s) (Loop (suc line) v l u step body rest) i a h = h
    keeps_over (Other t) (Behind s) (Loop (suc line) v l u step body rest) i a h = tt
    keeps_over Here (Inside s) (Loop (suc line) v l u step body rest) i (inl d) h = (keep_staged d s body h.0, tt)
    keeps_over Here (Inside s) (Loop (suc line) v l u step body rest) i (inr d) h = absurd d
    keeps_over (Behind t) (Inside s) (Loop (suc line) v l u step body rest) i a h = h
    keeps_over (Inside t) (Inside s) (Loop (suc line) v l u step body rest) i a h = keeps_over t s body i a h
    keeps_over (Other t) (Inside s) (Loop (suc line) v l u step body rest) i a h = tt
    keeps_over t (Other s) (Loop (suc line) v l u step body rest) i a h = h
    keeps_over t Here (Branch line set ns first has other rest) i a h = h
    keeps_over t (Behind s) (Branch zero set ns first has other rest) i a h = keeps_over t s rest i a h
    keeps_over t (Inside s) (Branch zero set ns first has other rest) i a h = h
    keeps_over t (Other s) (Branch zero set ns first has other rest) i a h = h
    keeps_over Here (Behind s) (Branch (suc line) set ns first has other rest) i a h = tt
    keeps_over (Behind t) (Behind s) (Branch (suc line) set ns first has other rest) i a h = keeps_over t s rest i a h
    keeps_over (Inside t) (Behind s) (Branch (suc line) set ns first has other rest) i a h = h
    keeps_over (Other t) (Behind s) (Branch (suc line) set ns first has other rest) i a h = h
    keeps_over Here (Inside s) (Branch (suc line) set ns first has other rest) i a h = tt
    keeps_over (Behind t) (Inside s) (Branch (suc line) set ns first has other rest) i a h = h
    keeps_over (Inside t) (Inside s) (Branch (suc line) set ns first has other rest) i a h = keeps_over t s first i a h
    keeps_over (Other t) (Inside s) (Branch (suc line) set ns first has other rest) i a h = h
    keeps_over Here (Other s) (Branch (suc line) set ns first has other rest) i a h = tt
    keeps_over (Behind t) (Other s) (Branch (suc line) set ns first has other rest) i a h = h
    keeps_over (Inside t) (Other s) (Branch (suc line) set ns first has other rest) i a h = h
    keeps_over (Other t) (Other s) (Branch (suc line) set ns first has other rest) i a h = keeps_over t s other i a h
    keeps_over t (Behind s) (Does zero q rest) i a h = keeps_over t s rest i a h
    keeps_over Here (Behind s) (Does (suc line) q rest) i a h = tt
    keeps_over (Behind t) (Behind s) (Does (suc line) q rest) i a h = keeps_over t s rest i a h
    keeps_over (Inside t) (Behind s) (Does (suc line) q rest) i a h = tt
    keeps_over (Other t) (Behind s) (Does (suc line) q rest) i a h = tt
    keeps_over t Here (Does line q rest) i a h = h
    keeps_over t (Inside s) (Does line q rest) i a h = h
    keeps_over t (Other s) (Does line q rest) i a h = h
