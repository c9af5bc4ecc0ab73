-- What stands ready for the copies: the memref, the fast memref, the values that say where the box begins, and for transfers
-- the tags and the constants.
use Rattle.std.proofs.Common.{◌≡◌, ℕ, suc, ◌+◌, ◌*◌, ℤ, pos, List, [], ◌∷◌, ◌++◌, replicate, refl, sym, ap, ◌∙◌, arith, Bool, false}
use Rattle.std.specs.Prelude.{Option, Some, None}
use Rattle.affine_ast.specs.declared.name.Name.{Name}
use Rattle.affine_ast.specs.Names.{same_name, put}
use Rattle.affine_ast.specs.Nest.{Nest}
use Rattle.affine_ast.specs.Sizes.{product}
use Rattle.direct_meaning.specs.Action.{SlowMemref, FastMemref, TagMemref, Known, Allocates, AllocatesTags}
use Rattle.direct_meaning.specs.Static.{Env, knows, number}
use Rattle.direct_meaning.specs.Actions.{action_of, after_plain, dealloc_of, actions}
use Rattle.boxes.specs.Boxes.{Side}
use Rattle.placement_texts.specs.Boxes.{extents_of}
use Rattle.placement_texts.specs.Labels.{Numbers}
use Rattle.placement_texts.specs.Own.{MadeNames}
use Rattle.placement_texts.specs.Template.{How, Copies, Transfers, Placement, dim_extents, fast_type, tag_type, fast_name, tag_name, count_name, stride_name, chunk_name, in_value, out_value, Dimension, Begin, Fixed, Named, begin, begins_from, begins, chunk_constants, constants, allocs, deallocs, chunk_count, constant_count}
use Rattle.placement_texts.specs.Parts.{allocating, releasing}
use Rattle.placement_texts.proofs.Subscripts.{begin_numbers}
use Rattle.placement_texts.proofs.PlaceRun.{other_name}
use Rattle.placement_texts.proofs.Redirect.{span_places}

-- what is known behind the constants and the allocations
module _ (p : Placement) where
  abbrev pub chunk_env : Option (ℕ × ℕ) → Env → Env
  chunk_env None g = g
  chunk_env (Some two) g = knows (knows g (stride_name p.name) (pos two.0)) (chunk_name p.name) (pos two.1)

  abbrev pub constants_env : How → Env → Env
  constants_env Copies g = g
  constants_env (Transfers chunks) g = chunk_env chunks (knows g (count_name p.name) (pos (product (dim_extents p.dims))))

  abbrev pub allocs_env : How → Env → Env
  allocs_env Copies g = record g { home = put g.home (fast_name p.name) (Some (FastMemref g.fasts)); fasts = suc g.fasts }
  allocs_env (Transfers chunks) g = record g { home = put (put g.home (fast_name p.name) (Some (FastMemref g.fasts))) (tag_name p.name) (Some (TagMemref g.tags)); fasts = suc g.fasts; tags = g.tags + 1 }

module _ (own : Name → Bool) (p : Placement) (names : MadeNames own p.name) where
  -- the two names are different
  pub differ : (i j : ℕ) → (i ≡ j → ⊥) → same_name (p.name i) (p.name j) ≡ false
  differ i j ne = other_name p.name own names i j ne

module _ (own : Name → Bool) (p : Placement) (names : MadeNames own p.name) (order first : ℕ) (new : Numbers) (spans : List Side) where
  abbrev n_ : ℕ → Name
  n_ = p.name

  -- a made name that no copy writes
  abbrev pub Steady : Name → Type 0
  Steady n = (own n ≡ false) × (same_name (in_value n_) n ≡ false) × (same_name (out_value n_) n ≡ false)

  steady_at : (i : ℕ) → (5 ≡ i → ⊥) → (6 ≡ i → ⊥) → Steady (n_ i)
  steady_at i a b = (names.made i, differ own p names 5 i a, differ own p names 6 i b)

  abbrev pub AllSteady : List Begin → Type 0
  AllSteady [] = Unit {0}
  AllSteady (Fixed z ∷ bs) = AllSteady bs
  AllSteady (Named n ∷ bs) = Steady n × AllSteady bs

  begin_steady : (k : ℕ) (d : Dimension) (ts : List (Name × ℤ)) (bs : List Begin) → AllSteady bs → AllSteady (begin n_ k d ts ∷ bs)
  begin_steady k d [] bs h = h
  begin_steady k d (t ∷ ts) bs h = (steady_at (7 + 4 * k) (λ e. omega (arith, e)) (λ e. omega (arith, e)), h)

  begins_steady : (k : ℕ) (ds : List Dimension) → AllSteady (begins_from n_ k ds)
  begins_steady k [] = tt
  begins_steady k (d ∷ ds) = begin_steady k d d.terms (begins_from n_ (suc k) ds) (begins_steady (suc k) ds)

  abbrev ChunksKnown : Option (ℕ × ℕ) → Env → Type 0
  ChunksKnown None h = Unit {0}
  ChunksKnown (Some two) h = (h.known (stride_name n_) ≡ Some (pos two.0)) × (h.known (chunk_name n_) ≡ Some (pos two.1))

  pub record Transfer (chunks : Option (ℕ × ℕ)) (h : Env) : Type 0 where
    pub tag_home : h.home (tag_name n_) ≡ Some (TagMemref new.tag)
    pub count : h.known (count_name n_) ≡ Some (pos (product (dim_extents p.dims)))
    pub chunks_known : ChunksKnown chunks h

  abbrev pub WaysReady : How → Env → Type 0
  WaysReady Copies h = Unit {0}
  WaysReady (Transfers chunks) h = Transfer chunks h

  pub record Ready (h : Env) : Type 0 where
    pub slow_home : h.home p.memref ≡ Some (SlowMemref order first)
    pub fast_home : h.home (fast_name n_) ≡ Some (FastMemref new.fast)
    pub places : begin_numbers h (begins p) ≡ span_places spans
    pub ways : WaysReady p.how h

  -- it stays so, where what the steady names stand for stays
  module _ (h h' : Env) (known : (n : Name) → Steady n → h'.known n ≡ h.known n) (home : (n : Name) → own n ≡ false → h'.home n ≡ h.home n) where
    begins_stay : (bs : List Begin) → AllSteady bs → begin_numbers h' bs ≡ begin_numbers h bs
    begins_stay [] s = refl
    begins_stay (Fixed z ∷ bs) s = ap (λ l. z ∷ l) (begins_stay bs s)
    begins_stay (Named n ∷ bs) s = λ i. number (known n s.0 i) ∷ begins_stay bs s.1 i

    chunks_stay : (chunks : Option (ℕ × ℕ)) → ChunksKnown chunks h → ChunksKnown chunks h'
    chunks_stay None s = tt
    chunks_stay (Some two) s = (known (stride_name n_) (steady_at 3 (λ e. omega (arith, e)) (λ e. omega (arith, e))) ∙ s.0, known (chunk_name n_) (steady_at 4 (λ e. omega (arith, e)) (λ e. omega (arith, e))) ∙ s.1)

    ways_stay : (how : How) → WaysReady how h → WaysReady how h'
    ways_stay Copies s = tt
    ways_stay (Transfers chunks) s = record {
      tag_home = home (tag_name n_) (names.made 1) ∙ s.tag_home;
      count = known (count_name n_) (steady_at 2 (λ e. omega (arith, e)) (λ e. omega (arith, e))) ∙ s.count;
      chunks_known = chunks_stay chunks s.chunks_known;
    }

    pub ready_stays : h'.home p.memref ≡ h.home p.memref → Ready h → Ready h'
    ready_stays slow r = record {
      slow_home = slow ∙ r.slow_home;
      fast_home = home (fast_name n_) (names.made 0) ∙ r.fast_home;
      places = begins_stay (begins p) (begins_steady 0 p.dims) ∙ r.places;
      ways = ways_stay p.how r.ways;
    }

  -- ---- constants
  chunks_run : (chunks : Option (ℕ × ℕ)) (rest : Nest) (g : Env) → actions (chunk_constants p chunks rest) g ≡ replicate (chunk_count p chunks) Known ++ actions rest (chunk_env p chunks g)
  unfolding actions action_of after_plain
  chunks_run None rest g = refl
  chunks_run (Some two) rest g = refl

  pub constants_run : (how : How) (rest : Nest) (g : Env) → actions (constants p how rest) g ≡ replicate (constant_count p how) Known ++ actions rest (constants_env p how g)
  unfolding actions action_of after_plain
  constants_run Copies rest g = refl
  constants_run (Transfers chunks) rest g = ap (λ l. Known ∷ l) (chunks_run chunks rest (knows g (count_name n_) (pos (product (dim_extents p.dims)))))

  -- ---- allocations
  pub allocs_run : (how : How) (rest : Nest) (g : Env) → g.fasts ≡ new.fast → g.tags ≡ new.tag → extents_of spans ≡ dim_extents p.dims
      → actions (allocs p how rest) g ≡ allocating p order first new how spans ++ actions rest (allocs_env p how g)
  unfolding actions action_of after_plain
  allocs_run Copies rest g f t es = λ i. Allocates (f i) p.element (1 ∷ sym es i) ∷ actions rest (allocs_env p Copies g)
  allocs_run (Transfers chunks) rest g f t es = λ i. Allocates (f i) p.element (1 ∷ sym es i) ∷ AllocatesTags (t i) 1 ∷ actions rest (allocs_env p (Transfers chunks) g)

  pub deallocs_run : (how : How) (rest : Nest) (g : Env) → g.home (fast_name n_) ≡ Some (FastMemref new.fast) → WaysReady how g → extents_of spans ≡ dim_extents p.dims
      → actions (deallocs p how rest) g ≡ releasing p order first new how spans ++ actions rest g
  unfolding actions action_of after_plain
  deallocs_run Copies rest g f w es = λ i. dealloc_of (f i) (record (fast_type p) { sizes = 1 ∷ sym es i }) ∷ actions rest g
  deallocs_run (Transfers chunks) rest g f w es = λ i. dealloc_of (f i) (record (fast_type p) { sizes = 1 ∷ sym es i }) ∷ dealloc_of (w.tag_home i) tag_type ∷ actions rest g
