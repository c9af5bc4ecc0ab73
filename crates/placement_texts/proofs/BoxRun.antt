-- The loop with the template round it: its actions are those of the loop, with the box in the fast memref, and the template's
-- round them.
use Rattle.std.proofs.Common.{◌≡◌, ℕ, suc, ◌+◌, ◌*◌, ◌<◌, ◌≤◌, ℤ, pos, List, [], ◌∷◌, ◌++◌, replicate, refl, sym, ap, ◌∙◌, subst, arith, Bool, true, false, map}
use Rattle.std.specs.Prelude.{Option, Some, None, nat_lt, flat_map}
use Rattle.std.proofs.lemmas.List.{append_assoc, append-nil}
use Rattle.std.proofs.lemmas.Bool.{lt-ltb}
use Rattle.affine_ast.specs.declared.name.Name.{Name}
use Rattle.affine_ast.specs.declared.types.Bound.{Bound}
use Rattle.affine_ast.specs.Names.{same_name}
use Rattle.affine_ast.specs.Nest.{Plain, Nest, Nothing, Loop}
use Rattle.affine_ast.specs.Sizes.{product}
use Rattle.affine_ast.proofs.Names.{same_name-refl, put-same, put-other}
use Rattle.direct_meaning.specs.Turns.{turns}
use Rattle.direct_meaning.specs.Action.{SlowMemref, FastMemref, TagMemref, Action, Known}
use Rattle.direct_meaning.specs.Static.{Env, knows, number, lower_of, upper_of}
use Rattle.direct_meaning.specs.Actions.{fasts_in, tags_in, behind, actions}
use Rattle.direct_meaning.proofs.Laws.{actions-Loop, actions-Nothing}
use Rattle.boxes.specs.Boxes.{Side}
use Rattle.placement_texts.specs.Boxes.{sizes_of, HasElements}
use Rattle.placement_texts.specs.Labels.{Numbers, moved_up, home_up, action_in_box}
use Rattle.placement_texts.specs.Own.{OwnNest, MadeNames}
use Rattle.placement_texts.specs.Each.{Each}
use Rattle.placement_texts.specs.Mapped.{mapped}
use Rattle.placement_texts.specs.Template.{How, Copies, Transfers, Placement, Dimension, dim_sizes, dim_extents, fast_name, tag_name, count_name, stride_name, chunk_name, Begin, begin, begins_from, places_count, constants, allocs, read_in, write_out, where_so, tags_made, constant_count, behind_loop, redirect, staged_loop, deallocs}
use Rattle.placement_texts.specs.Regions.{place_number, spans_at, OwnDims, PlacesLie, ReachesBox, Tidy}
use Rattle.placement_texts.specs.Parts.{allocating, releasing, reading, writing, only_if, boxed}
use Rattle.placement_texts.proofs.Follows.{Shifts, Follows, behind_follows, apart_own}
use Rattle.placement_texts.proofs.Nested.{mapped_actions, fasts_mapped, tags_mapped}
use Rattle.placement_texts.proofs.Subscripts.{begin_number, begin_numbers}
use Rattle.placement_texts.proofs.PlaceRun.{places_env, places_run, places_homes, places_follow, places_begin, place_numbers, sym_false, more_known}
use Rattle.placement_texts.proofs.Redirect.{sizes_at, extents_at, lies_at, gap_pos, span_places, MadeBegins, Stands, redirect_acts, redirect_after, redirect_fasts, redirect_tags}
use Rattle.placement_texts.proofs.Ready.{differ, Ready, WaysReady, Transfer, ready_stays, constants_env, chunk_env, allocs_env, constants_run, allocs_run, deallocs_run}
use Rattle.placement_texts.proofs.WaysRun.{Passed, so_env, read_run, write_run, read_passes, write_passes}

-- numbers from the new one on move up, others stay
pub up_from : (from count i : ℕ) → from ≤ i → moved_up from count i ≡ i + count
unfolding moved_up
up_from from count i h = let t : nat_lt i from ≡ false = grind (arith, h) in rw t refl

pub up_below : (from count i : ℕ) → i < from → moved_up from count i ≡ i
unfolding moved_up
up_below from count i h = let t : nat_lt i from ≡ true = lt-ltb i from h in rw t refl

module _ (own : Name → Bool) (p : Placement) (names : MadeNames own p.name) (order first : ℕ) (new : Numbers) where
  -- the names that say where the box begins are made
  begin_made : (k : ℕ) (d : Dimension) (ts : List (Name × ℤ)) (bs : List Begin) → MadeBegins own bs → MadeBegins own (begin p.name k d ts ∷ bs)
  begin_made k d [] bs h = h
  begin_made k d (t ∷ ts) bs h = (names.made (7 + 4 * k), h)

  pub begins_made : (k : ℕ) (ds : List Dimension) → MadeBegins own (begins_from p.name k ds)
  begins_made k [] = tt
  begins_made k (d ∷ ds) = begin_made k d d.terms (begins_from p.name (suc k) ds) (begins_made (suc k) ds)

  -- where the places lie, they are those of the box
  numbers_are : (e : Env) (ds : List Dimension) → PlacesLie e ds → place_numbers p.name own names new 0 0 e ds ≡ span_places (spans_at e ds)
  numbers_are e [] h = refl
  numbers_are e (d ∷ ds) h = λ i. gap_pos (place_number e d) h.0 i ∷ numbers_are e ds h.2 i

  -- ---- before the loop
  abbrev pub front_env : Env → Env
  front_env g = allocs_env p p.how (constants_env p p.how (places_env p.name 0 p.dims g))

  own_apart : (i : ℕ) (n : Name) → own n ≡ true → same_name (p.name i) n ≡ false
  own_apart i n h = sym_false (p.name i) n (apart_own own n (p.name i) h (names.made i))

  chunks_keep : (chunks : Option (ℕ × ℕ)) (g : Env) (n : Name) → own n ≡ true → (chunk_env p chunks g).known n ≡ g.known n
  chunks_keep None g n h = refl
  chunks_keep (Some two) g n h = put-other _ (chunk_name p.name) _ n (own_apart 4 n h) ∙ put-other g.known (stride_name p.name) _ n (own_apart 3 n h)

  chunks_home : (chunks : Option (ℕ × ℕ)) (g : Env) → (chunk_env p chunks g).home ≡ g.home
  chunks_home None g = refl
  chunks_home (Some two) g = refl

  chunks_fasts : (chunks : Option (ℕ × ℕ)) (g : Env) → (chunk_env p chunks g).fasts ≡ g.fasts
  chunks_fasts None g = refl
  chunks_fasts (Some two) g = refl

  chunks_tags : (chunks : Option (ℕ × ℕ)) (g : Env) → (chunk_env p chunks g).tags ≡ g.tags
  chunks_tags None g = refl
  chunks_tags (Some two) g = refl

  -- constants and allocations, under numbers that follow
  allocs_follow : (how : How) (e g : Env) → Follows own new 0 0 g e g
      → Follows own new 1 (tags_made p how) (allocs_env p how (constants_env p how g)) e (allocs_env p how (constants_env p how g))
  allocs_follow Copies e g s =
      let f = s.fasts in
      let t = s.tags in
      record {
        known = s.known;
        home = λ n h. put-other g.home (fast_name p.name) _ n (own_apart 0 n h) ∙ s.home n h;
        fasts = omega (arith, f);
        tags = omega (arith, t);
        made_known = λ n h. refl;
        made_home = λ n h. refl;
      }
  allocs_follow (Transfers chunks) e g s =
      let g1 = knows g (count_name p.name) (pos (product (dim_extents p.dims))) in
      let f = s.fasts in
      let t = s.tags in
      let cf = chunks_fasts chunks g1 in
      let ct = chunks_tags chunks g1 in
      record {
        known = λ n h. chunks_keep chunks g1 n h ∙ put-other g.known (count_name p.name) _ n (own_apart 2 n h) ∙ s.known n h;
        home = λ n h. put-other _ (tag_name p.name) _ n (own_apart 1 n h) ∙ put-other _ (fast_name p.name) _ n (own_apart 0 n h) ∙ ap (λ f. f n) (chunks_home chunks g1) ∙ s.home n h;
        fasts = omega (arith, f, cf);
        tags = omega (arith, t, ct);
        made_known = λ n h. refl;
        made_home = λ n h. refl;
      }

  pub front_follows : (e g : Env) → Follows own new 0 0 g e g → Follows own new 1 (tags_made p p.how) (front_env g) e (front_env g)
  front_follows e g s = allocs_follow p.how e (places_env p.name 0 p.dims g) (places_follow p.name own names new 0 0 e 0 p.dims g s)

  -- ---- what stands ready
  chunks_keep_at : (chunks : Option (ℕ × ℕ)) (g : Env) (i : ℕ) → (3 ≡ i → ⊥) → (4 ≡ i → ⊥) → (chunk_env p chunks g).known (p.name i) ≡ g.known (p.name i)
  chunks_keep_at None g i a b = refl
  chunks_keep_at (Some two) g i a b = put-other _ (chunk_name p.name) _ (p.name i) (differ own p names 4 i b) ∙ put-other g.known (stride_name p.name) _ (p.name i) (differ own p names 3 i a)

  constants_keep_at : (how : How) (g : Env) (i : ℕ) → (2 ≡ i → ⊥) → (3 ≡ i → ⊥) → (4 ≡ i → ⊥) → (constants_env p how g).known (p.name i) ≡ g.known (p.name i)
  constants_keep_at Copies g i a b c = refl
  constants_keep_at (Transfers chunks) g i a b c =
      chunks_keep_at chunks (knows g (count_name p.name) (pos (product (dim_extents p.dims)))) i b c ∙ put-other g.known (count_name p.name) _ (p.name i) (differ own p names 2 i a)

  allocs_known : (how : How) (g : Env) → (allocs_env p how g).known ≡ g.known
  allocs_known Copies g = refl
  allocs_known (Transfers chunks) g = refl

  begin_kept : (how : How) (k : ℕ) (d : Dimension) (ts : List (Name × ℤ)) (g : Env)
      → begin_number (allocs_env p how (constants_env p how g)) (begin p.name k d ts) ≡ begin_number g (begin p.name k d ts)
  begin_kept how k d [] g = refl
  begin_kept how k d (t ∷ ts) g =
      ap number (ap (λ f. f (p.name (7 + 4 * k))) (allocs_known how (constants_env p how g))
      ∙ constants_keep_at how g (7 + 4 * k) (λ e. omega (arith, e)) (λ e. omega (arith, e)) (λ e. omega (arith, e)))

  begins_kept : (how : How) (k : ℕ) (ds : List Dimension) (g : Env)
      → begin_numbers (allocs_env p how (constants_env p how g)) (begins_from p.name k ds) ≡ begin_numbers g (begins_from p.name k ds)
  begins_kept how k [] g = refl
  begins_kept how k (d ∷ ds) g = λ i. begin_kept how k d d.terms g i ∷ begins_kept how (suc k) ds g i

  fast_home_at : (how : How) (g : Env) → g.fasts ≡ new.fast → (allocs_env p how g).home (fast_name p.name) ≡ Some (FastMemref new.fast)
  fast_home_at Copies g f = put-same g.home (fast_name p.name) _ (fast_name p.name) (same_name-refl (fast_name p.name)) ∙ ap (λ n. Some (FastMemref n)) f
  fast_home_at (Transfers chunks) g f =
      put-other _ (tag_name p.name) _ (fast_name p.name) (differ own p names 1 0 (λ e. omega (arith, e)))
      ∙ put-same g.home (fast_name p.name) _ (fast_name p.name) (same_name-refl (fast_name p.name)) ∙ ap (λ n. Some (FastMemref n)) f

  module _ (spans : List Side) where
    chunks_on : (chunks : Option (ℕ × ℕ)) (h h' : Env) → h'.known ≡ h.known → h'.home (tag_name p.name) ≡ Some (TagMemref new.tag) → h.known (count_name p.name) ≡ Some (pos (product (dim_extents p.dims)))
        → ((two : ℕ × ℕ) → chunks ≡ Some two → (h.known (stride_name p.name) ≡ Some (pos two.0)) × (h.known (chunk_name p.name) ≡ Some (pos two.1))) → Transfer own p names order first new spans chunks h'
    chunks_on None h h' k t c more = record { tag_home = t; count = ap (λ f. f (count_name p.name)) k ∙ c; chunks_known = tt }
    chunks_on (Some two) h h' k t c more =
        let m = more two refl in
        record { tag_home = t; count = ap (λ f. f (count_name p.name)) k ∙ c; chunks_known = (ap (λ f. f (stride_name p.name)) k ∙ m.0, ap (λ f. f (chunk_name p.name)) k ∙ m.1) }

    chunks_set : (chunks : Option (ℕ × ℕ)) (g : Env) (two : ℕ × ℕ) → chunks ≡ Some two
        → ((chunk_env p chunks g).known (stride_name p.name) ≡ Some (pos two.0)) × ((chunk_env p chunks g).known (chunk_name p.name) ≡ Some (pos two.1))
    chunks_set None g two h = absurd (cc)
    chunks_set (Some one) g two h =
        let same : one ≡ two = cc in (
          put-other _ (chunk_name p.name) _ (stride_name p.name) (differ own p names 4 3 (λ e. omega (arith, e))) ∙ put-same g.known (stride_name p.name) _ (stride_name p.name) (same_name-refl (stride_name p.name)) ∙ ap (λ (two : ℕ × ℕ). Some (pos two.0)) same,
          put-same _ (chunk_name p.name) _ (chunk_name p.name) (same_name-refl (chunk_name p.name)) ∙ ap (λ (two : ℕ × ℕ). Some (pos two.1)) same,
        )

    ways_at : (how : How) (g : Env) → g.tags ≡ new.tag → WaysReady own p names order first new spans how (allocs_env p how (constants_env p how g))
    ways_at Copies g t = tt
    ways_at (Transfers chunks) g t =
        let g1 = knows g (count_name p.name) (pos (product (dim_extents p.dims))) in
        chunks_on chunks (chunk_env p chunks g1) _ refl
        (put-same _ (tag_name p.name) _ (tag_name p.name) (same_name-refl (tag_name p.name)) ∙ ap (λ n. Some (TagMemref n)) (chunks_tags chunks g1 ∙ t))
        (chunks_keep_at chunks g1 2 (λ e. omega (arith, e)) (λ e. omega (arith, e)) ∙ put-same g.known (count_name p.name) _ (count_name p.name) (same_name-refl (count_name p.name)))
        (λ two h. chunks_set chunks g1 two h)

  constants_fasts : (how : How) (g : Env) → (constants_env p how g).fasts ≡ g.fasts
  constants_fasts Copies g = refl
  constants_fasts (Transfers chunks) g = chunks_fasts chunks (knows g (count_name p.name) (pos (product (dim_extents p.dims))))

  constants_tags : (how : How) (g : Env) → (constants_env p how g).tags ≡ g.tags
  constants_tags Copies g = refl
  constants_tags (Transfers chunks) g = chunks_tags chunks (knows g (count_name p.name) (pos (product (dim_extents p.dims))))

  -- the loop's place, in the text and in the new one
  pub record AtLoop (e g : Env) : Type 0 where
    pub follows : Follows own new 0 0 g e g
    pub fasts : e.fasts ≡ new.fast
    pub tags : e.tags ≡ new.tag
    pub home : e.home p.memref ≡ Some (SlowMemref order first)
    pub memref_own : own p.memref ≡ true
    pub dims_own : OwnDims own p.dims
    pub lie : PlacesLie e p.dims

  pub front_ready : (e g : Env) → AtLoop e g → Ready own p names order first new (spans_at e p.dims) (front_env g)
  front_ready e g a =
      let g1 = places_env p.name 0 p.dims g in
      let same = places_homes p.name own names 0 p.dims g in
      let s = a.follows in
      let gf = s.fasts in
      let gt = s.tags in
      let ef = a.fasts in
      let et = a.tags in
      let f1 = same.fasts in
      let t1 = same.tags in
      let f : g1.fasts ≡ new.fast = omega (arith, gf, ef, f1) in
      let t : g1.tags ≡ new.tag = omega (arith, gt, et, t1) in
      record {
        slow_home = (front_follows e g s).home p.memref a.memref_own ∙ ap (home_up new) a.home;
        fast_home = fast_home_at p.how (constants_env p p.how g1) (constants_fasts p.how g1 ∙ f);
        places = begins_kept p.how 0 p.dims g1 ∙ places_begin p.name own names new 0 0 e 0 p.dims g a.dims_own s ∙ numbers_are e p.dims a.lie;
        ways = ways_at (spans_at e p.dims) p.how g1 t;
      }

  -- ---- behind copies
  passed_ready : (e h h' : Env) → Passed p h h'
      → Ready own p names order first new (spans_at e p.dims) h → Ready own p names order first new (spans_at e p.dims) h'
  passed_ready e h h' q r = ready_stays own p names order first new (spans_at e p.dims) h h' (λ n s. q.known n s.1 s.2) (λ n o. ap (λ f. f n) q.home) (ap (λ f. f p.memref) q.home) r

  passed_follows : (e h h' : Env) (a k : ℕ) → Passed p h h' → Follows own new a k h e h → Follows own new a k h' e h'
  passed_follows e h h' a k q s = record {
    known = λ n o. q.known n (own_apart 5 n o) (own_apart 6 n o) ∙ s.known n o;
    home = λ n o. ap (λ f. f n) q.home ∙ s.home n o;
    fasts = q.fasts ∙ s.fasts;
    tags = q.tags ∙ s.tags;
    made_known = λ n o. refl;
    made_home = λ n o. refl;
  }

  -- the loop's statements, redirected
  abbrev pub Redirects : List Side → Plain → Env → Type 0
  Redirects spans q e = Tidy new p.memref first (sizes_of spans) q e × ReachesBox p.memref order first spans q e

  module _ (e g : Env) (a : AtLoop e g) (new_tags : new.tags ≡ tags_made p p.how) (elements : HasElements (spans_at e p.dims)) where
    abbrev pub spans : List Side
    spans = spans_at e p.dims

    abbrev sizes_are : dim_sizes p.dims ≡ sizes_of spans
    sizes_are = sym (sizes_at e p.dims)

    abbrev pub front : Env
    front = front_env g

    abbrev pub read_env : Env
    read_env = so_env p.reads (read_in p p.how) front

    read_ready : Ready own p names order first new spans read_env
    read_ready = passed_ready e front read_env (read_passes own p names order first new spans sizes_are (extents_at e p.dims) (lies_at e p.dims a.lie) elements p.reads front) (front_ready e g a)

    pub read_follows : Follows own new 1 (tags_made p p.how) read_env e read_env
    read_follows = passed_follows e front read_env 1 (tags_made p p.how) (read_passes own p names order first new spans sizes_are (extents_at e p.dims) (lies_at e p.dims a.lie) elements p.reads front) (front_follows e g a.follows)

    pub stands : Stands own new 1 (tags_made p p.how) read_env p order first spans
    stands = record {
      fast_made = names.made 0;
      begins_made = begins_made 0 p.dims;
      home = read_ready.fast_home;
      places = read_ready.places;
      extents = extents_at e p.dims;
      lies = lies_at e p.dims a.lie;
    }

    pub loop_room : (n : Nest) → Shifts own new 1 (tags_made p p.how) e.fasts (fasts_in n) e.tags (tags_in n)
    loop_room n = record {
      fast = λ i low high. up_from new.fast 1 i (subst (λ k. k ≤ i) a.fasts low);
      tag = λ i low high. up_from new.tag new.tags i (subst (λ k. k ≤ i) a.tags low) ∙ ap (λ k. i + k) new_tags;
    }

    loop_run : (n : Nest) → OwnNest own n → Each (Redirects spans) n e → actions (mapped (redirect p) n) read_env ≡ map (action_in_box first spans new) (actions n e)
    loop_run n h j =
        mapped_actions (redirect p) (redirect_fasts p) (redirect_tags p) own new 1 (tags_made p p.how) read_env (action_in_box first spans new) (Redirects spans) (redirect_after p)
        (λ q e g h j m s. redirect_acts own new 1 (tags_made p p.how) read_env p order first spans stands q e g h j m s) n e read_env h j (loop_room n) read_follows

    module _ (line : ℕ) (v : Name) (l u : Bound) (step : ℤ) (body : Nest) where
      abbrev pub turned_env : Env
      turned_env = behind (mapped (redirect p) body) read_env

      pub turned_follows : Follows own new 1 (tags_made p p.how) turned_env (behind body e) turned_env
      turned_follows =
          let s = behind_follows own new 1 (tags_made p p.how) read_env body (mapped (redirect p) body) e read_env (fasts_mapped (redirect p) (redirect_fasts p) (redirect_tags p) body) (tags_mapped (redirect p) (redirect_fasts p) (redirect_tags p) body) read_follows in
          record { known = s.known; home = s.home; fasts = s.fasts; tags = s.tags; made_known = λ n h. refl; made_home = λ n h. refl }

      turned_ready : Ready own p names order first new spans turned_env
      turned_ready = ready_stays own p names order first new spans read_env turned_env (λ n s. refl) (λ n o. refl) refl read_ready

      -- what is known behind the loop and its template
      abbrev pub box_env : Env
      box_env = so_env p.writes (write_out p p.how) turned_env

      write_passed : Passed p turned_env box_env
      write_passed = write_passes own p names order first new spans sizes_are (extents_at e p.dims) (lies_at e p.dims a.lie) elements p.writes turned_env

      pub box_follows : Follows own new 1 (tags_made p p.how) box_env (behind body e) box_env
      box_follows = passed_follows (behind body e) turned_env box_env 1 (tags_made p p.how) write_passed turned_follows

      box_ready : Ready own p names order first new spans box_env
      box_ready = passed_ready e turned_env box_env write_passed turned_ready

      -- a loop before others
      loop_then : (body' more : Nest) (h : Env) → actions (Loop line v l u step body' more) h ≡ actions (Loop line v l u step body' Nothing) h ++ actions more (behind body' h)
      loop_then body' more h =
          actions-Loop line v l u step body' more h
          ∙ ap (λ xs. xs ++ actions more (behind body' h))
          (sym (actions-Loop line v l u step body' Nothing h ∙ ap (λ xs. flat_map (λ t. actions body' (knows h v t)) (turns (lower_of h l) (upper_of h u) step) ++ xs) (actions-Nothing (behind body' h))
          ∙ append-nil (flat_map (λ t. actions body' (knows h v t)) (turns (lower_of h l) (upper_of h u) step))))

      pub box_run : (rest more : Nest) → OwnNest own (Loop line v l u step body Nothing) → Each (Redirects spans) (Loop line v l u step body Nothing) e
          → actions (staged_loop p (Loop line v l u step body rest) more) g
          ≡ replicate (places_count p.name p.dims + constant_count p p.how) Known ++ (boxed p order first new spans (actions (Loop line v l u step body Nothing) e) ++ actions more box_env)
      box_run rest more h j =
          let g1 = places_env p.name 0 p.dims g in
          let n1 = places_count p.name p.dims in
          let n2 = constant_count p p.how in
          let body' = mapped (redirect p) body in
          let r5 = behind_loop p more in
          let r4 = Loop line v l u step body' r5 in
          let r3 = where_so p p.reads (read_in p p.how) r4 in
          let r2 = allocs p p.how r3 in
          let same = places_homes p.name own names 0 p.dims g in
          let s = a.follows in
          let gf = s.fasts in
          let gt = s.tags in
          let ef = a.fasts in
          let et = a.tags in
          let f1 = same.fasts in
          let t1 = same.tags in
          let cf = constants_fasts p.how g1 in
          let ct = constants_tags p.how g1 in
          let A = allocating p order first new p.how spans in
          let B = only_if p order first new p.reads (reading p order first new p.how spans) in
          let C = map (action_in_box first spans new) (actions (Loop line v l u step body Nothing) e) in
          let D = only_if p order first new p.writes (writing p order first new p.how spans) in
          let E = releasing p order first new p.how spans in
          let Z = actions more box_env in
          let inner : actions r2 (constants_env p p.how g1) ≡ A ++ (B ++ (C ++ (D ++ (E ++ Z)))) =
          allocs_run own p names order first new spans p.how r3 (constants_env p p.how g1) (omega (arith, gf, ef, f1, cf)) (omega (arith, gt, et, t1, ct)) (extents_at e p.dims)
          ∙ ap (λ xs. A ++ xs)
          (read_run own p names order first new spans sizes_are (extents_at e p.dims) (lies_at e p.dims a.lie) elements p.reads r4 front (front_ready e g a)
          ∙ ap (λ xs. B ++ xs)
          (loop_then body' r5 read_env
          ∙ (λ i. loop_run (Loop line v l u step body Nothing) h j i
          ++ (write_run own p names order first new spans sizes_are (extents_at e p.dims) (lies_at e p.dims a.lie) elements p.writes (deallocs p p.how more) turned_env turned_ready
          ∙ ap (λ xs. D ++ xs) (deallocs_run own p names order first new spans p.how more box_env box_ready.fast_home box_ready.ways (extents_at e p.dims))) i))) in
          places_run p.name 0 p.dims (constants p p.how r2) g
          ∙ ap (λ xs. replicate n1 Known ++ xs) (constants_run own p names order first new spans p.how r2 g1 ∙ ap (λ xs. replicate n2 Known ++ xs) inner)
          ∙ more_known p.name n1 n2 (A ++ (B ++ (C ++ (D ++ (E ++ Z)))))
          ∙ ap (λ xs. replicate (n1 + n2) Known ++ xs) (regroup A B C D E Z)
        where
          regroup : (A B C D E Z : List Action) → A ++ (B ++ (C ++ (D ++ (E ++ Z)))) ≡ (A ++ (B ++ (C ++ (D ++ E)))) ++ Z
          regroup A B C D E Z =
              sym (append_assoc A (B ++ (C ++ (D ++ E))) Z
              ∙ ap (λ xs. A ++ xs) (append_assoc B (C ++ (D ++ E)) Z ∙ ap (λ xs. B ++ xs) (append_assoc C (D ++ E) Z ∙ ap (λ xs. C ++ xs) (append_assoc D E Z))))
