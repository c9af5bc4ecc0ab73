-- Reading a box in and writing it out: by loops that copy, and by transfers.
use Rattle.std.proofs.Common.{◌≡◌, ℕ, suc, ◌+◌, ◌*◌, ℤ, pos, List, [], ◌∷◌, ◌++◌, length, refl, sym, ap, ◌∙◌, subst, arith, Bool, true, false, map}
use Rattle.std.specs.Prelude.{Option, Some, None}
use Rattle.std.proofs.lemmas.List.{append_assoc}
use Rattle.affine_expr.specs.Value.{value}
use Rattle.affine_expr.proofs.Values.{value-Const}
use Rattle.affine_ast.specs.declared.name.Name.{Name}
use Rattle.affine_ast.specs.Names.{same_name}
use Rattle.affine_ast.proofs.Names.{put-other}
use Rattle.affine_ast.specs.Nest.{Nest, Nothing, Does, Load, Store}
use Rattle.affine_ast.specs.Sizes.{product}
use Rattle.direct_meaning.specs.Turns.{gap}
use Rattle.direct_meaning.specs.Action.{Slow, Fast, Waits}
use Rattle.direct_meaning.specs.Static.{Env, number, numbers, results_of, cell_in, slow_at, fast_at, place_at, place_of, tag_at, tag_of}
use Rattle.direct_meaning.specs.Actions.{action_of, after_plain, fasts_in, tags_in, actions, after, layout_of, start_between, wait_of}
use Rattle.direct_meaning.proofs.Laws.{actions-followed}
use Rattle.boxes.specs.Boxes.{Side}
use Rattle.placement_texts.specs.Boxes.{sizes_of, extents_of, LiesIn, HasElements}
use Rattle.placement_texts.specs.Labels.{Numbers}
use Rattle.placement_texts.specs.Own.{MadeNames}
use Rattle.placement_texts.specs.Template.{How, Copies, Transfers, Placement, Dimension, dim_sizes, dim_extents, slow_type, fast_type, tag_type, fast_name, tag_name, count_name, in_value, out_value, in_turn, out_turn, place_name, Begin, Fixed, Named, named, begin, begins_from, begins, loops, slow_at_turns, fast_at_turns, place_exprs, zeros, slow_at_places, fast_at_zeros, tag_at_zero, copy_in, copy_out, stride_of, start_in, start_out, read_in, write_out, where_so}
use Rattle.placement_texts.specs.Parts.{row_number, places_of, over_box, element_in, element_out, stride_in, chunk_in, transfer, reading, writing, only_if}
use Rattle.placement_texts.proofs.Subscripts.{begin_numbers, length_numbers, dim_behind, one_more}
use Rattle.placement_texts.proofs.PlaceRun.{take_whole, drop_whole}
use Rattle.placement_texts.proofs.Redirect.{span_places}
use Rattle.placement_texts.proofs.CopyRun.{Below, cell_number, loops_run}
use Rattle.placement_texts.proofs.ElementRun.{NamedApart, CanCopy, turn_in, turn_out}
use Rattle.placement_texts.proofs.Ready.{differ, Ready, WaysReady, Transfer}

-- a nest of loops allocates what stands in it
loops_fasts : (turn : ℕ → Name) (d : ℕ) (ds : List Dimension) (inner : Nest) → fasts_in inner ≡ 0 → fasts_in (loops turn d ds inner) ≡ 0
loops_fasts turn d [] inner h = h
loops_fasts turn d (dim ∷ ds) inner h = let e = loops_fasts turn (suc d) ds inner h in omega (arith, e)

loops_tags : (turn : ℕ → Name) (d : ℕ) (ds : List Dimension) (inner : Nest) → tags_in inner ≡ 0 → tags_in (loops turn d ds inner) ≡ 0
loops_tags turn d [] inner h = h
loops_tags turn d (dim ∷ ds) inner h = let e = loops_tags turn (suc d) ds inner h in omega (arith, e)

length_begins : (name : ℕ → Name) (k : ℕ) (ds : List Dimension) → length (begins_from name k ds) ≡ length (dim_extents ds)
length_begins name k [] = refl
length_begins name k (d ∷ ds) = ap suc (length_begins name (suc k) ds)

-- ---- the places, as subscripts
places_below : (ss : List Side) → LiesIn ss → HasElements ss → Below (sizes_of ss) (places_of ss)
places_below [] l h = tt
places_below (s ∷ ss) l h = let a = l.0 in let b = h.0 in (omega (arith, a, b), places_below ss l.1 h.1)

places_are : (ss : List Side) → span_places ss ≡ map pos (places_of ss)
places_are [] = refl
places_are (s ∷ ss) = ap (λ l. pos s.place ∷ l) (places_are ss)

-- zeros as subscripts
nothings : List ℕ → List ℕ
nothings [] = []
nothings (e ∷ es) = 0 ∷ nothings es

zeros_below : (ss : List Side) → HasElements ss → Below (extents_of ss) (nothings (extents_of ss))
unfolding nothings
zeros_below [] h = tt
zeros_below (s ∷ ss) h = let a = h.0 in (omega (arith, a), zeros_below ss h.1)

row_zero : (es : List ℕ) → row_number es (nothings es) ≡ 0
unfolding nothings
row_zero [] = refl
row_zero (e ∷ es) = let z = row_zero es in omega (arith, z)

zero_values : (bs : List Begin) (es : List ℕ) → length bs ≡ length es → map (value [] []) (zeros bs) ≡ map pos (nothings es)
unfolding nothings
zero_values [] [] h = refl
zero_values (b ∷ bs) (e ∷ es) h = λ i. value-Const [] [] (pos 0) i ∷ zero_values bs es (omega (arith, h)) i
zero_values [] (e ∷ es) h = absurd (omega (arith, h))
zero_values (b ∷ bs) [] h = absurd (omega (arith, h))

place_values : (g : Env) (front : List ℤ) (k : ℕ) (bs : List Begin) → length front ≡ k → map (value (front ++ numbers g (named bs)) []) (place_exprs k bs) ≡ begin_numbers g bs
place_values g front k [] h = refl
place_values g front k (Fixed z ∷ bs) h = λ i. value-Const (front ++ numbers g (named bs)) [] z i ∷ place_values g front k bs h i
place_values g front k (Named n ∷ bs) h =
    let x = number (g.known n) in
    let more = numbers g (named bs) in
    let again : front ++ x ∷ more ≡ (front ++ x ∷ []) ++ more = sym (append_assoc front (x ∷ []) more) in
    λ i. dim_behind [] front x more k h i ∷ (ap (λ l. map (value l []) (place_exprs (suc k) bs)) again ∙ place_values g (front ++ x ∷ []) (suc k) bs (one_more front x k h)) i

at_places : (g : Env) (bs : List Begin) → results_of g (slow_at_places bs) ≡ begin_numbers g bs
unfolding results_of
at_places g bs =
    let zs = numbers g (named bs) in
    let l = length_numbers g (named bs) in
    (λ i. map (value (take_whole zs (length (named bs)) l i) (drop_whole zs (length (named bs)) l i)) (place_exprs 0 bs)) ∙ place_values g [] 0 bs refl

-- what is known behind statements, where they stand
abbrev pub so_env : Bool → Nest → Env → Env
so_env true part h = after part h
so_env false part h = h

module _ (p : Placement) where
  -- what is known behind copies: the value that they move is forgotten
  pub record Passed (h h' : Env) : Type 0 where
    pub home : h'.home ≡ h.home
    pub fasts : h'.fasts ≡ h.fasts
    pub tags : h'.tags ≡ h.tags
    pub known : (n : Name) → same_name (in_value p.name) n ≡ false → same_name (out_value p.name) n ≡ false → h'.known n ≡ h.known n

module _ (own : Name → Bool) (p : Placement) (names : MadeNames own p.name) (order first : ℕ) (new : Numbers) (spans : List Side)
    (sizes : dim_sizes p.dims ≡ sizes_of spans) (extents : extents_of spans ≡ dim_extents p.dims) (lies : LiesIn spans) where
  abbrev IsReady : Env → Type 0
  IsReady = Ready own p names order first new spans

  loops_pass : (turn : ℕ → Name) (ds : List Dimension) (inner : Nest) (h : Env) → fasts_in inner ≡ 0 → tags_in inner ≡ 0 → Passed p h (after inner h) → Passed p h (after (loops turn 0 ds inner) h)
  unfolding after
  loops_pass turn [] inner h f t q = q
  loops_pass turn (dim ∷ ds) inner h f t q =
      let a = loops_fasts turn 1 ds inner f in
      let b = loops_tags turn 1 ds inner t in
      record { home = refl; fasts = omega (arith, a); tags = omega (arith, b); known = λ n i o. refl }

  named_apart : (turn : ℕ → Name) (v c : ℕ) → ((j : ℕ) → turn j ≡ p.name (c + 4 * j)) → ((j k : ℕ) → c + 4 * j ≡ 7 + 4 * k → ⊥) → ((k : ℕ) → v ≡ 7 + 4 * k → ⊥) → (k : ℕ) (ds : List Dimension) → NamedApart turn (p.name v) (begins_from p.name k ds)
  named_apart turn v c is ne nv k [] = tt
  named_apart turn v c is ne nv k (d ∷ ds) = at d.terms (named_apart turn v c is ne nv (suc k) ds)
    where
      at : (ts : List (Name × ℤ)) → NamedApart turn (p.name v) (begins_from p.name (suc k) ds) → NamedApart turn (p.name v) (begin p.name k d ts ∷ begins_from p.name (suc k) ds)
      at [] h = h
      at (t ∷ ts) h = (
        (λ j. ap (λ n. same_name n (place_name p.name k)) (is j) ∙ differ own p names (c + 4 * j) (7 + 4 * k) (ne j k)),
        differ own p names v (7 + 4 * k) (nv k),
        h,
      )

  in_apart : (i j : ℕ) → same_name (in_turn p.name i) (in_turn p.name j) ≡ true → i ≡ j
  in_apart i j e = let k = names.apart (9 + 4 * i) (9 + 4 * j) e in omega (arith, k)

  out_apart : (i j : ℕ) → same_name (out_turn p.name i) (out_turn p.name j) ≡ true → i ≡ j
  out_apart i j e = let k = names.apart (10 + 4 * i) (10 + 4 * j) e in omega (arith, k)

  can_copy_in : (h : Env) → IsReady h → CanCopy (in_turn p.name) in_apart h (begins p) spans order first new.fast p.memref (fast_name p.name) (in_value p.name) (slow_type p) (fast_type p)
  can_copy_in h r = record {
    slow_home = r.slow_home;
    fast_home = r.fast_home;
    slow_sizes = sizes;
    fast_sizes = ap (λ es. 1 ∷ es) (sym extents);
    places = r.places;
    lies = lies;
    rank = length_begins p.name 0 p.dims ∙ ap length (sym extents);
    value_apart = λ j. differ own p names 5 (9 + 4 * j) (λ e. omega (arith, e));
    named_apart = named_apart (in_turn p.name) 5 9 (λ j. refl) (λ j k e. omega (arith, e)) (λ k e. omega (arith, e)) 0 p.dims;
  }

  can_copy_out : (h : Env) → IsReady h → CanCopy (out_turn p.name) out_apart h (begins p) spans order first new.fast p.memref (fast_name p.name) (out_value p.name) (slow_type p) (fast_type p)
  can_copy_out h r = record {
    slow_home = r.slow_home;
    fast_home = r.fast_home;
    slow_sizes = sizes;
    fast_sizes = ap (λ es. 1 ∷ es) (sym extents);
    places = r.places;
    lies = lies;
    rank = length_begins p.name 0 p.dims ∙ ap length (sym extents);
    value_apart = λ j. differ own p names 6 (10 + 4 * j) (λ e. omega (arith, e));
    named_apart = named_apart (out_turn p.name) 6 10 (λ j. refl) (λ j k e. omega (arith, e)) (λ k e. omega (arith, e)) 0 p.dims;
  }

  copy_in_run : (h : Env) → IsReady h → actions (copy_in p) h ≡ over_box (extents_of spans) (element_in p order first new spans)
  copy_in_run h r =
      loops_run (in_turn p.name) in_apart 0 p.dims _ h (element_in p order first new spans)
      (λ is b. turn_in (in_turn p.name) in_apart h (begins p) spans order first new.fast p.memref (fast_name p.name) (in_value p.name) (slow_type p) (fast_type p) (can_copy_in h r) is (subst (λ es. Below es is) (sym extents) b))
      ∙ ap (λ es. over_box es (element_in p order first new spans)) (sym extents)

  copy_out_run : (h : Env) → IsReady h → actions (copy_out p) h ≡ over_box (extents_of spans) (element_out p order first new spans)
  copy_out_run h r =
      loops_run (out_turn p.name) out_apart 0 p.dims _ h (element_out p order first new spans)
      (λ is b. turn_out (out_turn p.name) out_apart h (begins p) spans order first new.fast p.memref (fast_name p.name) (out_value p.name) (slow_type p) (fast_type p) (can_copy_out h r) is (subst (λ es. Below es is) (sym extents) b))
      ∙ ap (λ es. over_box es (element_out p order first new spans)) (sym extents)

  inner_in : (h : Env) → Passed p h (after (Does 0 (Load (in_value p.name) p.memref (slow_at_turns (in_turn p.name) (begins p)) (slow_type p)) (Does 0 (Store (in_value p.name) (fast_name p.name) (fast_at_turns (in_turn p.name) (begins p)) (fast_type p)) Nothing)) h)
  unfolding after after_plain
  inner_in h = record { home = refl; fasts = refl; tags = refl; known = λ n i o. put-other h.known (in_value p.name) None n i }

  copy_in_passes : (h : Env) → Passed p h (after (copy_in p) h)
  copy_in_passes h = loops_pass (in_turn p.name) p.dims _ h refl refl (inner_in h)

  inner_out : (h : Env) → Passed p h (after (Does 0 (Load (out_value p.name) (fast_name p.name) (fast_at_turns (out_turn p.name) (begins p)) (fast_type p)) (Does 0 (Store (out_value p.name) p.memref (slow_at_turns (out_turn p.name) (begins p)) (slow_type p)) Nothing)) h)
  unfolding after after_plain
  inner_out h = record { home = refl; fasts = refl; tags = refl; known = λ n i o. put-other h.known (out_value p.name) None n o }

  copy_out_passes : (h : Env) → Passed p h (after (copy_out p) h)
  copy_out_passes h = loops_pass (out_turn p.name) p.dims _ h refl refl (inner_out h)

  -- ---- transfers
  module _ (elements : HasElements spans) where
    slow_start : (h : Env) → IsReady h → place_of h p.memref (slow_at_places (begins p)) (slow_type p) ≡ Slow (first + row_number (sizes_of spans) (places_of spans))
    unfolding place_of
    slow_start h r =
        (λ i. place_at (r.slow_home i) (sizes i) ((at_places h (begins p) ∙ r.places ∙ places_are spans) i))
        ∙ ap (slow_at first) (cell_number (sizes_of spans) (places_of spans) (places_below spans lies elements))

    zero_results : (h : Env) → results_of h (fast_at_zeros (begins p)) ≡ pos 0 ∷ map pos (nothings (extents_of spans))
    unfolding results_of
    zero_results h = λ i. value-Const [] [] (pos 0) i ∷ zero_values (begins p) (extents_of spans) (length_begins p.name 0 p.dims ∙ ap length (sym extents)) i

    fast_start : (h : Env) → IsReady h → place_of h (fast_name p.name) (fast_at_zeros (begins p)) (fast_type p) ≡ Fast new.fast 0 0
    unfolding place_of
    fast_start h r =
        (λ i. place_at (r.fast_home i) (1 ∷ sym extents i) (zero_results h i))
        ∙ ap (fast_at new.fast (Some 0)) (cell_number (extents_of spans) (nothings (extents_of spans)) (zeros_below spans elements) ∙ ap Some (row_zero (extents_of spans)))

    tag_result : (h : Env) → results_of h tag_at_zero ≡ pos 0 ∷ []
    unfolding results_of
    tag_result h = ap (λ z. z ∷ []) (value-Const [] [] (pos 0))

    tag_start : (chunks : Option (ℕ × ℕ)) (h : Env) → Transfer own p names order first new spans chunks h → tag_of h (tag_name p.name) tag_at_zero tag_type ≡ Some new.tag
    unfolding tag_of
    tag_start chunks h t =
        let e : new.tag + 0 ≡ new.tag = omega arith in
        (λ i. tag_at (t.tag_home i) (cell_in (1 ∷ []) (tag_result h i))) ∙ ap Some e

    layout_start : (chunks : Option (ℕ × ℕ)) (h : Env) → Transfer own p names order first new spans chunks h
        → layout_of h (count_name p.name) (stride_of p chunks)
        ≡ record { count = product (extents_of spans); stride = stride_in chunks (product (extents_of spans)); chunk = chunk_in chunks (product (extents_of spans)) }
    layout_start None h t =
        let c : gap (number (h.known (count_name p.name))) ≡ product (extents_of spans) = ap (λ o. gap (number o)) t.count ∙ ap product (sym extents) in
        λ i. record { count = c i; stride = c i; chunk = c i }
    layout_start (Some two) h t =
        let c : gap (number (h.known (count_name p.name))) ≡ product (extents_of spans) = ap (λ o. gap (number o)) t.count ∙ ap product (sym extents) in
        λ i. record { count = c i; stride = gap (number (t.chunks_known.0 i)); chunk = gap (number (t.chunks_known.1 i)) }

    wait_start : (chunks : Option (ℕ × ℕ)) (h : Env) → Transfer own p names order first new spans chunks h
        → wait_of (tag_of h (tag_name p.name) tag_at_zero tag_type) (gap (number (h.known (count_name p.name)))) ≡ Waits new.tag (product (extents_of spans))
    wait_start chunks h t = λ i. wait_of (tag_start chunks h t i) ((ap (λ o. gap (number o)) t.count ∙ ap product (sym extents)) i)

    start_in_run : (chunks : Option (ℕ × ℕ)) (h : Env) → IsReady h → Transfer own p names order first new spans chunks h → actions (start_in p chunks) h ≡ transfer p order first new true chunks spans
    unfolding actions action_of after_plain
    start_in_run chunks h r t =
        λ i. start_between (r.slow_home i) (r.fast_home i) (slow_start h r i) (fast_start h r i) (record (slow_type p) { sizes = sizes i }) (record (fast_type p) { sizes = 1 ∷ sym extents i }) (layout_start chunks h t i) (tag_start chunks h t i)
        ∷ wait_start chunks h t i ∷ []

    start_out_run : (chunks : Option (ℕ × ℕ)) (h : Env) → IsReady h → Transfer own p names order first new spans chunks h → actions (start_out p chunks) h ≡ transfer p order first new false chunks spans
    unfolding actions action_of after_plain
    start_out_run chunks h r t =
        λ i. start_between (r.fast_home i) (r.slow_home i) (fast_start h r i) (slow_start h r i) (record (fast_type p) { sizes = 1 ∷ sym extents i }) (record (slow_type p) { sizes = sizes i }) (layout_start chunks h t i) (tag_start chunks h t i)
        ∷ wait_start chunks h t i ∷ []

    start_in_passes : (chunks : Option (ℕ × ℕ)) (h : Env) → Passed p h (after (start_in p chunks) h)
    unfolding after after_plain
    start_in_passes chunks h = record { home = refl; fasts = refl; tags = refl; known = λ n i o. refl }

    start_out_passes : (chunks : Option (ℕ × ℕ)) (h : Env) → Passed p h (after (start_out p chunks) h)
    unfolding after after_plain
    start_out_passes chunks h = record { home = refl; fasts = refl; tags = refl; known = λ n i o. refl }

    -- ---- either way
    read_in_run : (how : How) (h : Env) → IsReady h → WaysReady own p names order first new spans how h → actions (read_in p how) h ≡ reading p order first new how spans
    read_in_run Copies h r w = copy_in_run h r
    read_in_run (Transfers chunks) h r w = start_in_run chunks h r w

    write_out_run : (how : How) (h : Env) → IsReady h → WaysReady own p names order first new spans how h → actions (write_out p how) h ≡ writing p order first new how spans
    write_out_run Copies h r w = copy_out_run h r
    write_out_run (Transfers chunks) h r w = start_out_run chunks h r w

    read_in_passes : (how : How) (h : Env) → Passed p h (after (read_in p how) h)
    read_in_passes Copies h = copy_in_passes h
    read_in_passes (Transfers chunks) h = start_in_passes chunks h

    write_out_passes : (how : How) (h : Env) → Passed p h (after (write_out p how) h)
    write_out_passes Copies h = copy_out_passes h
    write_out_passes (Transfers chunks) h = start_out_passes chunks h

    pub read_run : (b : Bool) (rest : Nest) (h : Env) → IsReady h
        → actions (where_so p b (read_in p p.how) rest) h ≡ only_if p order first new b (reading p order first new p.how spans) ++ actions rest (so_env b (read_in p p.how) h)
    read_run true rest h r = actions-followed (read_in p p.how) rest h ∙ ap (λ l. l ++ actions rest (after (read_in p p.how) h)) (read_in_run p.how h r r.ways)
    read_run false rest h r = refl

    pub write_run : (b : Bool) (rest : Nest) (h : Env) → IsReady h
        → actions (where_so p b (write_out p p.how) rest) h ≡ only_if p order first new b (writing p order first new p.how spans) ++ actions rest (so_env b (write_out p p.how) h)
    write_run true rest h r = actions-followed (write_out p p.how) rest h ∙ ap (λ l. l ++ actions rest (after (write_out p p.how) h)) (write_out_run p.how h r r.ways)
    write_run false rest h r = refl

    nothing_passes : (h : Env) → Passed p h h
    nothing_passes h = record { home = refl; fasts = refl; tags = refl; known = λ n i o. refl }

    pub read_passes : (b : Bool) (h : Env) → Passed p h (so_env b (read_in p p.how) h)
    read_passes true h = read_in_passes p.how h
    read_passes false h = nothing_passes h

    pub write_passes : (b : Bool) (h : Env) → Passed p h (so_env b (write_out p p.how) h)
    write_passes true h = write_out_passes p.how h
    write_passes false h = nothing_passes h
