-- What starts and waits of the text with rings do.
use Rattle.std.proofs.Common.{◌≡◌, ℕ, zero, suc, ◌+◌, ◌*◌, ◌≤◌, ℤ, pos, ◌+ℤ◌, ◌*ℤ◌, List, [], ◌∷◌, ◌++◌, length, replicate, map, take, drop, refl, sym, ap, ◌∙◌, subst, arith, Bool, true, false}
use Rattle.std.specs.Prelude.{◌&&◌, Option, Some, None, if◌then◌else◌}
use Rattle.std.specs.List.{list_all}
use Rattle.std.specs.Int.{int_min}
use Rattle.std.proofs.lemmas.Int.{ints}
use Rattle.std.proofs.lemmas.List.{append_assoc}
use Rattle.affine_expr.specs.declared.expr.Expr.{Expr, Const, fold-Expr, fold-roll-Expr}
use Rattle.affine_expr.specs.declared.expr.Expr.TheVariants.{rolls-Const}
use Rattle.affine_expr.specs.declared.expr.Expr.TheOpen.{Expr-F}
use Rattle.affine_expr.specs.Value.{value}
use Rattle.affine_expr.specs.Pure.{has_leaves_below, leaves_step}
use Rattle.affine_expr.proofs.Values.{value-Const}
use Rattle.affine_ast.specs.declared.name.Name.{Name}
use Rattle.affine_ast.specs.declared.types.Access.{Access}
use Rattle.affine_ast.specs.declared.types.Bound.{Bound}
use Rattle.affine_ast.specs.declared.types.MemrefType.{MemrefType}
use Rattle.affine_ast.specs.Names.{same_name}
use Rattle.affine_ast.specs.Nest.{Plain, Nest, Nothing, Does, Start, Wait}
use Rattle.affine_ast.specs.Rules.{map_fits}
use Rattle.affine_ast.proofs.Names.{same_name-refl, put-same, put-other}
use Rattle.bus_model.specs.declared.transfer.Transfer.{Transfer}
use Rattle.bus_model.specs.declared.step.FaultKind.{FaultKind}
use Rattle.bus_model.specs.declared.step.FaultKind.TheVariants.{Bounds, Shape}
use Rattle.bus_model.specs.Places.{slow_place}
use Rattle.direct_meaning.specs.Transfers.{ends_by}
use Rattle.direct_meaning.specs.Action.{Action, Faults, FastMemref, Home, Known, Place, Slow, Fast, Outside, SlowMemref, Starts, TagMemref, Waits}
use Rattle.direct_meaning.specs.Static.{Env, knows, number, numbers, cell_in, fast_at, place_at, place_of, product, results_of, slow_at, tag_of, within}
use Rattle.direct_meaning.specs.Actions.{Layout, action_of, actions, after_plain, has_shape, half_cells, layout_of, start_between, started, transfer_of, wait_of}
use Rattle.direct_meaning.specs.Turns.{gap}
use Rattle.direct_meaning.proofs.Laws.{actions-Does}
use Rattle.placement_texts.specs.Own.{MadeNames, OwnNames}
use Rattle.placement_texts.specs.Regions.{OwnDims, form_number, place_number}
use Rattle.placement_texts.specs.Template.{Begin, Dimension, Fixed, Named, Placement, begin, begins, begins_from, clamp, count_name, dim_extents, dim_sizes, fast_at_zeros, fast_name, fast_type, last_place, least_name, named, place_exprs, place_name, places_count, places_from, slow_at_places, slow_type, tag_at_zero, tag_name, tag_type, term_names, zeros}
use Rattle.placement_texts.proofs.Subscripts.{begin_number, begin_numbers, dim_behind, length_numbers, one_more}
use Rattle.placement_texts.proofs.PlaceRun.{drop_whole, other_name, places_env, places_homes, places_keep, places_run, statement_env, sym_false, take_whole}
use Rattle.placement_texts.proofs.Follows.{apart_own}
use Rattle.ring_runs.specs.Places.{ring_place}
use Rattle.ring_runs.proofs.Places.{place_within}
use Rattle.ring_plans.specs.Rings.{at_place, dims_later, ring_tags, ring_type}
use Rattle.ring_scripts.specs.Starts.{AreBeside, AreOnce, IsAhead, IsBehindPlaces, IsBeside, IsLater, LeavesInRing, StartsAhead, WaitsInRing, ahead_text, start_then, with_place}
use Rattle.ring_scripts.proofs.Later.{box_is_later}
use Rattle.ring_scripts.proofs.Places.{ring_place_is, tag_in_ring, within_is, zero_leaves}

-- ---- a transfer between the same elements, of another half
started_is : (t : Transfer) (end cells tag fast half : ℕ) (u : Transfer) → started t end cells ≡ Starts u → started (with_place t tag fast half) end cells ≡ Starts (with_place u tag fast half)
unfolding slow_place
started_is t end cells tag fast half u h = by (ends_by t end) (has_shape t cells) h
  where
    held : Action → Transfer
    held (Starts x) = x
    held a = t

    by : (c d : Bool) → (if c then (if d then Starts t else Faults Shape) else Faults Bounds) ≡ Starts u
        → (if c then (if d then Starts (with_place t tag fast half) else Faults Shape) else Faults Bounds) ≡ Starts (with_place u tag fast half)
    by true true h = ap (λ x. Starts (with_place x tag fast half)) (ap held h)
    by true false h = absurd (cc)
    by false d h = absurd (cc)

module _ (incoming : Bool) (order first : ℕ) (slow one many : MemrefType) (layout : Layout) (same : half_cells many.sizes ≡ half_cells one.sizes) where
  moved_transfer : (q : Place) (cell : Option ℕ) (tag : Option ℕ) (a b half k : ℕ) (u : Transfer)
      → transfer_of incoming order first slow one layout q (fast_at a (Some 0) cell) tag ≡ Starts u
      → transfer_of incoming order first slow many layout q (fast_at b (Some half) cell) (Some k) ≡ Starts (with_place u k b half)
  moved_transfer (Slow p) (Some c) (Some n) a b half k u h =
      let t : Transfer = record { incoming = incoming; tag = n; memref = order; base = p; stride = layout.stride; chunk = layout.chunk; count = layout.count; fast = a; half = 0; offset = c } in
      ap (λ cells. started (with_place t k b half) (first + product slow.sizes) cells) same ∙ started_is t (first + product slow.sizes) (half_cells one.sizes) k b half u h
  moved_transfer (Slow p) (Some c) None a b half k u h = absurd (cc)
  moved_transfer (Slow p) None n a b half k u h = absurd (cc)
  moved_transfer (Fast x y w) (Some c) n a b half k u h = absurd (cc)
  moved_transfer (Fast x y w) None n a b half k u h = absurd (cc)
  moved_transfer Outside (Some c) n a b half k u h = absurd (cc)
  moved_transfer Outside None n a b half k u h = absurd (cc)

-- ---- what the values for places say
place_values : (g : Env) (front : List ℤ) (k : ℕ) (bs : List Begin) → length front ≡ k → map (value (front ++ numbers g (named bs)) []) (place_exprs k bs) ≡ begin_numbers g bs
place_values g front k [] h = refl
place_values g front k (Fixed z ∷ bs) h = λ i. value-Const (front ++ numbers g (named bs)) [] z i ∷ place_values g front k bs h i
place_values g front k (Named n ∷ bs) h =
    let x = number (g.known n) in
    let more = numbers g (named bs) in
    let again : front ++ x ∷ more ≡ (front ++ x ∷ []) ++ more = sym (append_assoc front (x ∷ []) more) in
    λ i. dim_behind [] front x more k h i ∷ (ap (λ l. map (value l []) (place_exprs (suc k) bs)) again ∙ place_values g (front ++ x ∷ []) (suc k) bs (one_more front x k h)) i

at_places : (g : Env) (bs : List Begin) → results_of g (slow_at_places bs) ≡ begin_numbers g bs
unfolding results_of
at_places g bs =
    let zs = numbers g (named bs) in
    let l = length_numbers g (named bs) in
    (λ i. map (value (take_whole zs (length (named bs)) l i) (drop_whole zs (length (named bs)) l i)) (place_exprs 0 bs)) ∙ place_values g [] 0 bs refl

zero_values : (bs : List Begin) → map (value [] []) (zeros bs) ≡ replicate (length bs) (pos 0)
zero_values [] = refl
zero_values (b ∷ bs) = λ i. value-Const [] [] (pos 0) i ∷ zero_values bs i

at_zeros_results : (h : Env) (bs : List Begin) → results_of h (fast_at_zeros bs) ≡ pos 0 ∷ replicate (length bs) (pos 0)
unfolding results_of
at_zeros_results h bs = λ i. value-Const [] [] (pos 0) i ∷ zero_values bs i

zeros_fit : (bs : List Begin) → map_fits (fast_at_zeros bs) ≡ true
unfolding map_fits
zeros_fit bs = λ i. zero_leaves i && below bs i
  where
    below : (bs : List Begin) → list_all (has_leaves_below 0 0) (zeros bs) ≡ true
    below [] = refl
    below (b ∷ bs) = λ i. zero_leaves i && below bs i

length_begins : (name : ℕ → Name) (k : ℕ) (ds : List Dimension) → length (begins_from name k ds) ≡ length ds
length_begins name k [] = refl
length_begins name k (d ∷ ds) = ap suc (length_begins name (suc k) ds)

length_later : (v : Name) (z : ℤ) (ds : List Dimension) → length (dims_later v z ds) ≡ length ds
length_later v z [] = refl
length_later v z (d ∷ ds) = ap suc (length_later v z ds)

own_later : (own : Name → Bool) (v : Name) (z : ℤ) (ds : List Dimension) → OwnDims own ds → OwnDims own (dims_later v z ds)
own_later own v z [] h = tt
own_later own v z (d ∷ ds) h = (h.0, own_later own v z ds h.1)

module _ (own : Name → Bool) (name : ℕ → Name) (names : MadeNames own name) where
  not_own : (n : Name) → own n ≡ true → (i : ℕ) → same_name (name i) n ≡ false
  not_own n h i = sym_false (name i) n (apart_own own n (name i) h (names.made i))

  says_by : (c : Bool) (k : ℕ) (d : Dimension) (x : ℤ) (g : Env)
      → number ((if c then knows (knows g (least_name name k) (int_min x (last_place d))) (place_name name k) (clamp d x) else knows g (place_name name k) x).known (place_name name k)) ≡ (if c then clamp d x else x)
  says_by true k d x g = ap number (put-same _ (place_name name k) _ (place_name name k) (same_name-refl (place_name name k)))
  says_by false k d x g = ap number (put-same _ (place_name name k) _ (place_name name k) (same_name-refl (place_name name k)))

  says : (k : ℕ) (d : Dimension) (ts : List (Name × ℤ)) (g h : Env) → h.known (place_name name k) ≡ (statement_env name k d ts g).known (place_name name k)
      → begin_number h (begin name k d ts) ≡ (if d.clamped then clamp d (form_number g ts d.offset) else form_number g ts d.offset)
  says k d [] g h same = refl
  says k d (u ∷ ts) g h same = ap number same ∙ says_by d.clamped k d (form_number g (u ∷ ts) d.offset) g

  form_kept : (base g : Env) (ts : List (Name × ℤ)) (o : ℤ) → OwnNames own (term_names ts) → ((n : Name) → own n ≡ true → g.known n ≡ base.known n) → form_number g ts o ≡ form_number base ts o
  form_kept base g [] o h same = refl
  form_kept base g (u ∷ ts) o h same = λ i. number (same u.0 h.0 i) *ℤ u.1 +ℤ form_kept base g ts o h.1 same i

  places_say : (k : ℕ) (ds : List Dimension) (base g : Env) → OwnDims own ds → ((n : Name) → own n ≡ true → g.known n ≡ base.known n) → begin_numbers (places_env name k ds g) (begins_from name k ds) ≡ map (place_number base) ds
  places_say k [] base g h same = refl
  places_say k (d ∷ ds) base g h same =
      let g1 = statement_env name k d d.terms g in
      let kept : (places_env name (suc k) ds g1).known (place_name name k) ≡ g1.known (place_name name k) = places_keep name own names (suc k) ds g1 (place_name name k) (λ i l. other_name name own names i (7 + 4 * k) (λ e. omega (arith, l, e))) in
      λ i. (says k d d.terms g (places_env name (suc k) ds g1) kept ∙ ap (λ z. if d.clamped then clamp d z else z) (form_kept base g d.terms d.offset h.0 same)) i
      ∷ places_say (suc k) ds base g1 h.1 (λ n o. places_keep name own names k (d ∷ []) g n (λ i l. not_own n o i) ∙ same n o) i

abbrev BothSame : Env → Env → Option (Name × Name) → Type 0
BothSame e g None = Unit {0}
BothSame e g (Some two) = (g.known two.0 ≡ e.known two.0) × (g.known two.1 ≡ e.known two.1)

layout_same : (e g : Env) (n : Name) (stride : Option (Name × Name)) → g.known n ≡ e.known n → BothSame e g stride → layout_of g n stride ≡ layout_of e n stride
layout_same e g n None h k = λ i. record { count = gap (number (h i)); stride = gap (number (h i)); chunk = gap (number (h i)) }
layout_same e g n (Some two) h k = λ i. record { count = gap (number (h i)); stride = gap (number (k.0 i)); chunk = gap (number (k.1 i)) }

-- ---- a start ahead
module _ (own : Name → Bool) (buffers : ℕ) (v : Name) (lower upper : Bound) (s : ℕ) (z t : ℤ) (p : Placement) (stride : Option (Name × Name)) (name : ℕ → Name)
    (order first a b k : ℕ) (e g : Env) (some : 1 ≤ buffers) (c : IsAhead own buffers v lower upper s z t p stride name order first a b k e g) where
  abbrev ds : List Dimension
  ds = dims_later v z p.dims

  abbrev bs : List Begin
  bs = begins_from name 0 ds

  abbrev behind : Env
  behind = places_env name 0 ds g

  abbrev turn : ℕ
  turn = ring_place (t +ℤ z) s buffers

  is_behind : IsBehindPlaces name g behind
  is_behind =
      let h = places_homes name own c.names 0 ds g in
      record { home = h.home; fasts = h.fasts; tags = h.tags; known = λ n below. places_keep name own c.names 0 ds g n (λ i l. below i (omega (arith, l))) }

  turn_known : behind.known v ≡ Some t
  turn_known = is_behind.known v (λ i l. not_own own name c.names v c.own_turn i) ∙ c.later.now

  slow_same : results_of behind (slow_at_places bs) ≡ results_of e (slow_at_places (begins p))
  slow_same =
      at_places behind bs
      ∙ places_say own name c.names 0 ds g g (own_later own v z p.dims c.dims) (λ n o. refl)
      ∙ box_is_later own v z t e g p.dims c.later c.dims c.once
      ∙ sym c.places

  zeros_then : results_of e (fast_at_zeros (begins p)) ≡ pos 0 ∷ replicate (length p.dims) (pos 0)
  zeros_then = at_zeros_results e (begins p) ∙ ap (λ n. pos 0 ∷ replicate n (pos 0)) (length_begins p.name 0 p.dims)

  zeros_now : results_of behind (at_place buffers v lower upper (pos s) z (fast_at_zeros bs)) ≡ pos turn ∷ replicate (length p.dims) (pos 0)
  zeros_now =
      ring_place_is behind buffers v lower upper s z t (fast_at_zeros bs) some (zeros_fit bs) turn_known
      ∙ ap (λ l. pos turn ∷ drop 1 l) (at_zeros_results behind bs ∙ ap (λ n. pos 0 ∷ replicate n (pos 0)) (length_begins name 0 ds ∙ length_later v z p.dims))

  layout_now : layout_of behind (count_name p.name) stride ≡ layout_of e (count_name p.name) stride
  layout_now = layout_same e behind (count_name p.name) stride (beside (count_name p.name) c.count) (chunks stride c.chunks)
    where
      beside : (n : Name) → IsBeside name e g n → behind.known n ≡ e.known n
      beside n h = is_behind.known n h.1 ∙ h.0

      chunks : (o : Option (Name × Name)) → AreBeside name e g o → BothSame e behind o
      chunks None h = tt
      chunks (Some two) h = (beside two.0 h.0, beside two.1 h.1)

  tag_now : tag_of behind (tag_name p.name) (at_place buffers v lower upper (pos s) z tag_at_zero) (ring_tags buffers v lower upper (pos s)) ≡ Some (k + turn)
  tag_now = tag_in_ring behind buffers v (tag_name p.name) lower upper s z t k some turn_known (ap (λ f. f (tag_name p.name)) is_behind.home ∙ c.tag_now)

  start_now : (u : Transfer) → action_of (start_then own buffers v lower upper s z t p stride name) e ≡ Starts u
      → action_of (Start p.memref (slow_at_places bs) (fast_name p.name) (at_place buffers v lower upper (pos s) z (fast_at_zeros bs)) (tag_name p.name) (at_place buffers v lower upper (pos s) z tag_at_zero)
      (count_name p.name) stride (slow_type p ∷ ring_type buffers v lower upper (pos s) p ∷ ring_tags buffers v lower upper (pos s) ∷ [])) behind
      ≡ Starts (with_place u (k + turn) b turn)
  unfolding action_of place_of
  start_now u h =
      let slow_home = ap (λ f. f p.memref) is_behind.home ∙ c.slow_now in
      let fast_home = ap (λ f. f (fast_name p.name)) is_behind.home ∙ c.fast_now in
      let sizes = dim_sizes p.dims in
      let extents = dim_extents p.dims in
      let zs = results_of e (slow_at_places (begins p)) in
      let os = replicate (length p.dims) (pos 0) in
      let layout = layout_of e (count_name p.name) stride in
      let many = ring_type buffers v lower upper (pos s) p in
      let then_is : transfer_of true order first (slow_type p) (fast_type p) layout (slow_at first (cell_in sizes zs)) (fast_at a (Some 0) (cell_in extents os)) (tag_of e (tag_name p.name) tag_at_zero tag_type) ≡ Starts u =
      ap (λ n. transfer_of true order first (slow_type p) (fast_type p) layout (slow_at first (cell_in sizes zs)) (fast_at a n (cell_in extents os)) (tag_of e (tag_name p.name) tag_at_zero tag_type)) (sym (within_is 0 1 (omega arith)))
      ∙ (λ i. start_between (sym c.slow_then i) (sym c.fast_then i) (place_at (sym c.slow_then i) sizes zs) (place_at (sym c.fast_then i) (1 ∷ extents) (sym zeros_then i)) (slow_type p) (fast_type p) layout (tag_of e (tag_name p.name) tag_at_zero tag_type))
      ∙ h in
      (λ i. start_between (slow_home i) (fast_home i) (place_at (slow_home i) sizes (slow_same i)) (place_at (fast_home i) (buffers ∷ extents) (zeros_now i)) (slow_type p) many (layout_now i) (tag_now i))
      ∙ ap (λ n. transfer_of true order first (slow_type p) many layout (slow_at first (cell_in sizes zs)) (fast_at b n (cell_in extents os)) (Some (k + turn))) (within_is turn buffers (place_within (t +ℤ z) s buffers some))
      ∙ moved_transfer true order first (slow_type p) (fast_type p) many layout refl (slow_at first (cell_in sizes zs)) (cell_in extents os) (tag_of e (tag_name p.name) tag_at_zero tag_type) a b turn (k + turn) u then_is

pub starts_ahead : StartsAhead
unfolding after_plain
starts_ahead own buffers v lower upper s z t p stride name order first a b k e g u rest some c h =
    let ds = dims_later v z p.dims in
    let g1 = places_env name 0 ds g in (
      g1,
      is_behind own buffers v lower upper s z t p stride name order first a b k e g some c,
      places_run name 0 ds _ g
          ∙ ap (λ l. replicate (places_count name ds) Known ++ l) (actions-Does 0 _ rest g1 ∙ ap (λ x. x ∷ actions rest g1) (start_now own buffers v lower upper s z t p stride name order first a b k e g some c u h)),
    )

-- ---- waits, and starts out
pub waits_in_ring : WaitsInRing
unfolding action_of
waits_in_ring e g buffers v m n lower upper s t a k tag count some known home same h =
    let still : t +ℤ pos 0 ≡ t = omega (arith, ints) in
    (λ i. wait_of (tag_in_ring g buffers v m lower upper s (pos 0) t k some known home i) (gap (same i)))
    ∙ ap (λ x. Waits (k + ring_place x s buffers) (gap (number (e.known n)))) still
    ∙ ap (λ c. Waits (k + ring_place t s buffers) c) (counted (tag_of e m tag_at_zero tag_type) (gap (number (e.known n))) h)
  where
    held : Action → ℕ
    held (Waits x c) = c
    held a = 0

    counted : (o : Option ℕ) (c : ℕ) → wait_of o c ≡ Waits tag count → c ≡ count
    counted (Some x) c h = ap held h
    counted None c h = absurd (cc)

pub leaves_in_ring : LeavesInRing
unfolding action_of place_of
leaves_in_ring e g buffers v lower upper s t p stride from to zs order first a b k u some fits known slow_then slow_now fast_then fast_now tag_now re rg same layout_now h =
    let still : t +ℤ pos 0 ≡ t = omega (arith, ints) in
    let turn = ring_place t s buffers in
    let sizes = dim_sizes p.dims in
    let extents = dim_extents p.dims in
    let ys = results_of e to in
    let layout = layout_of e (count_name p.name) stride in
    let many = ring_type buffers v lower upper (pos s) p in
    let tag = tag_in_ring g buffers v (tag_name p.name) lower upper s (pos 0) t k some known tag_now ∙ ap (λ x. Some (k + ring_place x s buffers)) still in
    let here = ring_place_is g buffers v lower upper s (pos 0) t from some fits known ∙ (λ i. pos (ring_place (still i) s buffers) ∷ drop 1 (rg i)) in
    let then_is : transfer_of false order first (slow_type p) (fast_type p) layout (slow_at first (cell_in sizes ys)) (fast_at a (Some 0) (cell_in extents zs)) (tag_of e (tag_name p.name) tag_at_zero tag_type) ≡ Starts u =
    ap (λ n. transfer_of false order first (slow_type p) (fast_type p) layout (slow_at first (cell_in sizes ys)) (fast_at a n (cell_in extents zs)) (tag_of e (tag_name p.name) tag_at_zero tag_type)) (sym (within_is 0 1 (omega arith)))
    ∙ (λ i. start_between (sym fast_then i) (sym slow_then i) (place_at (sym fast_then i) (1 ∷ extents) (sym re i)) (place_at (sym slow_then i) sizes ys) (fast_type p) (slow_type p) layout (tag_of e (tag_name p.name) tag_at_zero tag_type))
    ∙ h in
    (λ i. start_between (fast_now i) (slow_now i) (place_at (fast_now i) (buffers ∷ extents) (here i)) (place_at (slow_now i) sizes (same i)) many (slow_type p) (layout_now i) (tag i))
    ∙ ap (λ n. transfer_of false order first (slow_type p) many layout (slow_at first (cell_in sizes ys)) (fast_at b n (cell_in extents zs)) (Some (k + turn))) (within_is turn buffers (place_within t s buffers some))
    ∙ moved_transfer false order first (slow_type p) (fast_type p) many layout refl (slow_at first (cell_in sizes ys)) (cell_in extents zs) (tag_of e (tag_name p.name) tag_at_zero tag_type) a b turn (k + turn) u then_is
