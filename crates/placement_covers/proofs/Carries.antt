-- A loop that stores to each element of a box does so in the text in which another placement is staged.
use Rattle.std.proofs.Common.{◌≡◌, ◌⊎◌, inl, inr, ℕ, zero, suc, ◌+◌, ◌-◌, ◌<◌, ◌≤◌, ℤ, List, refl, sym, ap, ◌∙◌, subst, arith, Bool, true, false}
use Rattle.std.specs.Prelude.{if◌then◌else◌}
use Rattle.std.specs.List.{list_any}
use Rattle.affine_ast.specs.declared.name.Name.{Name}
use Rattle.affine_ast.specs.declared.types.Bound.{Bound}
use Rattle.affine_ast.specs.Names.{same_name}
use Rattle.affine_ast.proofs.Names.{same_name-sym}
use Rattle.affine_ast.specs.Nest.{Plain, Nest, Nothing, Loop, Branch, Does}
use Rattle.affine_ast.specs.Sizes.{product}
use Rattle.direct_meaning.specs.Action.{Action, Slow}
use Rattle.direct_meaning.specs.Actions.{action_of, after_plain, fasts_of_plain, tags_of_plain, fasts_in, tags_in, behind, actions}
use Rattle.direct_meaning.specs.Static.{Env, knows, lower_of, upper_of}
use Rattle.direct_meaning.specs.Turns.{turns}
use Rattle.boxes.specs.Boxes.{Side}
use Rattle.boxes.specs.Every.{Every}
use Rattle.box_run_laws.specs.Parts.{stores_to}
use Rattle.placement_texts.specs.Boxes.{sizes_of, extents_of, is_of, moved_to, box_cell, box_place}
use Rattle.placement_texts.specs.Each.{Each}
use Rattle.placement_texts.specs.Labels.{Numbers, action_up, action_in_box}
use Rattle.placement_texts.specs.Mapped.{mapped}
use Rattle.placement_texts.specs.Own.{OwnPlain, OwnNest, MadeNames}
use Rattle.placement_texts.specs.Regions.{OwnDims, ReachesBox, Tidy, spans_at}
use Rattle.placement_texts.specs.Spots.{Spot, Here, Behind, Inside, Other, IsLoop, HasLine, Disjoint, found, staged_at, fasts_before, tags_before, parts_at, Fine, FineAt}
use Rattle.placement_texts.specs.Template.{Placement, dim_sizes, fast_name, tag_name, tags_made, behind_loop, redirect, staged_loop}
use Rattle.placement_texts.proofs.BoxRun as box
use Rattle.placement_texts.proofs.BoxRun.{Redirects, loop_room, read_env, read_follows, stands, turned_env, box_env, box_follows}
use Rattle.placement_texts.proofs.Carried.{spans_follow}
use Rattle.placement_texts.proofs.CarriedSpots.{shifts_first, shifts_second}
use Rattle.placement_texts.proofs.Counts.{fasts_before_less, tags_before_less}
use Rattle.placement_texts.proofs.Everys.{every_both, every_along}
use Rattle.placement_texts.proofs.Follows.{Shifts, shifts_part, Follows, lower_same, upper_same, holds_same, known_follows, behind_follows, after_follows, apart_own}
use Rattle.placement_texts.proofs.Nested.{fasts_after, tags_after, fasts_mapped, tags_mapped, mapped_actions}
use Rattle.placement_texts.proofs.Ready.{differ as apart_names}
use Rattle.placement_texts.proofs.Redirect.{sizes_at, redirect_acts, redirect_after, redirect_fasts, redirect_tags}
use Rattle.placement_texts.proofs.Skipped.{Skips, before_skips, behind_skips}
use Rattle.placement_texts.proofs.SpotRun.{mapped_same, each_both, stays, room_before, room_behind, rebased, behind_staged, behind_before, in_turn, original_at, staged_run}
use Rattle.staging_laws.specs.Joined.{places_in}
use Rattle.staging_laws.specs.Spared.{AtLoop, StoresAll}
use Rattle.staging_laws.proofs.AtLoops.{at_all, boxes_at}
use Rattle.staging_laws.proofs.Covered.{any_map, action_kept, stores_kept}

-- the loop of `o` stores to each element of its box, and `A` holds of these
module _ (own : Name → Bool) (new : Numbers) (o : Placement) (first' : ℕ) (o_dims : OwnDims own o.dims) (A : ℕ → Type 0) where
  pub record Stores (loop : Nest) (e : Env) : Type 0 where
    pub stores : StoresAll first' (spans_at e o.dims) (actions loop e)
    pub away : (k : ℕ) → k < product (extents_of (spans_at e o.dims)) → A (places_in first' (spans_at e o.dims) k)

  abbrev pub K : Spot → Nest → Env → Type 0
  K t n e = AtLoop Stores (found t n) n e

  pub stores_follow : (a k : ℕ) (made : Env) (loop loop' : Nest) (e g : Env) → Follows own new a k made e g
      → ((q : ℕ) → A q → list_any (stores_to q) (actions loop e) ≡ true → list_any (stores_to q) (actions loop' g) ≡ true) → Stores loop e → Stores loop' g
  stores_follow a k made loop loop' e g s step h =
      let same = sym (spans_follow own new a k made e g o.dims o_dims s) in
      record {
        stores = subst (λ ss. StoresAll first' ss (actions loop' g)) same (λ i less. step (places_in first' (spans_at e o.dims) i) (h.away i less) (h.stores i less));
        away = subst (λ ss. (i : ℕ) → i < product (extents_of ss) → A (places_in first' ss i)) same h.away;
      }

  -- ---- a text whose plain statements were changed
  module _ (a k : ℕ) (change : Plain → Plain) (same_fasts : (q : Plain) → fasts_of_plain (change q) ≡ fasts_of_plain q) (same_tags : (q : Plain) → tags_of_plain (change q) ≡ tags_of_plain q)
      (same_after : (q : Plain) (g : Env) → after_plain (change q) g ≡ after_plain q g) (made : Env) (go : Action → Action) (P : Plain → Env → Type 0)
      (acts : (q : Plain) (e g : Env) → OwnPlain own q → P q e → Shifts own new a k e.fasts (fasts_of_plain q) e.tags (tags_of_plain q) → Follows own new a k made e g → action_of (change q) g ≡ go (action_of q e))
      (keeps : (q : ℕ) → A q → (x : Action) → stores_to q x ≡ true → stores_to q (go x) ≡ true) where
    abbrev F : Env → Env → Type 0
    F = Follows own new a k made

    abbrev Room : Nest → Env → Type 0
    Room n e = Shifts own new a k e.fasts (fasts_in n) e.tags (tags_in n)

    abbrev C : Nest → Nest
    C n = mapped change n

    passes : (n : Nest) (e g : Env) → F e g → F (behind n e) (behind (C n) g)
    passes n e g s = behind_follows own new a k made n (C n) e g (fasts_mapped change same_fasts same_tags n) (tags_mapped change same_fasts same_tags n) s

    first_room : (m m' : Nest) (e : Env) → Shifts own new a k e.fasts (fasts_in m + fasts_in m') e.tags (tags_in m + tags_in m') → Room m e
    first_room m m' e r = shifts_first own new a k e.fasts (fasts_in m) (fasts_in m') e.tags (tags_in m) (tags_in m') r

    second_room : (m m' : Nest) (e : Env) → Shifts own new a k e.fasts (fasts_in m + fasts_in m') e.tags (tags_in m + tags_in m') → Room m' (behind m e)
    second_room m m' e r = shifts_second own new a k e.fasts (fasts_in m) (fasts_in m') e.tags (tags_in m) (tags_in m') r

    alone_room : (n : Nest) (e : Env) → Room n e → Shifts own new a k e.fasts (fasts_in n + 0) e.tags (tags_in n + 0)
    alone_room n e r = shifts_part own new a k e.fasts (fasts_in n) e.fasts (fasts_in n + 0) e.tags (tags_in n) e.tags (tags_in n + 0) (omega arith) (omega arith) (omega arith) (omega arith) r

    branch_first : (x y z : Nest) (e : Env) → Shifts own new a k e.fasts (fasts_in x + fasts_in y + fasts_in z) e.tags (tags_in x + tags_in y + tags_in z) → Room x e
    branch_first x y z e r = shifts_part own new a k e.fasts (fasts_in x + fasts_in y + fasts_in z) e.fasts (fasts_in x) e.tags (tags_in x + tags_in y + tags_in z) e.tags (tags_in x) (omega arith) (omega arith) (omega arith) (omega arith) r

    branch_second : (x y z : Nest) (e : Env) → Shifts own new a k e.fasts (fasts_in x + fasts_in y + fasts_in z) e.tags (tags_in x + tags_in y + tags_in z) → Room y (behind x e)
    branch_second x y z e r =
        shifts_part own new a k e.fasts (fasts_in x + fasts_in y + fasts_in z) (e.fasts + fasts_in x) (fasts_in y) e.tags (tags_in x + tags_in y + tags_in z) (e.tags + tags_in x) (tags_in y) (omega arith) (omega arith) (omega arith) (omega arith) r

    branch_third : (x y z : Nest) (e : Env) → Shifts own new a k e.fasts (fasts_in x + fasts_in y + fasts_in z) e.tags (tags_in x + tags_in y + tags_in z) → Room z (behind y (behind x e))
    branch_third x y z e r =
        shifts_part own new a k e.fasts (fasts_in x + fasts_in y + fasts_in z) (e.fasts + fasts_in x + fasts_in y) (fasts_in z) e.tags (tags_in x + tags_in y + tags_in z) (e.tags + tags_in x + tags_in y) (tags_in z) (omega arith) (omega arith) (omega arith) (omega arith) r

    plain_room : (q : Plain) (rest : Nest) (e : Env) → Shifts own new a k e.fasts (fasts_of_plain q + fasts_in rest) e.tags (tags_of_plain q + tags_in rest) → Room rest (after_plain q e)
    plain_room q rest e r =
        let f = fasts_after q e in
        let t = tags_after q e in
        shifts_part own new a k e.fasts (fasts_of_plain q + fasts_in rest) (after_plain q e).fasts (fasts_in rest) e.tags (tags_of_plain q + tags_in rest) (after_plain q e).tags (tags_in rest) (omega (arith, f)) (omega (arith, f)) (omega (arith, t)) (omega (arith, t)) r

    plain_passes : (q : Plain) (rest : Nest) (e g : Env) → OwnPlain own q → Shifts own new a k e.fasts (fasts_of_plain q + fasts_in rest) e.tags (tags_of_plain q + tags_in rest) → F e g → F (after_plain q e) (after_plain (change q) g)
    plain_passes q rest e g h r s =
        subst (F (after_plain q e)) (sym (same_after q g)) (after_follows own new a k made q e g h (shifts_first own new a k e.fasts (fasts_of_plain q) (fasts_in rest) e.tags (tags_of_plain q) (tags_in rest) r) s)

    -- a loop's stores are the changed one's
    loop_mapped : (n : Nest) (e g : Env) → OwnNest own n → Each P n e → Room n e → F e g → Stores n e → Stores (C n) g
    loop_mapped n e g h j m s i =
        stores_follow a k made n (C n) e g s (λ q away any. subst (λ xs. list_any (stores_to q) xs ≡ true)
        (sym (mapped_actions change same_fasts same_tags own new a k made go P same_after acts n e g h j m s)) (any_map (stores_to q) go (keeps q away) (actions n e) any)) i

    pub cover_mapped : (t : Spot) (n : Nest) (e g : Env) → OwnNest own n → Each P n e → Room n e → F e g → K t n e → K t (C n) g
    cover_mapped t Nothing e g h j m s i = tt
    cover_mapped t (Loop zero v l u step body rest) e g h j m s i = cover_mapped t rest (behind body e) (behind (C body) g) h.4 j.1 (second_room body rest e m) (passes body e g s) i
    cover_mapped Here (Loop (suc line) v l u step body rest) e g h j m s i = loop_mapped (Loop (suc line) v l u step body Nothing) e g (h.0, h.1, h.2, h.3, tt) (j.0, tt) (alone_room body e (first_room body rest e m)) s i
    cover_mapped (Behind t) (Loop (suc line) v l u step body rest) e g h j m s i = cover_mapped t rest (behind body e) (behind (C body) g) h.4 j.1 (second_room body rest e m) (passes body e g s) i
    cover_mapped (Inside t) (Loop (suc line) v l u step body rest) e g h j m s i =
        let ts = turns (lower_of e l) (upper_of e u) step in
        subst (λ x. x) (λ w. Every (λ x. K t (C body) (knows g v x)) (turns (sym (lower_same own new a k made e g l s h.1) w) (sym (upper_same own new a k made e g u s h.2) w) step))
        (every_along (λ x. K t body (knows e v x) × Each P body (knows e v x)) (λ x. K t (C body) (knows g v x))
        (λ x b. cover_mapped t body (knows e v x) (knows g v x) h.3 b.1 (first_room body rest e m) (known_follows own new a k made e g v _ _ h.0 refl s) b.0) ts
        (every_both (λ x. K t body (knows e v x)) (λ x. Each P body (knows e v x)) ts i j.0))
    cover_mapped (Other t) (Loop (suc line) v l u step body rest) e g h j m s i = tt
    cover_mapped t (Branch zero set ns first_ has other rest) e g h j m s i =
        cover_mapped t rest (behind other (behind first_ e)) (behind (C other) (behind (C first_) g)) h.3 j.2 (branch_third first_ other rest e m) (passes other (behind first_ e) (behind (C first_) g) (passes first_ e g s)) i
    cover_mapped Here (Branch (suc line) set ns first_ has other rest) e g h j m s i = tt
    cover_mapped (Behind t) (Branch (suc line) set ns first_ has other rest) e g h j m s i =
        cover_mapped t rest (behind other (behind first_ e)) (behind (C other) (behind (C first_) g)) h.3 j.2 (branch_third first_ other rest e m) (passes other (behind first_ e) (behind (C first_) g) (passes first_ e g s)) i
    cover_mapped (Inside t) (Branch (suc line) set ns first_ has other rest) e g h j m s i =
        λ is. let is' = sym (holds_same own new a k made e g set ns s h.0) ∙ is in cover_mapped t first_ e g h.1 (j.0 is') (branch_first first_ other rest e m) s (i is')
    cover_mapped (Other t) (Branch (suc line) set ns first_ has other rest) e g h j m s i =
        λ is. let is' = sym (holds_same own new a k made e g set ns s h.0) ∙ is in
        cover_mapped t other (behind first_ e) (behind (C first_) g) h.2 (j.1 is') (branch_second first_ other rest e m) (passes first_ e g s) (i is')
    cover_mapped t (Does zero q rest) e g h j m s i = cover_mapped t rest (after_plain q e) (after_plain (change q) g) h.1 j.1 (plain_room q rest e m) (plain_passes q rest e g h.0 m s) i
    cover_mapped Here (Does (suc line) q rest) e g h j m s i = tt
    cover_mapped (Behind t) (Does (suc line) q rest) e g h j m s i = cover_mapped t rest (after_plain q e) (after_plain (change q) g) h.1 j.1 (plain_room q rest e m) (plain_passes q rest e g h.0 m s) i
    cover_mapped (Inside t) (Does (suc line) q rest) e g h j m s i = tt
    cover_mapped (Other t) (Does (suc line) q rest) e g h j m s i = tt

-- ---- `p` is staged
module _ (own : Name → Bool) (p : Placement) (names : MadeNames own p.name) (order first : ℕ) (new : Numbers)
    (memref_own : own p.memref ≡ true) (dims_own : OwnDims own p.dims) (new_tags : new.tags ≡ tags_made p p.how)
    (o : Placement) (first' : ℕ) (o_dims : OwnDims own o.dims) (A : ℕ → Type 0) where
  abbrev N : ℕ
  N = tags_made p p.how

  abbrev B : Env → Env → Type 0
  B e g = Follows own new 0 0 g e g

  abbrev T : Plain → Env → Type 0
  T = Tidy new p.memref first (dim_sizes p.dims)

  abbrev OK : Spot → Nest → Env → Type 0
  OK t n e = K own new o first' o_dims A t n e

  -- the elements are none of p's memref
  abbrev pub Away : Type 0
  Away = (q : ℕ) → A q → is_of first (dim_sizes p.dims) q ≡ false

  tag_differs : same_name (tag_name p.name) p.memref ≡ false
  tag_differs = same_name-sym (tag_name p.name) p.memref ∙ apart_own own p.memref (tag_name p.name) memref_own (names.made 1)

  tag_not_fast : same_name (tag_name p.name) (fast_name p.name) ≡ false
  tag_not_fast = apart_names own p names 1 0 (λ e. omega (arith, e))

  rb : (n : Nest) (e : Env) → e.fasts + fasts_in n ≤ new.fast → e.tags + tags_in n ≤ new.tag → Shifts own new 0 0 e.fasts (fasts_in n) e.tags (tags_in n)
  rb n e x y = room_before own new p.memref first (dim_sizes p.dims) e.fasts (fasts_in n) e.tags (tags_in n) x y

  ra : (n : Nest) (e : Env) → new.fast ≤ e.fasts → new.tag ≤ e.tags → Shifts own new 1 N e.fasts (fasts_in n) e.tags (tags_in n)
  ra n e x y = room_behind own new p.memref first (dim_sizes p.dims) N e.fasts (fasts_in n) e.tags (tags_in n) new_tags x y

  skips : (t : Spot) → Skips (tag_name p.name) (OK t)
  skips t = record { does = λ q rest g s k. k; loop = λ v l u step body rest g s k. k }

  -- statements that stay
  cover_stays : (a k : ℕ) (made : Env) (t : Spot) (n : Nest) (e g : Env) → OwnNest own n → Each T n e → Shifts own new a k e.fasts (fasts_in n) e.tags (tags_in n) → Follows own new a k made e g → OK t n e → OK t n g
  cover_stays a k made t n e g h j m s i =
      subst (λ n. OK t n g) (mapped_same n)
      (cover_mapped own new o first' o_dims A a k (λ q. q) (λ q. refl) (λ q. refl) (λ q g. refl) made (action_up new) T
      (λ q e g h j m s. stays own new p.memref first (dim_sizes p.dims) a k made q e g h j m s) (λ q away x is. action_kept p order first new q Slow refl x is) t n e g h j m s i)

  -- at the staged loop itself
  at_loop : (t : Spot) (line : ℕ) (v : Name) (l u : Bound) (step : ℤ) (body rest : Nest) (e g : Env) → Away ⊎ Disjoint (found t (Loop (suc line) v l u step body rest)) Here → OwnNest own (Loop (suc line) v l u step body rest) → Each T (Loop (suc line) v l u step body rest) e → Fine p order first (Loop (suc line) v l u step body Nothing) e
      → e.fasts + 0 ≡ new.fast → e.tags + 0 ≡ new.tag → B e g → OK t (Loop (suc line) v l u step body rest) e → OK t (staged_loop p (Loop (suc line) v l u step body rest) rest) g
  at_loop t line v l u step body rest e g c h j fine nf nt b i =
      before_skips (tag_name p.name) (OK t) (skips t) p tag_differs tag_not_fast (Loop (suc line) v l u step body' (behind_loop p rest)) g (by t c i)
    where
      body' : Nest
      body' = mapped (redirect p) body

      at : box.AtLoop own p names order first new e g
      at = record { follows = b; fasts = (let x = nf in omega (arith, x)); tags = (let x = nt in omega (arith, x)); home = fine.home; memref_own = memref_own; dims_own = dims_own; lie = fine.lie }

      ss : List Side
      ss = spans_at e p.dims

      r : Env
      r = read_env own p names order first new e g at new_tags fine.elements

      redirects : Each (Redirects own p names order first new ss) (Loop (suc line) v l u step body Nothing) e
      redirects =
          each_both (Tidy new p.memref first (sizes_of ss)) (ReachesBox p.memref order first ss) (Loop (suc line) v l u step body Nothing) e
          (subst (λ ns. Each (Tidy new p.memref first ns) (Loop (suc line) v l u step body Nothing) e) (sym (sizes_at e p.dims)) (j.0, tt)) fine.reaches

      kept : Away → (q : ℕ) → A q → (x : Action) → stores_to q x ≡ true → stores_to q (action_in_box first ss new x) ≡ true
      kept away q aq x is =
          let none : is_of first (sizes_of ss) q ≡ false = subst (λ ns. is_of first ns q ≡ false) (sym (sizes_at e p.dims)) (away q aq) in
          action_kept p order first new q (λ y. box_place first ss new.fast y) (ap (λ t. if t then moved_to new.fast q (box_cell ss (q - first)) else Slow q) none) x is

      alone : (t : Spot) → Away → OK t (Loop (suc line) v l u step body Nothing) e → OK t (Loop (suc line) v l u step body' Nothing) r
      alone t away i =
          cover_mapped own new o first' o_dims A 1 N (redirect p) (redirect_fasts p) (redirect_tags p) (redirect_after p) r (action_in_box first ss new) (Redirects own p names order first new ss)
          (λ q e' g' h j m s. redirect_acts own new 1 N r p order first ss (stands own p names order first new e g at new_tags fine.elements) q e' g' h j m s) (kept away) t (Loop (suc line) v l u step body Nothing) e r
          (h.0, h.1, h.2, h.3, tt) redirects (loop_room own p names order first new e g at new_tags fine.elements (Loop (suc line) v l u step body Nothing)) (read_follows own p names order first new e g at new_tags fine.elements) i

      by : (t : Spot) → Away ⊎ Disjoint (found t (Loop (suc line) v l u step body rest)) Here → OK t (Loop (suc line) v l u step body rest) e → OK t (Loop (suc line) v l u step body' (behind_loop p rest)) r
      by Here (inl away) i = alone Here away i
      by Here (inr d) i = absurd d
      by (Inside t) (inl away) i = alone (Inside t) away i
      by (Inside t) (inr d) i = absurd d
      by (Other t) c i = tt
      by (Behind t) c i =
          let x = box_env own p names order first new e g at new_tags fine.elements (suc line) v l u step body in
          behind_skips (tag_name p.name) (OK t) (skips t) p tag_differs tag_not_fast rest (turned_env own p names order first new e g at new_tags fine.elements (suc line) v l u step body)
          (cover_stays 1 N x t rest (behind body e) x h.4 j.1 (ra rest (behind body e) (let y = nf in omega (arith, y)) (let y = nt in omega (arith, y))) (box_follows own p names order first new e g at new_tags fine.elements (suc line) v l u step body) i)

  -- a loop within which p's loop stands
  around : (s : Spot) (line : ℕ) (v : Name) (l u : Bound) (step : ℤ) (body : Nest) (e g : Env) → Away → IsLoop s body → OwnNest own (Loop line v l u step body Nothing) → Each T (Loop line v l u step body Nothing) e
      → FineAt p order first (Inside s) (Loop line v l u step body Nothing) e → e.fasts + fasts_before s body ≡ new.fast → e.tags + tags_before s body ≡ new.tag → B e g
      → Stores own new o first' o_dims A (Loop line v l u step body Nothing) e → Stores own new o first' o_dims A (Loop line v l u step (staged_at p s body) Nothing) g
  around s line v l u step body e g away is h j fine nf nt b i =
      let loop = Loop line v l u step body Nothing in
      stores_follow own new o first' o_dims A 0 0 g loop (Loop line v l u step (staged_at p s body) Nothing) e g b (λ q aq any.
      let none : (e : Env) → is_of first (sizes_of (spans_at e p.dims)) q ≡ false = λ e. subst (λ ns. is_of first ns q ≡ false) (sym (sizes_at e p.dims)) (away q aq) in
      subst (λ xs. list_any (stores_to q) xs ≡ true) (staged_run own p names order first new memref_own dims_own new_tags (Inside s) loop e g is h j fine nf nt b)
      (stores_kept p order first new q (parts_at p (Inside s) loop e)
      (boxes_at (λ ss xs. is_of first (sizes_of ss) q ≡ false) p (Inside s) loop e (at_all (λ loop e. is_of first (sizes_of (spans_at e p.dims)) q ≡ false) (λ loop e. none e) (Inside s) loop e))
      (subst (λ xs. list_any (stores_to q) xs ≡ true) (sym (original_at p (Inside s) loop e)) any))) i

  -- what follows the statement that holds the loop
  inside_rest : (t s : Spot) (line : ℕ) (v : Name) (l u : Bound) (step : ℤ) (body rest : Nest) (e g : Env) → IsLoop s body → OwnNest own (Loop line v l u step body rest) → Each T (Loop line v l u step body rest) e → e.fasts + fasts_before s body ≡ new.fast → e.tags + tags_before s body ≡ new.tag → B e g
      → OK t rest (behind body e) → OK t rest (behind (staged_at p s body) g)
  inside_rest t s line v l u step body rest e g is h j nf nt b i =
      let g1 = behind (staged_at p s body) g in
      cover_stays 1 N g1 t rest (behind body e) g1 h.4 j.1 (ra rest (behind body e) (let k = fasts_before_less s body in omega (arith, nf, k)) (let k = tags_before_less s body in omega (arith, nt, k)))
      (behind_staged own p names order first new memref_own dims_own new_tags s body e g is b) i

  behind_two : (x y : Nest) (e g : Env) → B e g → B (behind y (behind x e)) (behind y (behind x g))
  behind_two x y e g b = behind_before own p names order first new memref_own dims_own new_tags y (behind x e) (behind x g) (behind_before own p names order first new memref_own dims_own new_tags x e g b)

  first_rest : (t s : Spot) (x y rest : Nest) (e g : Env) → IsLoop s x → OwnNest own rest → Each T rest (behind y (behind x e)) → e.fasts + fasts_before s x ≡ new.fast → e.tags + tags_before s x ≡ new.tag → B e g
      → OK t rest (behind y (behind x e)) → OK t rest (behind y (behind (staged_at p s x) g))
  first_rest t s x y rest e g is h j nf nt b i =
      let g1 = behind (staged_at p s x) g in
      let s1 = behind_staged own p names order first new memref_own dims_own new_tags s x e g is b in
      let s2 = rebased own new p.memref first (dim_sizes p.dims) 1 N g1 (behind y (behind x e)) (behind y g1) (behind_follows own new 1 N g1 y y (behind x e) g1 refl refl s1) in
      cover_stays 1 N (behind y g1) t rest (behind y (behind x e)) (behind y g1) h j
      (ra rest (behind y (behind x e)) (let k = fasts_before_less s x in omega (arith, nf, k)) (let k = tags_before_less s x in omega (arith, nt, k))) s2 i

  second_rest : (t s : Spot) (x y rest : Nest) (e g : Env) → IsLoop s y → OwnNest own rest → Each T rest (behind y (behind x e)) → e.fasts + (fasts_in x + fasts_before s y) ≡ new.fast → e.tags + (tags_in x + tags_before s y) ≡ new.tag → B e g
      → OK t rest (behind y (behind x e)) → OK t rest (behind (staged_at p s y) (behind x g))
  second_rest t s x y rest e g is h j nf nt b i =
      let g1 = behind (staged_at p s y) (behind x g) in
      let s1 = behind_staged own p names order first new memref_own dims_own new_tags s y (behind x e) (behind x g) is (behind_before own p names order first new memref_own dims_own new_tags x e g b) in
      cover_stays 1 N g1 t rest (behind y (behind x e)) g1 h j
      (ra rest (behind y (behind x e)) (let k = fasts_before_less s y in omega (arith, nf, k)) (let k = tags_before_less s y in omega (arith, nt, k))) s1 i

  plain_before : (q : Plain) (f t : ℕ) (e g : Env) → OwnPlain own q → e.fasts + (fasts_of_plain q + f) ≡ new.fast → e.tags + (tags_of_plain q + t) ≡ new.tag → B e g → B (after_plain q e) (after_plain q g)
  plain_before q f t e g h nf nt b =
      let m = room_before own new p.memref first (dim_sizes p.dims) e.fasts (fasts_of_plain q) e.tags (tags_of_plain q) (omega (arith, nf)) (omega (arith, nt)) in
      rebased own new p.memref first (dim_sizes p.dims) 0 0 g (after_plain q e) (after_plain q g) (after_follows own new 0 0 g q e g h m b)

  pub carried : (t s : Spot) (n : Nest) (e g : Env) → Away ⊎ Disjoint (found t n) s → IsLoop s n → HasLine s n → OwnNest own n → Each T n e → FineAt p order first s n e → e.fasts + fasts_before s n ≡ new.fast → e.tags + tags_before s n ≡ new.tag → B e g
      → OK t n e → OK t (staged_at p s n) g
  carried t s Nothing e g c is line_ h j fine nf nt b i = absurd is
  carried t Here (Loop zero v l u step body rest) e g c is line_ h j fine nf nt b i = absurd line_
  carried t Here (Loop (suc line) v l u step body rest) e g c is line_ h j fine nf nt b i = at_loop t line v l u step body rest e g c h j fine nf nt b i
  carried t (Behind s) (Loop zero v l u step body rest) e g c is line_ h j fine nf nt b i =
      carried t s rest (behind body e) (behind body g) c is line_ h.4 j.1 fine (omega (arith, nf)) (omega (arith, nt)) (behind_before own p names order first new memref_own dims_own new_tags body e g b) i
  carried (Behind t) (Behind s) (Loop (suc line) v l u step body rest) e g c is line_ h j fine nf nt b i =
      carried t s rest (behind body e) (behind body g) c is line_ h.4 j.1 fine (omega (arith, nf)) (omega (arith, nt)) (behind_before own p names order first new memref_own dims_own new_tags body e g b) i
  carried Here (Behind s) (Loop (suc line) v l u step body rest) e g c is line_ h j fine nf nt b i =
      cover_stays 0 0 g Here (Loop (suc line) v l u step body Nothing) e g (h.0, h.1, h.2, h.3, tt) (j.0, tt) (rb (Loop (suc line) v l u step body Nothing) e (omega (arith, nf)) (omega (arith, nt))) b i
  carried (Inside t) (Behind s) (Loop (suc line) v l u step body rest) e g c is line_ h j fine nf nt b i =
      cover_stays 0 0 g (Inside t) (Loop (suc line) v l u step body Nothing) e g (h.0, h.1, h.2, h.3, tt) (j.0, tt) (rb (Loop (suc line) v l u step body Nothing) e (omega (arith, nf)) (omega (arith, nt))) b i
  carried (Other t) (Behind s) (Loop (suc line) v l u step body rest) e g c is line_ h j fine nf nt b i = tt
  carried t (Inside s) (Loop zero v l u step body rest) e g c is line_ h j fine nf nt b i = inside_rest t s zero v l u step body rest e g is h j nf nt b i
  carried Here (Inside s) (Loop (suc line) v l u step body rest) e g (inl away) is line_ h j fine nf nt b i = around s (suc line) v l u step body e g away is (h.0, h.1, h.2, h.3, tt) (j.0, tt) fine nf nt b i
  carried Here (Inside s) (Loop (suc line) v l u step body rest) e g (inr d) is line_ h j fine nf nt b i = absurd d
  carried (Behind t) (Inside s) (Loop (suc line) v l u step body rest) e g c is line_ h j fine nf nt b i = inside_rest t s (suc line) v l u step body rest e g is h j nf nt b i
  carried (Inside t) (Inside s) (Loop (suc line) v l u step body rest) e g c is line_ h j fine nf nt b i =
      let ts = turns (lower_of e l) (upper_of e u) step in
      subst (λ x. x) (λ w. Every (λ x. OK t (staged_at p s body) (knows g v x)) (turns (sym (lower_same own new 0 0 g e g l b h.1) w) (sym (upper_same own new 0 0 g e g u b h.2) w) step))
      (every_along (λ x. OK t body (knows e v x) × (FineAt p order first s body (knows e v x) × Each T body (knows e v x))) (λ x. OK t (staged_at p s body) (knows g v x))
      (λ x q. carried t s body (knows e v x) (knows g v x) c is line_ h.3 q.1.1 q.1.0 nf nt (in_turn own p names order first new memref_own dims_own new_tags v x e g h.0 b) q.0) ts
      (every_both (λ x. OK t body (knows e v x)) (λ x. FineAt p order first s body (knows e v x) × Each T body (knows e v x)) ts i (every_both (λ x. FineAt p order first s body (knows e v x)) (λ x. Each T body (knows e v x)) ts fine j.0)))
  carried (Other t) (Inside s) (Loop (suc line) v l u step body rest) e g c is line_ h j fine nf nt b i = tt
  carried t (Other s) (Loop line v l u step body rest) e g c is line_ h j fine nf nt b i = absurd is
  carried t Here (Branch line set ns first_ has other rest) e g c is line_ h j fine nf nt b i = absurd is
  carried t (Behind s) (Branch zero set ns first_ has other rest) e g c is line_ h j fine nf nt b i =
      carried t s rest (behind other (behind first_ e)) (behind other (behind first_ g)) c is line_ h.3 j.2 fine (omega (arith, nf)) (omega (arith, nt)) (behind_two first_ other e g b) i
  carried (Behind t) (Behind s) (Branch (suc line) set ns first_ has other rest) e g c is line_ h j fine nf nt b i =
      carried t s rest (behind other (behind first_ e)) (behind other (behind first_ g)) c is line_ h.3 j.2 fine (omega (arith, nf)) (omega (arith, nt)) (behind_two first_ other e g b) i
  carried Here (Behind s) (Branch (suc line) set ns first_ has other rest) e g c is line_ h j fine nf nt b i = tt
  carried (Inside t) (Behind s) (Branch (suc line) set ns first_ has other rest) e g c is line_ h j fine nf nt b i =
      cover_stays 0 0 g (Inside t) (Branch (suc line) set ns first_ has other Nothing) e g (h.0, h.1, h.2, tt) (j.0, j.1, tt) (rb (Branch (suc line) set ns first_ has other Nothing) e (omega (arith, nf)) (omega (arith, nt))) b i
  carried (Other t) (Behind s) (Branch (suc line) set ns first_ has other rest) e g c is line_ h j fine nf nt b i =
      cover_stays 0 0 g (Other t) (Branch (suc line) set ns first_ has other Nothing) e g (h.0, h.1, h.2, tt) (j.0, j.1, tt) (rb (Branch (suc line) set ns first_ has other Nothing) e (omega (arith, nf)) (omega (arith, nt))) b i
  carried t (Inside s) (Branch zero set ns first_ has other rest) e g c is line_ h j fine nf nt b i = first_rest t s first_ other rest e g is h.3 j.2 nf nt b i
  carried Here (Inside s) (Branch (suc line) set ns first_ has other rest) e g c is line_ h j fine nf nt b i = tt
  carried (Behind t) (Inside s) (Branch (suc line) set ns first_ has other rest) e g c is line_ h j fine nf nt b i = first_rest t s first_ other rest e g is h.3 j.2 nf nt b i
  carried (Inside t) (Inside s) (Branch (suc line) set ns first_ has other rest) e g c is line_ h j fine nf nt b i =
      λ y. let y' = sym (holds_same own new 0 0 g e g set ns b h.0) ∙ y in carried t s first_ e g c is line_ h.1 (j.0 y') (fine y') nf nt b (i y')
  carried (Other t) (Inside s) (Branch (suc line) set ns first_ has other rest) e g c is line_ h j fine nf nt b i =
      let g1 = behind (staged_at p s first_) g in
      λ y. let y' = sym (holds_same own new 0 0 g e g set ns b h.0) ∙ y in
      cover_stays 1 N g1 t other (behind first_ e) g1 h.2 (j.1 y') (ra other (behind first_ e) (let k = fasts_before_less s first_ in omega (arith, nf, k)) (let k = tags_before_less s first_ in omega (arith, nt, k)))
      (behind_staged own p names order first new memref_own dims_own new_tags s first_ e g is b) (i y')
  carried t (Other s) (Branch zero set ns first_ has other rest) e g c is line_ h j fine nf nt b i = second_rest t s first_ other rest e g is h.3 j.2 nf nt b i
  carried Here (Other s) (Branch (suc line) set ns first_ has other rest) e g c is line_ h j fine nf nt b i = tt
  carried (Behind t) (Other s) (Branch (suc line) set ns first_ has other rest) e g c is line_ h j fine nf nt b i = second_rest t s first_ other rest e g is h.3 j.2 nf nt b i
  carried (Inside t) (Other s) (Branch (suc line) set ns first_ has other rest) e g c is line_ h j fine nf nt b i =
      λ y. let y' = sym (holds_same own new 0 0 g e g set ns b h.0) ∙ y in cover_stays 0 0 g t first_ e g h.1 (j.0 y') (rb first_ e (omega (arith, nf)) (omega (arith, nt))) b (i y')
  carried (Other t) (Other s) (Branch (suc line) set ns first_ has other rest) e g c is line_ h j fine nf nt b i =
      λ y. let y' = sym (holds_same own new 0 0 g e g set ns b h.0) ∙ y in
      carried t s other (behind first_ e) (behind first_ g) c is line_ h.2 (j.1 y') (fine y') (omega (arith, nf)) (omega (arith, nt)) (behind_before own p names order first new memref_own dims_own new_tags first_ e g b) (i y')
  carried t Here (Does line q rest) e g c is line_ h j fine nf nt b i = absurd is
  carried t (Behind s) (Does zero q rest) e g c is line_ h j fine nf nt b i =
      let f = fasts_after q e in
      let w = tags_after q e in
      carried t s rest (after_plain q e) (after_plain q g) c is line_ h.1 j.1 fine (omega (arith, nf, f)) (omega (arith, nt, w)) (plain_before q (fasts_before s rest) (tags_before s rest) e g h.0 nf nt b) i
  carried (Behind t) (Behind s) (Does (suc line) q rest) e g c is line_ h j fine nf nt b i =
      let f = fasts_after q e in
      let w = tags_after q e in
      carried t s rest (after_plain q e) (after_plain q g) c is line_ h.1 j.1 fine (omega (arith, nf, f)) (omega (arith, nt, w)) (plain_before q (fasts_before s rest) (tags_before s rest) e g h.0 nf nt b) i
  carried Here (Behind s) (Does (suc line) q rest) e g c is line_ h j fine nf nt b i = tt
  carried (Inside t) (Behind s) (Does (suc line) q rest) e g c is line_ h j fine nf nt b i = tt
  carried (Other t) (Behind s) (Does (suc line) q rest) e g c is line_ h j fine nf nt b i = tt
  carried t (Inside s) (Does line q rest) e g c is line_ h j fine nf nt b i = absurd is
  carried t (Other s) (Does line q rest) e g c is line_ h j fine nf nt b i = absurd is
