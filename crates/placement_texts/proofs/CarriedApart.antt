-- What has to hold at the loop of one placement carries over to the text in which a memref, maybe the same one, is staged at a
-- loop apart.
use Rattle.std.proofs.Common.{◌≡◌, ℕ, zero, suc, ◌+◌, ◌≤◌, ℤ, refl, sym, ◌∙◌, subst, arith, Bool, true, false}
use Rattle.affine_ast.specs.declared.name.Name.{Name}
use Rattle.affine_ast.specs.declared.types.Bound.{Bound}
use Rattle.affine_ast.specs.Names.{same_name}
use Rattle.affine_ast.proofs.Names.{same_name-sym}
use Rattle.placement_texts.proofs.Ready.{differ as apart_names}
use Rattle.affine_ast.specs.Nest.{Plain, Nest, Nothing, Loop, Branch, Does}
use Rattle.direct_meaning.specs.Turns.{turns}
use Rattle.direct_meaning.specs.Static.{Env, knows, lower_of, upper_of}
use Rattle.direct_meaning.specs.Actions.{after_plain, fasts_of_plain, tags_of_plain, fasts_in, tags_in, behind}
use Rattle.placement_texts.specs.Labels.{Numbers}
use Rattle.placement_texts.specs.Own.{OwnPlain, OwnNest, MadeNames}
use Rattle.boxes.specs.Every.{Every}
use Rattle.placement_texts.specs.Mapped.{mapped}
use Rattle.placement_texts.specs.Template.{Placement, dim_sizes, fast_name, tag_name, tags_made, behind_loop, redirect, staged_loop}
use Rattle.placement_texts.specs.Regions.{OwnDims}
use Rattle.placement_texts.specs.Spots.{Spot, Here, Behind, Inside, Other, IsLoop, HasLine, Disjoint, found, staged_at, fasts_before, tags_before, Fine, FineAt}
use Rattle.placement_texts.proofs.Follows.{Shifts, Follows, lower_same, upper_same, holds_same, behind_follows, after_follows, apart_own}
use Rattle.placement_texts.proofs.Everys.{every_both, every_along}
use Rattle.placement_texts.proofs.Nested.{fasts_after, tags_after}
use Rattle.placement_texts.proofs.BoxRun.{AtLoop, turned_env, box_env, box_follows}
use Rattle.placement_texts.proofs.Counts.{fasts_before_less, tags_before_less}
use Rattle.placement_texts.proofs.SpotRun.{mapped_same, room_before, room_behind, rebased, behind_staged, behind_before, in_turn}
use Rattle.placement_texts.proofs.Carried.{stay_reaches}
use Rattle.placement_texts.proofs.CarriedSpots.{fine_mapped}
use Rattle.placement_texts.proofs.Skipped.{Skips, before_skips, behind_skips}

-- `p` is staged, `o` is the other placement
module _ (own : Name → Bool) (p : Placement) (names : MadeNames own p.name) (order first : ℕ) (new : Numbers)
    (memref_own : own p.memref ≡ true) (dims_own : OwnDims own p.dims) (new_tags : new.tags ≡ tags_made p p.how)
    (o : Placement) (order' first' : ℕ) (o_own : own o.memref ≡ true) (o_dims : OwnDims own o.dims) where
  abbrev K : ℕ
  K = tags_made p p.how

  abbrev B : Env → Env → Type 0
  B e g = Follows own new 0 0 g e g

  -- the template has no access of its tag's name
  tag_differs : same_name (tag_name p.name) p.memref ≡ false
  tag_differs = same_name-sym (tag_name p.name) p.memref ∙ apart_own own p.memref (tag_name p.name) memref_own (names.made 1)

  tag_not_fast : same_name (tag_name p.name) (fast_name p.name) ≡ false
  tag_not_fast = apart_names own p names 1 0 (λ e. omega (arith, e))

  rb : (n : Nest) (e : Env) → e.fasts + fasts_in n ≤ new.fast → e.tags + tags_in n ≤ new.tag → Shifts own new 0 0 e.fasts (fasts_in n) e.tags (tags_in n)
  rb n e x y = room_before own new p.memref first (dim_sizes p.dims) e.fasts (fasts_in n) e.tags (tags_in n) x y

  ra : (n : Nest) (e : Env) → new.fast ≤ e.fasts → new.tag ≤ e.tags → Shifts own new 1 K e.fasts (fasts_in n) e.tags (tags_in n)
  ra n e x y = room_behind own new p.memref first (dim_sizes p.dims) K e.fasts (fasts_in n) e.tags (tags_in n) new_tags x y

  -- ---- at the other placement's loop
  abbrev pub OK : Spot → Nest → Env → Type 0
  OK t n e = FineAt o order' first' (found t n) n e

  fine_skips : (t : Spot) → Skips (tag_name p.name) (OK t)
  fine_skips t = record { does = λ q rest g s k. k; loop = λ v l u step body rest g s k. k }

  fine_stays : (a k : ℕ) (made : Env) (t : Spot) (n : Nest) (e g : Env) → OwnNest own n → Shifts own new a k e.fasts (fasts_in n) e.tags (tags_in n) → Follows own new a k made e g → OK t n e → OK t n g
  fine_stays a k made t n e g h m s j =
      subst (λ n. OK t n g) (mapped_same n)
      (fine_mapped own new a k o order' first' o_own o_dims (λ q. q) (λ q. refl) (λ q. refl) (λ q g. refl) made (λ spans q e g h s j. stay_reaches own new a k made o.memref order' first' spans o_own q e g h s j) t n e g h m s j)

  -- behind the staged loop
  at_loop : (t : Spot) (line : ℕ) (v : Name) (l u : Bound) (step : ℤ) (body rest : Nest) (e g : Env) → OwnNest own (Loop (suc line) v l u step body rest) → Fine p order first (Loop (suc line) v l u step body Nothing) e
      → e.fasts + 0 ≡ new.fast → e.tags + 0 ≡ new.tag → B e g → OK t rest (behind body e) → OK (Behind t) (staged_loop p (Loop (suc line) v l u step body rest) rest) g
  at_loop t line v l u step body rest e g h fine nf nt b j =
      before_skips (tag_name p.name) (OK (Behind t)) (fine_skips (Behind t)) p tag_differs tag_not_fast (Loop (suc line) v l u step (mapped (redirect p) body) (behind_loop p rest)) g
      (behind_skips (tag_name p.name) (OK t) (fine_skips t) p tag_differs tag_not_fast rest (turned_env own p names order first new e g at new_tags fine.elements (suc line) v l u step body)
      (fine_stays 1 K x t rest (behind body e) x h.4 (ra rest (behind body e) (let y = nf in omega (arith, y)) (let y = nt in omega (arith, y))) (box_follows own p names order first new e g at new_tags fine.elements (suc line) v l u step body) j))
    where
      at : AtLoop own p names order first new e g
      at = record { follows = b; fasts = (let x = nf in omega (arith, x)); tags = (let x = nt in omega (arith, x)); home = fine.home; memref_own = memref_own; dims_own = dims_own; lie = fine.lie }

      x : Env
      x = box_env own p names order first new e g at new_tags fine.elements (suc line) v l u step body

  -- what follows the statement that holds the loop
  inside_rest : (t s : Spot) (line : ℕ) (v : Name) (l u : Bound) (step : ℤ) (body rest : Nest) (e g : Env) → IsLoop s body → OwnNest own (Loop line v l u step body rest) → e.fasts + fasts_before s body ≡ new.fast → e.tags + tags_before s body ≡ new.tag → B e g
      → OK t rest (behind body e) → OK t rest (behind (staged_at p s body) g)
  inside_rest t s line v l u step body rest e g is h nf nt b j =
      let g1 = behind (staged_at p s body) g in
      fine_stays 1 K g1 t rest (behind body e) g1 h.4 (ra rest (behind body e) (let k = fasts_before_less s body in omega (arith, nf, k)) (let k = tags_before_less s body in omega (arith, nt, k)))
      (behind_staged own p names order first new memref_own dims_own new_tags s body e g is b) j

  behind_two : (x y : Nest) (e g : Env) → B e g → B (behind y (behind x e)) (behind y (behind x g))
  behind_two x y e g b = behind_before own p names order first new memref_own dims_own new_tags y (behind x e) (behind x g) (behind_before own p names order first new memref_own dims_own new_tags x e g b)

  first_rest : (t s : Spot) (x y rest : Nest) (e g : Env) → IsLoop s x → OwnNest own rest → e.fasts + fasts_before s x ≡ new.fast → e.tags + tags_before s x ≡ new.tag → B e g
      → OK t rest (behind y (behind x e)) → OK t rest (behind y (behind (staged_at p s x) g))
  first_rest t s x y rest e g is h nf nt b j =
      let g1 = behind (staged_at p s x) g in
      let s1 = behind_staged own p names order first new memref_own dims_own new_tags s x e g is b in
      let s2 = rebased own new p.memref first (dim_sizes p.dims) 1 K g1 (behind y (behind x e)) (behind y g1) (behind_follows own new 1 K g1 y y (behind x e) g1 refl refl s1) in
      fine_stays 1 K (behind y g1) t rest (behind y (behind x e)) (behind y g1) h
      (ra rest (behind y (behind x e)) (let k = fasts_before_less s x in omega (arith, nf, k)) (let k = tags_before_less s x in omega (arith, nt, k))) s2 j

  second_rest : (t s : Spot) (x y rest : Nest) (e g : Env) → IsLoop s y → OwnNest own rest → e.fasts + (fasts_in x + fasts_before s y) ≡ new.fast → e.tags + (tags_in x + tags_before s y) ≡ new.tag → B e g
      → OK t rest (behind y (behind x e)) → OK t rest (behind (staged_at p s y) (behind x g))
  second_rest t s x y rest e g is h nf nt b j =
      let g1 = behind (staged_at p s y) (behind x g) in
      let s1 = behind_staged own p names order first new memref_own dims_own new_tags s y (behind x e) (behind x g) is (behind_before own p names order first new memref_own dims_own new_tags x e g b) in
      fine_stays 1 K g1 t rest (behind y (behind x e)) g1 h
      (ra rest (behind y (behind x e)) (let k = fasts_before_less s y in omega (arith, nf, k)) (let k = tags_before_less s y in omega (arith, nt, k))) s1 j

  plain_before : (q : Plain) (f t : ℕ) (e g : Env) → OwnPlain own q → e.fasts + (fasts_of_plain q + f) ≡ new.fast → e.tags + (tags_of_plain q + t) ≡ new.tag → B e g → B (after_plain q e) (after_plain q g)
  plain_before q f t e g h nf nt b =
      let m = room_before own new p.memref first (dim_sizes p.dims) e.fasts (fasts_of_plain q) e.tags (tags_of_plain q) (omega (arith, nf)) (omega (arith, nt)) in
      rebased own new p.memref first (dim_sizes p.dims) 0 0 g (after_plain q e) (after_plain q g) (after_follows own new 0 0 g q e g h m b)

  other_loop : (t : Spot) (line : ℕ) (v : Name) (l u : Bound) (step : ℤ) (body rest : Nest) (g : Env) → OK (Other t) (staged_loop p (Loop (suc line) v l u step body rest) rest) g
  other_loop t line v l u step body rest g =
      before_skips (tag_name p.name) (OK (Other t)) (fine_skips (Other t)) p tag_differs tag_not_fast (Loop (suc line) v l u step (mapped (redirect p) body) (behind_loop p rest)) g tt

  pub carried_apart : (t s : Spot) (n : Nest) (e g : Env) → Disjoint (found t n) s → IsLoop s n → HasLine s n → OwnNest own n → FineAt p order first s n e → e.fasts + fasts_before s n ≡ new.fast → e.tags + tags_before s n ≡ new.tag → B e g
      → OK t n e → OK t (staged_at p s n) g
  carried_apart t s Nothing e g apart is line_ h fine nf nt b j = absurd is
  carried_apart t Here (Loop zero v l u step body rest) e g apart is line_ h fine nf nt b j = absurd line_
  carried_apart Here Here (Loop (suc line) v l u step body rest) e g apart is line_ h fine nf nt b j = absurd apart
  carried_apart (Inside t) Here (Loop (suc line) v l u step body rest) e g apart is line_ h fine nf nt b j = absurd apart
  carried_apart (Other t) Here (Loop (suc line) v l u step body rest) e g apart is line_ h fine nf nt b j = other_loop t line v l u step body rest g
  carried_apart (Behind t) Here (Loop (suc line) v l u step body rest) e g apart is line_ h fine nf nt b j = at_loop t line v l u step body rest e g h fine nf nt b j
  carried_apart t (Behind s) (Loop zero v l u step body rest) e g apart is line_ h fine nf nt b j =
      carried_apart t s rest (behind body e) (behind body g) apart is line_ h.4 fine (omega (arith, nf)) (omega (arith, nt)) (behind_before own p names order first new memref_own dims_own new_tags body e g b) j
  carried_apart (Behind t) (Behind s) (Loop (suc line) v l u step body rest) e g apart is line_ h fine nf nt b j =
      carried_apart t s rest (behind body e) (behind body g) apart is line_ h.4 fine (omega (arith, nf)) (omega (arith, nt)) (behind_before own p names order first new memref_own dims_own new_tags body e g b) j
  carried_apart Here (Behind s) (Loop (suc line) v l u step body rest) e g apart is line_ h fine nf nt b j =
      fine_stays 0 0 g Here (Loop (suc line) v l u step body Nothing) e g (h.0, h.1, h.2, h.3, tt) (rb (Loop (suc line) v l u step body Nothing) e (omega (arith, nf)) (omega (arith, nt))) b j
  carried_apart (Inside t) (Behind s) (Loop (suc line) v l u step body rest) e g apart is line_ h fine nf nt b j =
      fine_stays 0 0 g (Inside t) (Loop (suc line) v l u step body Nothing) e g (h.0, h.1, h.2, h.3, tt) (rb (Loop (suc line) v l u step body Nothing) e (omega (arith, nf)) (omega (arith, nt))) b j
  carried_apart (Other t) (Behind s) (Loop (suc line) v l u step body rest) e g apart is line_ h fine nf nt b j = tt
  carried_apart t (Inside s) (Loop zero v l u step body rest) e g apart is line_ h fine nf nt b j = inside_rest t s zero v l u step body rest e g is h nf nt b j
  carried_apart Here (Inside s) (Loop (suc line) v l u step body rest) e g apart is line_ h fine nf nt b j = absurd apart
  carried_apart (Behind t) (Inside s) (Loop (suc line) v l u step body rest) e g apart is line_ h fine nf nt b j = inside_rest t s (suc line) v l u step body rest e g is h nf nt b j
  carried_apart (Inside t) (Inside s) (Loop (suc line) v l u step body rest) e g apart is line_ h fine nf nt b j =
      let ts = turns (lower_of e l) (upper_of e u) step in
      subst (λ x. x) (λ i. Every (λ x. OK t (staged_at p s body) (knows g v x)) (turns (sym (lower_same own new 0 0 g e g l b h.1) i) (sym (upper_same own new 0 0 g e g u b h.2) i) step))
      (every_along (λ x. OK t body (knows e v x) × FineAt p order first s body (knows e v x)) (λ x. OK t (staged_at p s body) (knows g v x))
      (λ x q. carried_apart t s body (knows e v x) (knows g v x) apart is line_ h.3 q.1 nf nt (in_turn own p names order first new memref_own dims_own new_tags v x e g h.0 b) q.0) ts
      (every_both (λ x. OK t body (knows e v x)) (λ x. FineAt p order first s body (knows e v x)) ts j fine))
  carried_apart (Other t) (Inside s) (Loop (suc line) v l u step body rest) e g apart is line_ h fine nf nt b j = tt
  carried_apart t (Other s) (Loop line v l u step body rest) e g apart is line_ h fine nf nt b j = absurd is
  carried_apart t Here (Branch line set ns first_ has other rest) e g apart is line_ h fine nf nt b j = absurd is
  carried_apart t (Behind s) (Branch zero set ns first_ has other rest) e g apart is line_ h fine nf nt b j =
      carried_apart t s rest (behind other (behind first_ e)) (behind other (behind first_ g)) apart is line_ h.3 fine (omega (arith, nf)) (omega (arith, nt)) (behind_two first_ other e g b) j
  carried_apart (Behind t) (Behind s) (Branch (suc line) set ns first_ has other rest) e g apart is line_ h fine nf nt b j =
      carried_apart t s rest (behind other (behind first_ e)) (behind other (behind first_ g)) apart is line_ h.3 fine (omega (arith, nf)) (omega (arith, nt)) (behind_two first_ other e g b) j
  carried_apart Here (Behind s) (Branch (suc line) set ns first_ has other rest) e g apart is line_ h fine nf nt b j = tt
  carried_apart (Inside t) (Behind s) (Branch (suc line) set ns first_ has other rest) e g apart is line_ h fine nf nt b j =
      fine_stays 0 0 g (Inside t) (Branch (suc line) set ns first_ has other Nothing) e g (h.0, h.1, h.2, tt) (rb (Branch (suc line) set ns first_ has other Nothing) e (omega (arith, nf)) (omega (arith, nt))) b j
  carried_apart (Other t) (Behind s) (Branch (suc line) set ns first_ has other rest) e g apart is line_ h fine nf nt b j =
      fine_stays 0 0 g (Other t) (Branch (suc line) set ns first_ has other Nothing) e g (h.0, h.1, h.2, tt) (rb (Branch (suc line) set ns first_ has other Nothing) e (omega (arith, nf)) (omega (arith, nt))) b j
  carried_apart t (Inside s) (Branch zero set ns first_ has other rest) e g apart is line_ h fine nf nt b j = first_rest t s first_ other rest e g is h.3 nf nt b j
  carried_apart Here (Inside s) (Branch (suc line) set ns first_ has other rest) e g apart is line_ h fine nf nt b j = tt
  carried_apart (Behind t) (Inside s) (Branch (suc line) set ns first_ has other rest) e g apart is line_ h fine nf nt b j = first_rest t s first_ other rest e g is h.3 nf nt b j
  carried_apart (Inside t) (Inside s) (Branch (suc line) set ns first_ has other rest) e g apart is line_ h fine nf nt b j =
      λ y. let y' = sym (holds_same own new 0 0 g e g set ns b h.0) ∙ y in carried_apart t s first_ e g apart is line_ h.1 (fine y') nf nt b (j y')
  carried_apart (Other t) (Inside s) (Branch (suc line) set ns first_ has other rest) e g apart is line_ h fine nf nt b j =
      let g1 = behind (staged_at p s first_) g in
      λ y. fine_stays 1 K g1 t other (behind first_ e) g1 h.2 (ra other (behind first_ e) (let k = fasts_before_less s first_ in omega (arith, nf, k)) (let k = tags_before_less s first_ in omega (arith, nt, k)))
      (behind_staged own p names order first new memref_own dims_own new_tags s first_ e g is b) (j (sym (holds_same own new 0 0 g e g set ns b h.0) ∙ y))
  carried_apart t (Other s) (Branch zero set ns first_ has other rest) e g apart is line_ h fine nf nt b j = second_rest t s first_ other rest e g is h.3 nf nt b j
  carried_apart Here (Other s) (Branch (suc line) set ns first_ has other rest) e g apart is line_ h fine nf nt b j = tt
  carried_apart (Behind t) (Other s) (Branch (suc line) set ns first_ has other rest) e g apart is line_ h fine nf nt b j = second_rest t s first_ other rest e g is h.3 nf nt b j
  carried_apart (Inside t) (Other s) (Branch (suc line) set ns first_ has other rest) e g apart is line_ h fine nf nt b j =
      λ y. fine_stays 0 0 g t first_ e g h.1 (rb first_ e (omega (arith, nf)) (omega (arith, nt))) b (j (sym (holds_same own new 0 0 g e g set ns b h.0) ∙ y))
  carried_apart (Other t) (Other s) (Branch (suc line) set ns first_ has other rest) e g apart is line_ h fine nf nt b j =
      λ y. let y' = sym (holds_same own new 0 0 g e g set ns b h.0) ∙ y in
      carried_apart t s other (behind first_ e) (behind first_ g) apart is line_ h.2 (fine y') (omega (arith, nf)) (omega (arith, nt)) (behind_before own p names order first new memref_own dims_own new_tags first_ e g b) (j y')
  carried_apart t Here (Does line q rest) e g apart is line_ h fine nf nt b j = absurd is
  carried_apart t (Behind s) (Does zero q rest) e g apart is line_ h fine nf nt b j =
      let f = fasts_after q e in
      let w = tags_after q e in
      carried_apart t s rest (after_plain q e) (after_plain q g) apart is line_ h.1 fine (omega (arith, nf, f)) (omega (arith, nt, w)) (plain_before q (fasts_before s rest) (tags_before s rest) e g h.0 nf nt b) j
  carried_apart (Behind t) (Behind s) (Does (suc line) q rest) e g apart is line_ h fine nf nt b j =
      let f = fasts_after q e in
      let w = tags_after q e in
      carried_apart t s rest (after_plain q e) (after_plain q g) apart is line_ h.1 fine (omega (arith, nf, f)) (omega (arith, nt, w)) (plain_before q (fasts_before s rest) (tags_before s rest) e g h.0 nf nt b) j
  carried_apart Here (Behind s) (Does (suc line) q rest) e g apart is line_ h fine nf nt b j = tt
  carried_apart (Inside t) (Behind s) (Does (suc line) q rest) e g apart is line_ h fine nf nt b j = tt
  carried_apart (Other t) (Behind s) (Does (suc line) q rest) e g apart is line_ h fine nf nt b j = tt
  carried_apart t (Inside s) (Does line q rest) e g apart is line_ h fine nf nt b j = absurd is
  carried_apart t (Other s) (Does line q rest) e g apart is line_ h fine nf nt b j = absurd is
