-- What has to hold at the loop of one placement carries over to the text in which another memref is staged.
use Rattle.std.proofs.Common.{◌≡◌, ℕ, zero, suc, ◌+◌, ◌≤◌, ℤ, List, [], ◌∷◌, refl, sym, ◌∙◌, subst, arith, Bool, true, false}
use Rattle.affine_ast.specs.declared.name.Name.{Name}
use Rattle.affine_ast.specs.declared.types.Bound.{Bound}
use Rattle.affine_ast.specs.Names.{same_name}
use Rattle.affine_ast.specs.Nest.{Plain, Nest, Nothing, Loop, Branch, Does, Value, Load, Store, RawLoad, RawStore, Constant, Binary, Cast, Alloc, Dealloc, Start, Wait, Return}
use Rattle.direct_meaning.specs.Turns.{turns}
use Rattle.direct_meaning.specs.Static.{Env, knows, lower_of, upper_of}
use Rattle.direct_meaning.specs.Actions.{after_plain, fasts_of_plain, tags_of_plain, fasts_in, tags_in, behind}
use Rattle.boxes.specs.Boxes.{Side}
use Rattle.placement_texts.specs.Labels.{Numbers}
use Rattle.placement_texts.specs.Own.{OwnPlain, OwnNest, MadeNames}
use Rattle.boxes.specs.Every.{Every}
use Rattle.placement_texts.specs.Each.{Each}
use Rattle.placement_texts.specs.Mapped.{mapped}
use Rattle.placement_texts.specs.Template.{Placement, dim_sizes, fast_name, tags_made, behind_loop, redirect, staged_loop}
use Rattle.placement_texts.specs.Regions.{OwnDims, ReachesBox}
use Rattle.placement_texts.specs.Spots.{Spot, Here, Behind, Inside, Other, IsLoop, HasLine, found, staged_at, fasts_before, tags_before, Fine, FineAt}
use Rattle.placement_texts.proofs.Follows.{Shifts, Follows, lower_same, upper_same, holds_same, behind_follows, after_follows, apart_own}
use Rattle.placement_texts.proofs.Everys.{every_both, every_along}
use Rattle.placement_texts.proofs.Nested.{fasts_after, tags_after}
use Rattle.placement_texts.proofs.Redirect.{redirect_after, redirect_fasts, redirect_tags}
use Rattle.placement_texts.proofs.BoxRun.{AtLoop, read_env, read_follows, loop_room, turned_env, box_env, box_follows}
use Rattle.placement_texts.proofs.Counts.{fasts_before_less, tags_before_less}
use Rattle.placement_texts.proofs.SpotRun.{mapped_same, room_before, room_behind, rebased, behind_staged, behind_before, in_turn}
use Rattle.placement_texts.proofs.Carried.{stay_reaches, redirect_reaches, each_mapped}
use Rattle.placement_texts.proofs.CarriedSpots.{fine_follows, fine_mapped}
use Rattle.placement_texts.proofs.Skipped.{Spares, SparesIn, Skips, before_skips, behind_skips}

every_all : {A : Type 0} (P : A → Type 0) → ((x : A) → P x) → (xs : List A) → Every P xs
every_all P h [] = tt
every_all P h (x ∷ xs) = (h x, every_all P h xs)

-- `p` is staged, `o` is the other placement
module _ (own : Name → Bool) (p : Placement) (names : MadeNames own p.name) (order first : ℕ) (new : Numbers)
    (memref_own : own p.memref ≡ true) (dims_own : OwnDims own p.dims) (new_tags : new.tags ≡ tags_made p p.how)
    (o : Placement) (order' first' : ℕ) (o_own : own o.memref ≡ true) (o_dims : OwnDims own o.dims) (differ : same_name o.memref p.memref ≡ false) where
  abbrev K : ℕ
  K = tags_made p p.how

  abbrev B : Env → Env → Type 0
  B e g = Follows own new 0 0 g e g

  fast_differs : same_name o.memref (fast_name p.name) ≡ false
  fast_differs = apart_own own o.memref (fast_name p.name) o_own (names.made 0)

  rb : (n : Nest) (e : Env) → e.fasts + fasts_in n ≤ new.fast → e.tags + tags_in n ≤ new.tag → Shifts own new 0 0 e.fasts (fasts_in n) e.tags (tags_in n)
  rb n e x y = room_before own new p.memref first (dim_sizes p.dims) e.fasts (fasts_in n) e.tags (tags_in n) x y

  ra : (n : Nest) (e : Env) → new.fast ≤ e.fasts → new.tag ≤ e.tags → Shifts own new 1 K e.fasts (fasts_in n) e.tags (tags_in n)
  ra n e x y = room_behind own new p.memref first (dim_sizes p.dims) K e.fasts (fasts_in n) e.tags (tags_in n) new_tags x y

  module _ (spans : List Side) where
    abbrev R : Plain → Env → Type 0
    R = ReachesBox o.memref order' first' spans

    -- ---- statements without an access of the memref
    no_access : (n : Name) {A : Type 0} → same_name o.memref n ≡ false → same_name o.memref n ≡ true → A
    no_access n f t = let z : true ≡ false = sym t ∙ f in absurd (cc)

    spares_one : (q : Plain) (g : Env) → Spares o.memref q → R q g
    spares_one (Load r n at ty) g s = λ t. no_access n s t
    spares_one (Store x n at ty) g s = λ t. no_access n s t
    spares_one (Value r pick at) g s = tt
    spares_one (RawLoad r n at ty) g s = tt
    spares_one (RawStore x n at ty) g s = tt
    spares_one (Constant r z ty) g s = tt
    spares_one (Binary r op x y ty) g s = tt
    spares_one (Cast r kind x from to) g s = tt
    spares_one (Alloc r ty) g s = tt
    spares_one (Dealloc n ty) g s = tt
    spares_one (Start x x_at y y_at t t_at n stride types) g s = tt
    spares_one (Wait t at n ty) g s = tt
    spares_one Return g s = tt

    spares_each : (n : Nest) (g : Env) → SparesIn o.memref n → Each R n g
    spares_each Nothing g s = tt
    spares_each (Loop line v l u step body rest) g s =
        (every_all (λ t. Each R body (knows g v t)) (λ t. spares_each body (knows g v t) s.0) (turns (lower_of g l) (upper_of g u) step), spares_each rest (behind body g) s.1)
    spares_each (Branch line set ns first_ has other rest) g s =
        ((λ t. spares_each first_ g s.0), (λ t. spares_each other (behind first_ g) s.1), spares_each rest (behind other (behind first_ g)) s.2)
    spares_each (Does line q rest) g s = (spares_one q g s.0, spares_each rest (after_plain q g) s.1)

    each_skips : Skips o.memref (Each R)
    each_skips = record {
      does = λ q rest g s k. (spares_one q g s, k);
      loop = λ v l u step body rest g s k. (every_all (λ t. Each R body (knows g v t)) (λ t. spares_each body (knows g v t) s) (turns (lower_of g l) (upper_of g u) step), k);
    }

    -- ---- statements that stay, and the loop's
    each_stays : (a k : ℕ) (made : Env) (n : Nest) (e g : Env) → OwnNest own n → Shifts own new a k e.fasts (fasts_in n) e.tags (tags_in n) → Follows own new a k made e g → Each R n e → Each R n g
    each_stays a k made n e g h m s j =
        subst (λ n. Each R n g) (mapped_same n)
        (each_mapped own new a k made (λ q. q) (λ q. refl) (λ q. refl) (λ q g. refl) R R (λ q e g h s j. stay_reaches own new a k made o.memref order' first' spans o_own q e g h s j) n e g h m s j)

    each_redirected : (a k : ℕ) (made : Env) (n : Nest) (e g : Env) → OwnNest own n → Shifts own new a k e.fasts (fasts_in n) e.tags (tags_in n) → Follows own new a k made e g → Each R n e → Each R (mapped (redirect p) n) g
    each_redirected a k made n e g h m s j =
        each_mapped own new a k made (redirect p) (redirect_fasts p) (redirect_tags p) (redirect_after p) R R (λ q e g h s j. redirect_reaches own new a k made o.memref order' first' spans o_own p (names.made 0) q e g h s j) n e g h m s j

    -- ---- the staged text
    pub each_staged : (s : Spot) (n : Nest) (e g : Env) → IsLoop s n → OwnNest own n → FineAt p order first s n e → e.fasts + fasts_before s n ≡ new.fast → e.tags + tags_before s n ≡ new.tag → B e g
        → Each R n e → Each R (staged_at p s n) g
    each_staged s Nothing e g is h fine nf nt b j = absurd is
    each_staged Here (Loop line v l u step body rest) e g is h fine nf nt b j =
        let at : AtLoop own p names order first new e g = record { follows = b; fasts = omega (arith, nf); tags = omega (arith, nt); home = fine.home; memref_own = memref_own; dims_own = dims_own; lie = fine.lie } in
        let r = read_env own p names order first new e g at new_tags fine.elements in
        let t = turned_env own p names order first new e g at new_tags fine.elements line v l u step body in
        let x = box_env own p names order first new e g at new_tags fine.elements line v l u step body in
        let loop : Each R (Loop line v l u step (mapped (redirect p) body) Nothing) r =
        each_redirected 1 K r (Loop line v l u step body Nothing) e r (h.0, h.1, h.2, h.3, tt) (loop_room own p names order first new e g at new_tags fine.elements (Loop line v l u step body Nothing)) (read_follows own p names order first new e g at new_tags fine.elements) (j.0, tt) in
        let after_ : Each R rest x =
        each_stays 1 K x rest (behind body e) x h.4 (ra rest (behind body e) (omega (arith, nf)) (omega (arith, nt))) (box_follows own p names order first new e g at new_tags fine.elements line v l u step body) j.1 in
        before_skips o.memref (Each R) each_skips p differ fast_differs (Loop line v l u step (mapped (redirect p) body) (behind_loop p rest)) g
        (loop.0, behind_skips o.memref (Each R) each_skips p differ fast_differs rest t after_)
    each_staged (Behind s) (Loop line v l u step body rest) e g is h fine nf nt b j =
        let body_same : Each R (Loop line v l u step body Nothing) g =
        each_stays 0 0 g (Loop line v l u step body Nothing) e g (h.0, h.1, h.2, h.3, tt) (rb (Loop line v l u step body Nothing) e (omega (arith, nf)) (omega (arith, nt))) b (j.0, tt) in
        (body_same.0, each_staged s rest (behind body e) (behind body g) is h.4 fine (omega (arith, nf)) (omega (arith, nt)) (behind_before own p names order first new memref_own dims_own new_tags body e g b) j.1)
    each_staged (Inside s) (Loop line v l u step body rest) e g is h fine nf nt b j =
        let ts = turns (lower_of e l) (upper_of e u) step in
        let g1 = behind (staged_at p s body) g in (
          subst (λ x. x) (λ i. Every (λ t. Each R (staged_at p s body) (knows g v t)) (turns (sym (lower_same own new 0 0 g e g l b h.1) i) (sym (upper_same own new 0 0 g e g u b h.2) i) step))
              (every_along (λ t. Each R body (knows e v t) × FineAt p order first s body (knows e v t)) (λ t. Each R (staged_at p s body) (knows g v t))
              (λ t q. each_staged s body (knows e v t) (knows g v t) is h.3 q.1 nf nt (in_turn own p names order first new memref_own dims_own new_tags v t e g h.0 b) q.0) ts
              (every_both (λ t. Each R body (knows e v t)) (λ t. FineAt p order first s body (knows e v t)) ts j.0 fine)),
          each_stays 1 K g1 rest (behind body e) g1 h.4
              (ra rest (behind body e) (let k = fasts_before_less s body in omega (arith, nf, k)) (let k = tags_before_less s body in omega (arith, nt, k)))
              (behind_staged own p names order first new memref_own dims_own new_tags s body e g is b) j.1,
        )
    each_staged (Other s) (Loop line v l u step body rest) e g is h fine nf nt b j = absurd is
    each_staged Here (Branch line set ns first_ has other rest) e g is h fine nf nt b j = absurd is
    each_staged (Behind s) (Branch line set ns first_ has other rest) e g is h fine nf nt b j =
        let same : Each R (Branch line set ns first_ has other Nothing) g =
        each_stays 0 0 g (Branch line set ns first_ has other Nothing) e g (h.0, h.1, h.2, tt) (rb (Branch line set ns first_ has other Nothing) e (omega (arith, nf)) (omega (arith, nt))) b (j.0, j.1, tt) in (
          same.0,
          same.1,
          each_staged s rest (behind other (behind first_ e)) (behind other (behind first_ g)) is h.3 fine (omega (arith, nf)) (omega (arith, nt))
              (behind_before own p names order first new memref_own dims_own new_tags other (behind first_ e) (behind first_ g) (behind_before own p names order first new memref_own dims_own new_tags first_ e g b)) j.2,
        )
    each_staged (Inside s) (Branch line set ns first_ has other rest) e g is h fine nf nt b j =
        let truth = holds_same own new 0 0 g e g set ns b h.0 in
        let s1 = behind_staged own p names order first new memref_own dims_own new_tags s first_ e g is b in
        let g1 = behind (staged_at p s first_) g in
        let s2 = rebased own new p.memref first (dim_sizes p.dims) 1 K g1 (behind other (behind first_ e)) (behind other g1) (behind_follows own new 1 K g1 other other (behind first_ e) g1 refl refl s1) in (
          (λ t. let t' = sym truth ∙ t in each_staged s first_ e g is h.1 (fine t') nf nt b (j.0 t')),
          (λ t. each_stays 1 K g1 other (behind first_ e) g1 h.2 (ra other (behind first_ e) (let k = fasts_before_less s first_ in omega (arith, nf, k)) (let k = tags_before_less s first_ in omega (arith, nt, k))) s1 (j.1 (sym truth ∙ t))),
          each_stays 1 K (behind other g1) rest (behind other (behind first_ e)) (behind other g1) h.3
              (ra rest (behind other (behind first_ e)) (let k = fasts_before_less s first_ in omega (arith, nf, k)) (let k = tags_before_less s first_ in omega (arith, nt, k))) s2 j.2,
        )
    each_staged (Other s) (Branch line set ns first_ has other rest) e g is h fine nf nt b j =
        let truth = holds_same own new 0 0 g e g set ns b h.0 in
        let b1 = behind_before own p names order first new memref_own dims_own new_tags first_ e g b in
        let s1 = behind_staged own p names order first new memref_own dims_own new_tags s other (behind first_ e) (behind first_ g) is b1 in
        let g1 = behind (staged_at p s other) (behind first_ g) in (
          (λ t. each_stays 0 0 g first_ e g h.1 (rb first_ e (omega (arith, nf)) (omega (arith, nt))) b (j.0 (sym truth ∙ t))),
          (λ t. let t' = sym truth ∙ t in each_staged s other (behind first_ e) (behind first_ g) is h.2 (fine t') (omega (arith, nf)) (omega (arith, nt)) b1 (j.1 t')),
          each_stays 1 K g1 rest (behind other (behind first_ e)) g1 h.3
              (ra rest (behind other (behind first_ e)) (let k = fasts_before_less s other in omega (arith, nf, k)) (let k = tags_before_less s other in omega (arith, nt, k))) s1 j.2,
        )
    each_staged Here (Does line q rest) e g is h fine nf nt b j = absurd is
    each_staged (Behind s) (Does line q rest) e g is h fine nf nt b j =
        let f = fasts_after q e in
        let t = tags_after q e in
        let m = room_before own new p.memref first (dim_sizes p.dims) e.fasts (fasts_of_plain q) e.tags (tags_of_plain q) (omega (arith, nf)) (omega (arith, nt)) in
        let b1 = rebased own new p.memref first (dim_sizes p.dims) 0 0 g (after_plain q e) (after_plain q g) (after_follows own new 0 0 g q e g h.0 m b) in
        (stay_reaches own new 0 0 g o.memref order' first' spans o_own q e g h.0 b j.0, each_staged s rest (after_plain q e) (after_plain q g) is h.1 fine (omega (arith, nf, f)) (omega (arith, nt, t)) b1 j.1)
    each_staged (Inside s) (Does line q rest) e g is h fine nf nt b j = absurd is
    each_staged (Other s) (Does line q rest) e g is h fine nf nt b j = absurd is

  -- ---- at the other placement's loop
  abbrev pub OK : Spot → Nest → Env → Type 0
  OK t n e = FineAt o order' first' (found t n) n e

  fine_skips : (t : Spot) → Skips o.memref (OK t)
  fine_skips t = record { does = λ q rest g s k. k; loop = λ v l u step body rest g s k. k }

  fine_stays : (a k : ℕ) (made : Env) (t : Spot) (n : Nest) (e g : Env) → OwnNest own n → Shifts own new a k e.fasts (fasts_in n) e.tags (tags_in n) → Follows own new a k made e g → OK t n e → OK t n g
  fine_stays a k made t n e g h m s j =
      subst (λ n. OK t n g) (mapped_same n)
      (fine_mapped own new a k o order' first' o_own o_dims (λ q. q) (λ q. refl) (λ q. refl) (λ q g. refl) made (λ spans q e g h s j. stay_reaches own new a k made o.memref order' first' spans o_own q e g h s j) t n e g h m s j)

  fine_redirected : (a k : ℕ) (made : Env) (t : Spot) (n : Nest) (e g : Env) → OwnNest own n → Shifts own new a k e.fasts (fasts_in n) e.tags (tags_in n) → Follows own new a k made e g → OK t n e → OK t (mapped (redirect p) n) g
  fine_redirected a k made t n e g h m s j =
      fine_mapped own new a k o order' first' o_own o_dims (redirect p) (redirect_fasts p) (redirect_tags p) (redirect_after p) made
      (λ spans q e g h s j. redirect_reaches own new a k made o.memref order' first' spans o_own p (names.made 0) q e g h s j) t n e g h m s j

  -- at the staged loop itself
  at_loop : (t : Spot) (line : ℕ) (v : Name) (l u : Bound) (step : ℤ) (body rest : Nest) (e g : Env) → OwnNest own (Loop (suc line) v l u step body rest) → Fine p order first (Loop (suc line) v l u step body Nothing) e
      → e.fasts + 0 ≡ new.fast → e.tags + 0 ≡ new.tag → B e g → OK t (Loop (suc line) v l u step body rest) e → OK t (staged_loop p (Loop (suc line) v l u step body rest) rest) g
  at_loop t line v l u step body rest e g h fine nf nt b j =
      before_skips o.memref (OK t) (fine_skips t) p differ fast_differs (Loop (suc line) v l u step body' (behind_loop p rest)) g (by t j)
    where
      body' : Nest
      body' = mapped (redirect p) body

      at : AtLoop own p names order first new e g
      at = record { follows = b; fasts = (let x = nf in omega (arith, x)); tags = (let x = nt in omega (arith, x)); home = fine.home; memref_own = memref_own; dims_own = dims_own; lie = fine.lie }

      r : Env
      r = read_env own p names order first new e g at new_tags fine.elements

      alone : (t : Spot) → OK t (Loop (suc line) v l u step body Nothing) e → OK t (Loop (suc line) v l u step body' Nothing) r
      alone t j = fine_redirected 1 K r t (Loop (suc line) v l u step body Nothing) e r (h.0, h.1, h.2, h.3, tt) (loop_room own p names order first new e g at new_tags fine.elements (Loop (suc line) v l u step body Nothing)) (read_follows own p names order first new e g at new_tags fine.elements) j

      by : (t : Spot) → OK t (Loop (suc line) v l u step body rest) e → OK t (Loop (suc line) v l u step body' (behind_loop p rest)) r
      by Here j = alone Here j
      by (Inside t) j = alone (Inside t) j
      by (Other t) j = tt
      by (Behind t) j =
          let x = box_env own p names order first new e g at new_tags fine.elements (suc line) v l u step body in
          behind_skips o.memref (OK t) (fine_skips t) p differ fast_differs rest (turned_env own p names order first new e g at new_tags fine.elements (suc line) v l u step body)
          (fine_stays 1 K x t rest (behind body e) x h.4 (ra rest (behind body e) (let y = nf in omega (arith, y)) (let y = nt in omega (arith, y))) (box_follows own p names order first new e g at new_tags fine.elements (suc line) v l u step body) j)

  -- what follows the statement that holds the loop
  inside_rest : (t s : Spot) (line : ℕ) (v : Name) (l u : Bound) (step : ℤ) (body rest : Nest) (e g : Env) → IsLoop s body → OwnNest own (Loop line v l u step body rest) → e.fasts + fasts_before s body ≡ new.fast → e.tags + tags_before s body ≡ new.tag → B e g
      → OK t rest (behind body e) → OK t rest (behind (staged_at p s body) g)
  inside_rest t s line v l u step body rest e g is h nf nt b j =
      let g1 = behind (staged_at p s body) g in
      fine_stays 1 K g1 t rest (behind body e) g1 h.4 (ra rest (behind body e) (let k = fasts_before_less s body in omega (arith, nf, k)) (let k = tags_before_less s body in omega (arith, nt, k)))
      (behind_staged own p names order first new memref_own dims_own new_tags s body e g is b) j

  behind_two : (x y : Nest) (e g : Env) → B e g → B (behind y (behind x e)) (behind y (behind x g))
  behind_two x y e g b = behind_before own p names order first new memref_own dims_own new_tags y (behind x e) (behind x g) (behind_before own p names order first new memref_own dims_own new_tags x e g b)

  first_rest : (t s : Spot) (x y rest : Nest) (e g : Env) → IsLoop s x → OwnNest own rest → e.fasts + fasts_before s x ≡ new.fast → e.tags + tags_before s x ≡ new.tag → B e g
      → OK t rest (behind y (behind x e)) → OK t rest (behind y (behind (staged_at p s x) g))
  first_rest t s x y rest e g is h nf nt b j =
      let g1 = behind (staged_at p s x) g in
      let s1 = behind_staged own p names order first new memref_own dims_own new_tags s x e g is b in
      let s2 = rebased own new p.memref first (dim_sizes p.dims) 1 K g1 (behind y (behind x e)) (behind y g1) (behind_follows own new 1 K g1 y y (behind x e) g1 refl refl s1) in
      fine_stays 1 K (behind y g1) t rest (behind y (behind x e)) (behind y g1) h
      (ra rest (behind y (behind x e)) (let k = fasts_before_less s x in omega (arith, nf, k)) (let k = tags_before_less s x in omega (arith, nt, k))) s2 j

  second_rest : (t s : Spot) (x y rest : Nest) (e g : Env) → IsLoop s y → OwnNest own rest → e.fasts + (fasts_in x + fasts_before s y) ≡ new.fast → e.tags + (tags_in x + tags_before s y) ≡ new.tag → B e g
      → OK t rest (behind y (behind x e)) → OK t rest (behind (staged_at p s y) (behind x g))
  second_rest t s x y rest e g is h nf nt b j =
      let g1 = behind (staged_at p s y) (behind x g) in
      let s1 = behind_staged own p names order first new memref_own dims_own new_tags s y (behind x e) (behind x g) is (behind_before own p names order first new memref_own dims_own new_tags x e g b) in
      fine_stays 1 K g1 t rest (behind y (behind x e)) g1 h
      (ra rest (behind y (behind x e)) (let k = fasts_before_less s y in omega (arith, nf, k)) (let k = tags_before_less s y in omega (arith, nt, k))) s1 j

  plain_before : (q : Plain) (f t : ℕ) (e g : Env) → OwnPlain own q → e.fasts + (fasts_of_plain q + f) ≡ new.fast → e.tags + (tags_of_plain q + t) ≡ new.tag → B e g → B (after_plain q e) (after_plain q g)
  plain_before q f t e g h nf nt b =
      let m = room_before own new p.memref first (dim_sizes p.dims) e.fasts (fasts_of_plain q) e.tags (tags_of_plain q) (omega (arith, nf)) (omega (arith, nt)) in
      rebased own new p.memref first (dim_sizes p.dims) 0 0 g (after_plain q e) (after_plain q g) (after_follows own new 0 0 g q e g h m b)

  pub carried : (t s : Spot) (n : Nest) (e g : Env) → IsLoop s n → HasLine s n → OwnNest own n → FineAt p order first s n e → e.fasts + fasts_before s n ≡ new.fast → e.tags + tags_before s n ≡ new.tag → B e g
      → OK t n e → OK t (staged_at p s n) g
  carried t s Nothing e g is line_ h fine nf nt b j = absurd is
  carried t Here (Loop zero v l u step body rest) e g is line_ h fine nf nt b j = absurd line_
  carried t Here (Loop (suc line) v l u step body rest) e g is line_ h fine nf nt b j = at_loop t line v l u step body rest e g h fine nf nt b j
  carried t (Behind s) (Loop zero v l u step body rest) e g is line_ h fine nf nt b j =
      carried t s rest (behind body e) (behind body g) is line_ h.4 fine (omega (arith, nf)) (omega (arith, nt)) (behind_before own p names order first new memref_own dims_own new_tags body e g b) j
  carried (Behind t) (Behind s) (Loop (suc line) v l u step body rest) e g is line_ h fine nf nt b j =
      carried t s rest (behind body e) (behind body g) is line_ h.4 fine (omega (arith, nf)) (omega (arith, nt)) (behind_before own p names order first new memref_own dims_own new_tags body e g b) j
  carried Here (Behind s) (Loop (suc line) v l u step body rest) e g is line_ h fine nf nt b j =
      fine_stays 0 0 g Here (Loop (suc line) v l u step body Nothing) e g (h.0, h.1, h.2, h.3, tt) (rb (Loop (suc line) v l u step body Nothing) e (omega (arith, nf)) (omega (arith, nt))) b j
  carried (Inside t) (Behind s) (Loop (suc line) v l u step body rest) e g is line_ h fine nf nt b j =
      fine_stays 0 0 g (Inside t) (Loop (suc line) v l u step body Nothing) e g (h.0, h.1, h.2, h.3, tt) (rb (Loop (suc line) v l u step body Nothing) e (omega (arith, nf)) (omega (arith, nt))) b j
  carried (Other t) (Behind s) (Loop (suc line) v l u step body rest) e g is line_ h fine nf nt b j = tt
  carried t (Inside s) (Loop zero v l u step body rest) e g is line_ h fine nf nt b j = inside_rest t s zero v l u step body rest e g is h nf nt b j
  carried Here (Inside s) (Loop (suc line) v l u step body rest) e g is line_ h fine nf nt b j =
      fine_follows own new 0 0 o order' first' o_own o_dims g (Loop (suc line) v l u step body Nothing) (Loop (suc line) v l u step (staged_at p s body) Nothing) e g b
      (λ spans r. each_staged spans (Inside s) (Loop (suc line) v l u step body Nothing) e g is (h.0, h.1, h.2, h.3, tt) fine nf nt b r) j
  carried (Behind t) (Inside s) (Loop (suc line) v l u step body rest) e g is line_ h fine nf nt b j = inside_rest t s (suc line) v l u step body rest e g is h nf nt b j
  carried (Inside t) (Inside s) (Loop (suc line) v l u step body rest) e g is line_ h fine nf nt b j =
      let ts = turns (lower_of e l) (upper_of e u) step in
      subst (λ x. x) (λ i. Every (λ x. OK t (staged_at p s body) (knows g v x)) (turns (sym (lower_same own new 0 0 g e g l b h.1) i) (sym (upper_same own new 0 0 g e g u b h.2) i) step))
      (every_along (λ x. OK t body (knows e v x) × FineAt p order first s body (knows e v x)) (λ x. OK t (staged_at p s body) (knows g v x))
      (λ x q. carried t s body (knows e v x) (knows g v x) is line_ h.3 q.1 nf nt (in_turn own p names order first new memref_own dims_own new_tags v x e g h.0 b) q.0) ts
      (every_both (λ x. OK t body (knows e v x)) (λ x. FineAt p order first s body (knows e v x)) ts j fine))
  carried (Other t) (Inside s) (Loop (suc line) v l u step body rest) e g is line_ h fine nf nt b j = tt
  carried t (Other s) (Loop line v l u step body rest) e g is line_ h fine nf nt b j = absurd is
  carried t Here (Branch line set ns first_ has other rest) e g is line_ h fine nf nt b j = absurd is
  carried t (Behind s) (Branch zero set ns first_ has other rest) e g is line_ h fine nf nt b j =
      carried t s rest (behind other (behind first_ e)) (behind other (behind first_ g)) is line_ h.3 fine (omega (arith, nf)) (omega (arith, nt)) (behind_two first_ other e g b) j
  carried (Behind t) (Behind s) (Branch (suc line) set ns first_ has other rest) e g is line_ h fine nf nt b j =
      carried t s rest (behind other (behind first_ e)) (behind other (behind first_ g)) is line_ h.3 fine (omega (arith, nf)) (omega (arith, nt)) (behind_two first_ other e g b) j
  carried Here (Behind s) (Branch (suc line) set ns first_ has other rest) e g is line_ h fine nf nt b j = tt
  carried (Inside t) (Behind s) (Branch (suc line) set ns first_ has other rest) e g is line_ h fine nf nt b j =
      fine_stays 0 0 g (Inside t) (Branch (suc line) set ns first_ has other Nothing) e g (h.0, h.1, h.2, tt) (rb (Branch (suc line) set ns first_ has other Nothing) e (omega (arith, nf)) (omega (arith, nt))) b j
  carried (Other t) (Behind s) (Branch (suc line) set ns first_ has other rest) e g is line_ h fine nf nt b j =
      fine_stays 0 0 g (Other t) (Branch (suc line) set ns first_ has other Nothing) e g (h.0, h.1, h.2, tt) (rb (Branch (suc line) set ns first_ has other Nothing) e (omega (arith, nf)) (omega (arith, nt))) b j
  carried t (Inside s) (Branch zero set ns first_ has other rest) e g is line_ h fine nf nt b j = first_rest t s first_ other rest e g is h.3 nf nt b j
  carried Here (Inside s) (Branch (suc line) set ns first_ has other rest) e g is line_ h fine nf nt b j = tt
  carried (Behind t) (Inside s) (Branch (suc line) set ns first_ has other rest) e g is line_ h fine nf nt b j = first_rest t s first_ other rest e g is h.3 nf nt b j
  carried (Inside t) (Inside s) (Branch (suc line) set ns first_ has other rest) e g is line_ h fine nf nt b j =
      λ y. let y' = sym (holds_same own new 0 0 g e g set ns b h.0) ∙ y in carried t s first_ e g is line_ h.1 (fine y') nf nt b (j y')
  carried (Other t) (Inside s) (Branch (suc line) set ns first_ has other rest) e g is line_ h fine nf nt b j =
      let g1 = behind (staged_at p s first_) g in
      λ y. fine_stays 1 K g1 t other (behind first_ e) g1 h.2 (ra other (behind first_ e) (let k = fasts_before_less s first_ in omega (arith, nf, k)) (let k = tags_before_less s first_ in omega (arith, nt, k)))
      (behind_staged own p names order first new memref_own dims_own new_tags s first_ e g is b) (j (sym (holds_same own new 0 0 g e g set ns b h.0) ∙ y))
  carried t (Other s) (Branch zero set ns first_ has other rest) e g is line_ h fine nf nt b j = second_rest t s first_ other rest e g is h.3 nf nt b j
  carried Here (Other s) (Branch (suc line) set ns first_ has other rest) e g is line_ h fine nf nt b j = tt
  carried (Behind t) (Other s) (Branch (suc line) set ns first_ has other rest) e g is line_ h fine nf nt b j = second_rest t s first_ other rest e g is h.3 nf nt b j
  carried (Inside t) (Other s) (Branch (suc line) set ns first_ has other rest) e g is line_ h fine nf nt b j =
      λ y. fine_stays 0 0 g t first_ e g h.1 (rb first_ e (omega (arith, nf)) (omega (arith, nt))) b (j (sym (holds_same own new 0 0 g e g set ns b h.0) ∙ y))
  carried (Other t) (Other s) (Branch (suc line) set ns first_ has other rest) e g is line_ h fine nf nt b j =
      λ y. let y' = sym (holds_same own new 0 0 g e g set ns b h.0) ∙ y in
      carried t s other (behind first_ e) (behind first_ g) is line_ h.2 (fine y') (omega (arith, nf)) (omega (arith, nt)) (behind_before own p names order first new memref_own dims_own new_tags first_ e g b) (j y')
  carried t Here (Does line q rest) e g is line_ h fine nf nt b j = absurd is
  carried t (Behind s) (Does zero q rest) e g is line_ h fine nf nt b j =
      let f = fasts_after q e in
      let w = tags_after q e in
      carried t s rest (after_plain q e) (after_plain q g) is line_ h.1 fine (omega (arith, nf, f)) (omega (arith, nt, w)) (plain_before q (fasts_before s rest) (tags_before s rest) e g h.0 nf nt b) j
  carried (Behind t) (Behind s) (Does (suc line) q rest) e g is line_ h fine nf nt b j =
      let f = fasts_after q e in
      let w = tags_after q e in
      carried t s rest (after_plain q e) (after_plain q g) is line_ h.1 fine (omega (arith, nf, f)) (omega (arith, nt, w)) (plain_before q (fasts_before s rest) (tags_before s rest) e g h.0 nf nt b) j
  carried Here (Behind s) (Does (suc line) q rest) e g is line_ h fine nf nt b j = tt
  carried (Inside t) (Behind s) (Does (suc line) q rest) e g is line_ h fine nf nt b j = tt
  carried (Other t) (Behind s) (Does (suc line) q rest) e g is line_ h fine nf nt b j = tt
  carried t (Inside s) (Does line q rest) e g is line_ h fine nf nt b j = absurd is
  carried t (Other s) (Does line q rest) e g is line_ h fine nf nt b j = absurd is
