-- The equation: the actions of a text and those of the text in which a memref is staged are two readings of one list of parts.
use Rattle.std.proofs.Common.{◌≡◌, ℕ, zero, suc, ◌+◌, ◌<◌, ◌≤◌, ℤ, List, [], ◌∷◌, ◌++◌, replicate, refl, sym, ap, ◌∙◌, subst, arith, Bool, true, false, map}
use Rattle.std.specs.Prelude.{flat_map, Some, if◌then◌else◌}
use Rattle.std.proofs.lemmas.List.{append_assoc, append-nil}
use Rattle.affine_expr.specs.declared.map.Set.{Set}
use Rattle.affine_ast.specs.declared.name.Name.{Name}
use Rattle.affine_ast.specs.declared.types.Bound.{Bound}
use Rattle.affine_ast.specs.Nest.{Plain, Nest, Nothing, Loop, Branch, Does, Value, Load, Store, RawLoad, RawStore, Constant, Binary, Cast, Alloc, Dealloc, Start, Wait, Return}
use Rattle.direct_meaning.specs.Turns.{turns}
use Rattle.direct_meaning.specs.Action.{Action, Known, Slow}
use Rattle.direct_meaning.specs.Static.{Env, knows, lower_of, upper_of, holds_at}
use Rattle.direct_meaning.specs.Actions.{action_of, after_plain, fasts_of_plain, tags_of_plain, fasts_in, tags_in, behind, actions}
use Rattle.direct_meaning.proofs.Laws.{actions-Loop, actions-Branch, actions-Does, actions-Nothing}
use Rattle.placement_texts.specs.Boxes.{sizes_of}
use Rattle.placement_texts.specs.Labels.{Numbers, action_up}
use Rattle.placement_texts.specs.Own.{OwnPlain, OwnNest, MadeNames}
use Rattle.boxes.specs.Every.{Every}
use Rattle.placement_texts.specs.Each.{Each}
use Rattle.placement_texts.specs.Mapped.{mapped}
use Rattle.placement_texts.specs.Template.{Placement, dim_sizes, tags_made, constant_count, places_count}
use Rattle.placement_texts.specs.Regions.{spans_at, OwnDims, ReachesBox, Tidy}
use Rattle.placement_texts.specs.Parts.{Part, Stays, Made, Box, original, staged, boxed}
use Rattle.placement_texts.specs.Spots.{Spot, Here, Behind, Inside, Other, IsLoop, staged_at, fasts_before, tags_before, parts_at, FineAt}
use Rattle.placement_texts.proofs.Follows.{Shifts, Follows, lower_same, upper_same, holds_same, known_follows, behind_follows, after_follows}
use Rattle.placement_texts.proofs.Mapped.{place_same, PlaceGoes, action_goes}
use Rattle.placement_texts.proofs.Everys.{every_both, every_along}
use Rattle.placement_texts.proofs.Nested.{mapped_actions, fasts_after, tags_after}
use Rattle.placement_texts.proofs.Counts.{staged_fasts, staged_tags, fasts_before_less, tags_before_less}
use Rattle.placement_texts.proofs.Redirect.{sizes_at}
use Rattle.placement_texts.proofs.BoxRun.{up_from, up_below, AtLoop, Redirects, box_run, box_env, box_follows}

-- ---- readings of parts
pub original_append : (ps qs : List Part) → original (ps ++ qs) ≡ original ps ++ original qs
original_append [] qs = refl
original_append (Stays x ∷ ps) qs = ap (λ l. x ∷ l) (original_append ps qs)
original_append (Made ∷ ps) qs = original_append ps qs
original_append (Box spans xs ∷ ps) qs = ap (λ l. xs ++ l) (original_append ps qs) ∙ sym (append_assoc xs (original ps) (original qs))

pub original_stays : (xs : List Action) → original (map Stays xs) ≡ xs
original_stays [] = refl
original_stays (x ∷ xs) = ap (λ l. x ∷ l) (original_stays xs)

pub original_made : (n : ℕ) (ps : List Part) → original (replicate n Made ++ ps) ≡ original ps
original_made zero ps = refl
original_made (suc n) ps = original_made n ps

pub original_flat : (P : ℤ → List Part) (A : ℤ → List Action) → ((t : ℤ) → original (P t) ≡ A t) → (ts : List ℤ) → original (flat_map P ts) ≡ flat_map A ts
original_flat P A h [] = refl
original_flat P A h (t ∷ ts) = original_append (P t) (flat_map P ts) ∙ (λ i. h t i ++ original_flat P A h ts i)

-- the actions of the text
original_chosen : (t : Bool) (ps qs : List Part) (xs ys : List Action) → original ps ≡ xs → original qs ≡ ys → original (if t then ps else qs) ≡ (if t then xs else ys)
original_chosen true ps qs xs ys h k = h
original_chosen false ps qs xs ys h k = k

pub original_at : (p : Placement) (s : Spot) (n : Nest) (e : Env) → original (parts_at p s n e) ≡ actions n e
original_at p s Nothing e = sym (actions-Nothing e)
original_at p Here (Loop line v l u step body rest) e =
    original_made (places_count p.name p.dims + constant_count p p.how) _
    ∙ (λ i. (actions-Loop line v l u step body Nothing e ∙ ap (λ xs. flat_map (λ t. actions body (knows e v t)) (turns (lower_of e l) (upper_of e u) step) ++ xs) (actions-Nothing (behind body e))
    ∙ append-nil (flat_map (λ t. actions body (knows e v t)) (turns (lower_of e l) (upper_of e u) step))) i ++ original_stays (actions rest (behind body e)) i)
    ∙ sym (actions-Loop line v l u step body rest e)
original_at p (Behind s) (Loop line v l u step body rest) e =
    let xs = flat_map (λ t. actions body (knows e v t)) (turns (lower_of e l) (upper_of e u) step) in
    original_append (map Stays xs) (parts_at p s rest (behind body e)) ∙ (λ i. original_stays xs i ++ original_at p s rest (behind body e) i) ∙ sym (actions-Loop line v l u step body rest e)
original_at p (Inside s) (Loop line v l u step body rest) e =
    let ts = turns (lower_of e l) (upper_of e u) step in
    original_append (flat_map (λ t. parts_at p s body (knows e v t)) ts) (map Stays (actions rest (behind body e)))
    ∙ (λ i. original_flat (λ t. parts_at p s body (knows e v t)) (λ t. actions body (knows e v t)) (λ t. original_at p s body (knows e v t)) ts i ++ original_stays (actions rest (behind body e)) i)
    ∙ sym (actions-Loop line v l u step body rest e)
original_at p (Other s) (Loop line v l u step body rest) e = original_stays (actions (Loop line v l u step body rest) e)
original_at p Here (Branch line set names first has other rest) e = original_stays (actions (Branch line set names first has other rest) e)
original_at p (Behind s) (Branch line set names first has other rest) e =
    let xs = if holds_at e set names then actions first e else actions other (behind first e) in
    original_append (map Stays xs) (parts_at p s rest (behind other (behind first e))) ∙ (λ i. original_stays xs i ++ original_at p s rest (behind other (behind first e)) i) ∙ sym (actions-Branch line set names first has other rest e)
original_at p (Inside s) (Branch line set names first has other rest) e =
    original_append (if holds_at e set names then parts_at p s first e else map Stays (actions other (behind first e))) (map Stays (actions rest (behind other (behind first e))))
    ∙ (λ i. original_chosen (holds_at e set names) (parts_at p s first e) (map Stays (actions other (behind first e))) (actions first e) (actions other (behind first e)) (original_at p s first e) (original_stays (actions other (behind first e))) i
    ++ original_stays (actions rest (behind other (behind first e))) i)
    ∙ sym (actions-Branch line set names first has other rest e)
original_at p (Other s) (Branch line set names first has other rest) e =
    original_append (if holds_at e set names then map Stays (actions first e) else parts_at p s other (behind first e)) (map Stays (actions rest (behind other (behind first e))))
    ∙ (λ i. original_chosen (holds_at e set names) (map Stays (actions first e)) (parts_at p s other (behind first e)) (actions first e) (actions other (behind first e)) (original_stays (actions first e)) (original_at p s other (behind first e)) i
    ++ original_stays (actions rest (behind other (behind first e))) i)
    ∙ sym (actions-Branch line set names first has other rest e)
original_at p (Behind s) (Does line q rest) e = ap (λ l. action_of q e ∷ l) (original_at p s rest (after_plain q e)) ∙ sym (actions-Does line q rest e)
original_at p Here (Does line q rest) e = original_stays (actions (Does line q rest) e)
original_at p (Inside s) (Does line q rest) e = original_stays (actions (Does line q rest) e)
original_at p (Other s) (Does line q rest) e = original_stays (actions (Does line q rest) e)

-- ---- statements that stay
pub mapped_same : (n : Nest) → mapped (λ q. q) n ≡ n
mapped_same Nothing = refl
mapped_same (Loop line v l u step body rest) = λ i. Loop line v l u step (mapped_same body i) (mapped_same rest i)
mapped_same (Branch line set names first has other rest) = λ i. Branch line set names (mapped_same first i) has (mapped_same other i) (mapped_same rest i)
mapped_same (Does line q rest) = λ i. Does line q (mapped_same rest i)

pub each_both : (P Q : Plain → Env → Type 0) (n : Nest) (e : Env) → Each P n e → Each Q n e → Each (λ q e. P q e × Q q e) n e
each_both P Q Nothing e h k = tt
each_both P Q (Loop line v l u step body rest) e h k =
    let ts = turns (lower_of e l) (upper_of e u) step in (
      every_along (λ t. Each P body (knows e v t) × Each Q body (knows e v t)) (λ t. Each (λ q e. P q e × Q q e) body (knows e v t)) (λ t b. each_both P Q body (knows e v t) b.0 b.1) ts
          (every_both (λ t. Each P body (knows e v t)) (λ t. Each Q body (knows e v t)) ts h.0 k.0),
      each_both P Q rest (behind body e) h.1 k.1,
    )
each_both P Q (Branch line set names first has other rest) e h k =
    ((λ t. each_both P Q first e (h.0 t) (k.0 t)), (λ t. each_both P Q other (behind first e) (h.1 t) (k.1 t)), each_both P Q rest (behind other (behind first e)) h.2 k.2)
each_both P Q (Does line q rest) e h k = ((h.0, k.0), each_both P Q rest (after_plain q e) h.1 k.1)

-- one statement alone
loop_alone : (line : ℕ) (v : Name) (l u : Bound) (step : ℤ) (body : Nest) (e : Env) → actions (Loop line v l u step body Nothing) e ≡ flat_map (λ t. actions body (knows e v t)) (turns (lower_of e l) (upper_of e u) step)
loop_alone line v l u step body e =
    actions-Loop line v l u step body Nothing e
    ∙ ap (λ xs. flat_map (λ t. actions body (knows e v t)) (turns (lower_of e l) (upper_of e u) step) ++ xs) (actions-Nothing (behind body e))
    ∙ append-nil (flat_map (λ t. actions body (knows e v t)) (turns (lower_of e l) (upper_of e u) step))

branch_alone : (line : ℕ) (set : Set) (names : List Name) (first : Nest) (has : Bool) (other : Nest) (e : Env)
    → actions (Branch line set names first has other Nothing) e ≡ (if holds_at e set names then actions first e else actions other (behind first e))
branch_alone line set names first has other e =
    actions-Branch line set names first has other Nothing e
    ∙ ap (λ xs. (if holds_at e set names then actions first e else actions other (behind first e)) ++ xs) (actions-Nothing (behind other (behind first e)))
    ∙ append-nil (if holds_at e set names then actions first e else actions other (behind first e))

module _ (own : Name → Bool) (new : Numbers) (m : Name) (first : ℕ) (sizes : List ℕ) where
  abbrev T : Plain → Env → Type 0
  T = Tidy new m first sizes

  goes : (a k : ℕ) (made : Env) (q : Plain) (e g : Env) → OwnPlain own q → Follows own new a k made e g → PlaceGoes new Slow own a k made q e g
  goes a k made (Load r n at ty) e g h s = place_same new Slow own a k made e g n at ty h.1.0 h.1.1 s
  goes a k made (Store x n at ty) e g h s = place_same new Slow own a k made e g n at ty h.1.0 h.1.1 s
  goes a k made (Value r pick at) e g h s = tt
  goes a k made (RawLoad r n at ty) e g h s = tt
  goes a k made (RawStore x n at ty) e g h s = tt
  goes a k made (Constant r z ty) e g h s = tt
  goes a k made (Binary r op x y ty) e g h s = tt
  goes a k made (Cast r kind x from to) e g h s = tt
  goes a k made (Alloc r ty) e g h s = tt
  goes a k made (Dealloc n ty) e g h s = tt
  goes a k made (Start x x_at y y_at t t_at n stride types) e g h s = tt
  goes a k made (Wait t at n ty) e g h s = tt
  goes a k made Return e g h s = tt

  pub stays : (a k : ℕ) (made : Env) (q : Plain) (e g : Env) → OwnPlain own q → T q e → Shifts own new a k e.fasts (fasts_of_plain q) e.tags (tags_of_plain q) → Follows own new a k made e g → action_of q g ≡ action_up new (action_of q e)
  stays a k made q e g h j m s = action_goes new Slow own a k made q e g h j.0 (goes a k made q e g h s) m s

  -- statements that stay have their actions, with new numbers
  pub stays_run : (a k : ℕ) (made : Env) (n : Nest) (e g : Env) → OwnNest own n → Each T n e → Shifts own new a k e.fasts (fasts_in n) e.tags (tags_in n) → Follows own new a k made e g
      → actions n g ≡ map (action_up new) (actions n e)
  stays_run a k made n e g h j m s =
      ap (λ n. actions n g) (sym (mapped_same n))
      ∙ mapped_actions (λ q. q) (λ q. refl) (λ q. refl) own new a k made (action_up new) T (λ q g. refl) (λ q e g h j m s. stays a k made q e g h j m s) n e g h j m s

  pub rebased : (a k : ℕ) (made e g : Env) → Follows own new a k made e g → Follows own new a k g e g
  rebased a k made e g s = record { known = s.known; home = s.home; fasts = s.fasts; tags = s.tags; made_known = λ n h. refl; made_home = λ n h. refl }

  -- before the loop no number moves, and behind it each does
  pub room_before : (f m t n : ℕ) → f + m ≤ new.fast → t + n ≤ new.tag → Shifts own new 0 0 f m t n
  room_before f m t n p q = record {
    fast = λ i low high. (let e : i < new.fast = omega (arith, high, p) in up_below new.fast 1 i e) ∙ (let e : i ≡ i + 0 = omega arith in e);
    tag = λ i low high. (let e : i < new.tag = omega (arith, high, q) in up_below new.tag new.tags i e) ∙ (let e : i ≡ i + 0 = omega arith in e);
  }

  pub room_behind : (k f m t n : ℕ) → new.tags ≡ k → new.fast ≤ f → new.tag ≤ t → Shifts own new 1 k f m t n
  room_behind k f m t n is p q = record {
    fast = λ i low high. (let e : new.fast ≤ i = omega (arith, low, p) in up_from new.fast 1 i e);
    tag = λ i low high. (let e : new.tag ≤ i = omega (arith, low, q) in up_from new.tag new.tags i e) ∙ ap (λ k. i + k) is;
  }

module _ (own : Name → Bool) (p : Placement) (names : MadeNames own p.name) (order first : ℕ) (new : Numbers) where
  abbrev IsTidy : Plain → Env → Type 0
  IsTidy = Tidy new p.memref first (dim_sizes p.dims)

  abbrev S : List Part → List Action
  S = staged p order first new

  pub staged_append : (ps qs : List Part) → S (ps ++ qs) ≡ S ps ++ S qs
  staged_append [] qs = refl
  staged_append (Stays x ∷ ps) qs = ap (λ l. action_up new x ∷ l) (staged_append ps qs)
  staged_append (Made ∷ ps) qs = ap (λ l. Known ∷ l) (staged_append ps qs)
  staged_append (Box spans xs ∷ ps) qs = ap (λ l. boxed p order first new spans xs ++ l) (staged_append ps qs) ∙ sym (append_assoc (boxed p order first new spans xs) (S ps) (S qs))

  pub staged_stays : (xs : List Action) → S (map Stays xs) ≡ map (action_up new) xs
  staged_stays [] = refl
  staged_stays (x ∷ xs) = ap (λ l. action_up new x ∷ l) (staged_stays xs)

  pub staged_made : (n : ℕ) (ps : List Part) → S (replicate n Made ++ ps) ≡ replicate n Known ++ S ps
  staged_made zero ps = refl
  staged_made (suc n) ps = ap (λ l. Known ∷ l) (staged_made n ps)

  pub staged_flat : (P : ℤ → List Part) (A : ℤ → List Action) (Q : ℤ → Type 0) → ((t : ℤ) → Q t → S (P t) ≡ A t) → (ts : List ℤ) → Every Q ts → S (flat_map P ts) ≡ flat_map A ts
  staged_flat P A Q h [] k = refl
  staged_flat P A Q h (t ∷ ts) k = staged_append (P t) (flat_map P ts) ∙ (λ i. h t k.0 i ++ staged_flat P A Q h ts k.1 i)

  staged_chosen : (t : Bool) (ps qs : List Part) (xs ys : List Action) → (t ≡ true → S ps ≡ xs) → (t ≡ false → S qs ≡ ys) → S (if t then ps else qs) ≡ (if t then xs else ys)
  staged_chosen true ps qs xs ys h k = h refl
  staged_chosen false ps qs xs ys h k = k refl

  -- ---- the equation
  module _ (memref_own : own p.memref ≡ true) (dims_own : OwnDims own p.dims) (new_tags : new.tags ≡ tags_made p p.how) where
    abbrev pub B : Env → Env → Type 0
    B e g = Follows own new 0 0 g e g

    abbrev up : List Action → List Action
    up = map (action_up new)

    -- behind a text in which the memref is staged
    pub behind_staged : (s : Spot) (n : Nest) (e g : Env) → IsLoop s n → B e g → Follows own new 1 (tags_made p p.how) (behind (staged_at p s n) g) (behind n e) (behind (staged_at p s n) g)
    behind_staged s n e g is b =
        let f = staged_fasts p s n is in
        let t = staged_tags p s n is in
        let gf = b.fasts in
        let gt = b.tags in
        record {
          known = b.known;
          home = b.home;
          fasts = omega (arith, f, gf);
          tags = omega (arith, t, gt);
          made_known = λ n h. refl;
          made_home = λ n h. refl;
        }

    -- behind a text that stays, before the loop
    pub behind_before : (n : Nest) (e g : Env) → B e g → B (behind n e) (behind n g)
    behind_before n e g b = rebased own new p.memref first (dim_sizes p.dims) 0 0 g (behind n e) (behind n g) (behind_follows own new 0 0 g n n e g refl refl b)

    -- in a turn
    pub in_turn : (v : Name) (t : ℤ) (e g : Env) → own v ≡ true → B e g → B (knows e v t) (knows g v t)
    in_turn v t e g v_own b = rebased own new p.memref first (dim_sizes p.dims) 0 0 g (knows e v t) (knows g v t) (known_follows own new 0 0 g e g v (Some t) (Some t) v_own refl b)

    -- the rest behind the statement that holds the loop
    rest_run : (m rest : Nest) (e g : Env) (f t : ℕ) → OwnNest own rest → Each IsTidy rest (behind m e) → f ≤ fasts_in m → t ≤ tags_in m → e.fasts + f ≡ new.fast → e.tags + t ≡ new.tag
        → (h : Env) → Follows own new 1 (tags_made p p.how) h (behind m e) h → S (map Stays (actions rest (behind m e))) ≡ actions rest h
    rest_run m rest e g f t rest_own j p1 p2 q1 q2 h s =
        staged_stays (actions rest (behind m e))
        ∙ sym (stays_run own new p.memref first (dim_sizes p.dims) 1 (tags_made p p.how) h rest (behind m e) h rest_own j (room_behind own new p.memref first (dim_sizes p.dims) (tags_made p p.how) (behind m e).fasts (fasts_in rest) (behind m e).tags (tags_in rest) new_tags (omega (arith, p1, q1)) (omega (arith, p2, q2))) s)

    pub staged_run : (s : Spot) (n : Nest) (e g : Env) → IsLoop s n → OwnNest own n → Each IsTidy n e → FineAt p order first s n e
        → e.fasts + fasts_before s n ≡ new.fast → e.tags + tags_before s n ≡ new.tag → B e g → S (parts_at p s n e) ≡ actions (staged_at p s n) g
    staged_run s Nothing e g is h j fine nf nt b = absurd is
    staged_run Here (Loop line v l u step body rest) e g is h j fine nf nt b =
        let at : AtLoop own p names order first new e g = record { follows = b; fasts = omega (arith, nf); tags = omega (arith, nt); home = fine.home; memref_own = memref_own; dims_own = dims_own; lie = fine.lie } in
        let loop : Each (Redirects own p names order first new (spans_at e p.dims)) (Loop line v l u step body Nothing) e =
        each_both (Tidy new p.memref first (sizes_of (spans_at e p.dims))) (ReachesBox p.memref order first (spans_at e p.dims)) (Loop line v l u step body Nothing) e
        (subst (λ ns. Each (Tidy new p.memref first ns) (Loop line v l u step body Nothing) e) (sym (sizes_at e p.dims)) (j.0, tt)) fine.reaches in
        let h' = box_env own p names order first new e g at new_tags fine.elements line v l u step body in
        staged_made (places_count p.name p.dims + constant_count p p.how) (Box (spans_at e p.dims) (actions (Loop line v l u step body Nothing) e) ∷ map Stays (actions rest (behind body e)))
        ∙ ap (λ xs. replicate (places_count p.name p.dims + constant_count p p.how) Known ++ (boxed p order first new (spans_at e p.dims) (actions (Loop line v l u step body Nothing) e) ++ xs))
        (rest_run body rest e g 0 0 h.4 j.1 (omega arith) (omega arith) nf nt h' (box_follows own p names order first new e g at new_tags fine.elements line v l u step body))
        ∙ sym (box_run own p names order first new e g at new_tags fine.elements line v l u step body rest rest (h.0, h.1, h.2, h.3, tt) loop)
    staged_run (Behind s) (Loop line v l u step body rest) e g is h j fine nf nt b =
        let xs = flat_map (λ t. actions body (knows e v t)) (turns (lower_of e l) (upper_of e u) step) in
        let alone : up xs ≡ flat_map (λ t. actions body (knows g v t)) (turns (lower_of g l) (upper_of g u) step) =
        ap up (sym (loop_alone line v l u step body e))
        ∙ sym (stays_run own new p.memref first (dim_sizes p.dims) 0 0 g (Loop line v l u step body Nothing) e g (h.0, h.1, h.2, h.3, tt) (j.0, tt) (room_before own new p.memref first (dim_sizes p.dims) e.fasts (fasts_in body + 0) e.tags (tags_in body + 0) (omega (arith, nf)) (omega (arith, nt))) b)
        ∙ loop_alone line v l u step body g in
        staged_append (map Stays xs) (parts_at p s rest (behind body e))
        ∙ (λ i. (staged_stays xs ∙ alone) i ++ staged_run s rest (behind body e) (behind body g) is h.4 j.1 fine (omega (arith, nf)) (omega (arith, nt)) (behind_before body e g b) i)
        ∙ sym (actions-Loop line v l u step body (staged_at p s rest) g)
    staged_run (Inside s) (Loop line v l u step body rest) e g is h j fine nf nt b =
        let ts = turns (lower_of e l) (upper_of e u) step in
        staged_append (flat_map (λ t. parts_at p s body (knows e v t)) ts) (map Stays (actions rest (behind body e)))
        ∙ (λ i.
        staged_flat (λ t. parts_at p s body (knows e v t)) (λ t. actions (staged_at p s body) (knows g v t)) (λ t. Each IsTidy body (knows e v t) × FineAt p order first s body (knows e v t))
        (λ t q. staged_run s body (knows e v t) (knows g v t) is h.3 q.0 q.1 nf nt (in_turn v t e g h.0 b)) ts
        (every_both (λ t. Each IsTidy body (knows e v t)) (λ t. FineAt p order first s body (knows e v t)) ts j.0 fine) i
        ++ rest_run body rest e g (fasts_before s body) (tags_before s body) h.4 j.1 (fasts_before_less s body) (tags_before_less s body) nf nt (behind (staged_at p s body) g) (behind_staged s body e g is b) i)
        ∙ (λ i. flat_map (λ t. actions (staged_at p s body) (knows g v t)) (turns (sym (lower_same own new 0 0 g e g l b h.1) i) (sym (upper_same own new 0 0 g e g u b h.2) i) step) ++ actions rest (behind (staged_at p s body) g))
        ∙ sym (actions-Loop line v l u step (staged_at p s body) rest g)
    staged_run (Other s) (Loop line v l u step body rest) e g is h j fine nf nt b = absurd is
    staged_run Here (Branch line set ns first_ has other rest) e g is h j fine nf nt b = absurd is
    staged_run (Behind s) (Branch line set ns first_ has other rest) e g is h j fine nf nt b =
        let xs = if holds_at e set ns then actions first_ e else actions other (behind first_ e) in
        let alone : up xs ≡ (if holds_at g set ns then actions first_ g else actions other (behind first_ g)) =
        ap up (sym (branch_alone line set ns first_ has other e))
        ∙ sym (stays_run own new p.memref first (dim_sizes p.dims) 0 0 g (Branch line set ns first_ has other Nothing) e g (h.0, h.1, h.2, tt) (j.0, j.1, tt) (room_before own new p.memref first (dim_sizes p.dims) e.fasts (fasts_in first_ + fasts_in other + 0) e.tags (tags_in first_ + tags_in other + 0) (omega (arith, nf)) (omega (arith, nt))) b)
        ∙ branch_alone line set ns first_ has other g in
        staged_append (map Stays xs) (parts_at p s rest (behind other (behind first_ e)))
        ∙ (λ i. (staged_stays xs ∙ alone) i
        ++ staged_run s rest (behind other (behind first_ e)) (behind other (behind first_ g)) is h.3 j.2 fine (omega (arith, nf)) (omega (arith, nt)) (behind_before other (behind first_ e) (behind first_ g) (behind_before first_ e g b)) i)
        ∙ sym (actions-Branch line set ns first_ has other (staged_at p s rest) g)
    staged_run (Inside s) (Branch line set ns first_ has other rest) e g is h j fine nf nt b =
        let nothing = staged_fasts p s first_ is in
        let truth = holds_same own new 0 0 g e g set ns b h.0 in
        let m = room_behind own new p.memref first (dim_sizes p.dims) (tags_made p p.how) (behind first_ e).fasts (fasts_in other) (behind first_ e).tags (tags_in other) new_tags
        (let k = fasts_before_less s first_ in omega (arith, nf, k)) (let k = tags_before_less s first_ in omega (arith, nt, k)) in
        let s1 = behind_staged s first_ e g is b in
        let g1 = behind (staged_at p s first_) g in
        let s2 = rebased own new p.memref first (dim_sizes p.dims) 1 (tags_made p p.how) g1 (behind other (behind first_ e)) (behind other g1) (behind_follows own new 1 (tags_made p p.how) g1 other other (behind first_ e) g1 refl refl s1) in
        staged_append (if holds_at e set ns then parts_at p s first_ e else map Stays (actions other (behind first_ e))) (map Stays (actions rest (behind other (behind first_ e))))
        ∙ (λ i.
        staged_chosen (holds_at e set ns) (parts_at p s first_ e) (map Stays (actions other (behind first_ e))) (actions (staged_at p s first_) g) (actions other g1)
        (λ t. staged_run s first_ e g is h.1 (j.0 t) (fine t) nf nt b)
        (λ t. staged_stays (actions other (behind first_ e)) ∙ sym (stays_run own new p.memref first (dim_sizes p.dims) 1 (tags_made p p.how) g1 other (behind first_ e) g1 h.2 (j.1 t) m s1)) i
        ++ (staged_stays (actions rest (behind other (behind first_ e)))
        ∙ sym (stays_run own new p.memref first (dim_sizes p.dims) 1 (tags_made p p.how) (behind other g1) rest (behind other (behind first_ e)) (behind other g1) h.3 j.2
        (room_behind own new p.memref first (dim_sizes p.dims) (tags_made p p.how) (behind other (behind first_ e)).fasts (fasts_in rest) (behind other (behind first_ e)).tags (tags_in rest) new_tags
        (let k = fasts_before_less s first_ in omega (arith, nf, k)) (let k = tags_before_less s first_ in omega (arith, nt, k))) s2)) i)
        ∙ (λ i. (if sym truth i then actions (staged_at p s first_) g else actions other g1) ++ actions rest (behind other g1))
        ∙ sym (actions-Branch line set ns (staged_at p s first_) has other rest g)
    staged_run (Other s) (Branch line set ns first_ has other rest) e g is h j fine nf nt b =
        let truth = holds_same own new 0 0 g e g set ns b h.0 in
        let b1 = behind_before first_ e g b in
        let s1 = behind_staged s other (behind first_ e) (behind first_ g) is b1 in
        let g1 = behind (staged_at p s other) (behind first_ g) in
        let m = room_before own new p.memref first (dim_sizes p.dims) e.fasts (fasts_in first_) e.tags (tags_in first_) (omega (arith, nf)) (omega (arith, nt)) in
        staged_append (if holds_at e set ns then map Stays (actions first_ e) else parts_at p s other (behind first_ e)) (map Stays (actions rest (behind other (behind first_ e))))
        ∙ (λ i.
        staged_chosen (holds_at e set ns) (map Stays (actions first_ e)) (parts_at p s other (behind first_ e)) (actions first_ g) (actions (staged_at p s other) (behind first_ g))
        (λ t. staged_stays (actions first_ e) ∙ sym (stays_run own new p.memref first (dim_sizes p.dims) 0 0 g first_ e g h.1 (j.0 t) m b))
        (λ t. staged_run s other (behind first_ e) (behind first_ g) is h.2 (j.1 t) (fine t) (omega (arith, nf)) (omega (arith, nt)) b1) i
        ++ (staged_stays (actions rest (behind other (behind first_ e)))
        ∙ sym (stays_run own new p.memref first (dim_sizes p.dims) 1 (tags_made p p.how) g1 rest (behind other (behind first_ e)) g1 h.3 j.2
        (room_behind own new p.memref first (dim_sizes p.dims) (tags_made p p.how) (behind other (behind first_ e)).fasts (fasts_in rest) (behind other (behind first_ e)).tags (tags_in rest) new_tags
        (let k = fasts_before_less s other in omega (arith, nf, k)) (let k = tags_before_less s other in omega (arith, nt, k))) s1)) i)
        ∙ (λ i. (if sym truth i then actions first_ g else actions (staged_at p s other) (behind first_ g)) ++ actions rest g1)
        ∙ sym (actions-Branch line set ns first_ has (staged_at p s other) rest g)
    staged_run Here (Does line q rest) e g is h j fine nf nt b = absurd is
    staged_run (Behind s) (Does line q rest) e g is h j fine nf nt b =
        let m = room_before own new p.memref first (dim_sizes p.dims) e.fasts (fasts_of_plain q) e.tags (tags_of_plain q) (omega (arith, nf)) (omega (arith, nt)) in
        let f = fasts_after q e in
        let t = tags_after q e in
        let b1 = rebased own new p.memref first (dim_sizes p.dims) 0 0 g (after_plain q e) (after_plain q g) (after_follows own new 0 0 g q e g h.0 m b) in
        (λ i. sym (stays own new p.memref first (dim_sizes p.dims) 0 0 g q e g h.0 j.0 m b) i ∷ staged_run s rest (after_plain q e) (after_plain q g) is h.1 j.1 fine (omega (arith, nf, f)) (omega (arith, nt, t)) b1 i)
        ∙ sym (actions-Does line q (staged_at p s rest) g)
    staged_run (Inside s) (Does line q rest) e g is h j fine nf nt b = absurd is
    staged_run (Other s) (Does line q rest) e g is h j fine nf nt b = absurd is
