-- What holds of the loop each time that the text comes to it, and so of the boxes among the parts.
use Rattle.std.proofs.Common.{◌≡◌, ℕ, zero, suc, ◌+◌, ℤ, List, [], ◌∷◌, ◌++◌, map, Bool, true, false}
use Rattle.std.specs.Prelude.{flat_map, replicate, if◌then◌else◌}
use Rattle.affine_ast.specs.Nest.{Plain, Nest, Nothing, Loop, Branch, Does}
use Rattle.direct_meaning.specs.Turns.{turns}
use Rattle.direct_meaning.specs.Action.{Action}
use Rattle.direct_meaning.specs.Static.{Env, knows, lower_of, upper_of, holds_at}
use Rattle.direct_meaning.specs.Actions.{after_plain, behind, actions}
use Rattle.boxes.specs.Boxes.{Side}
use Rattle.boxes.specs.Every.{Every}
use Rattle.placement_texts.specs.Each.{Each}
use Rattle.placement_texts.specs.Template.{Placement, places_count, constant_count}
use Rattle.placement_texts.specs.Regions.{spans_at}
use Rattle.placement_texts.specs.Parts.{Part, Stays, Made, Box}
use Rattle.placement_texts.specs.Spots.{Spot, Here, Behind, Inside, Other, parts_at, Fine, FineAt}
use Rattle.placement_texts.proofs.Everys.{every_both, every_along}
use Rattle.staging_laws.specs.Joined.{OnBoxes}
use Rattle.staging_laws.specs.Spared.{AtLoop}

-- what holds of each statement of the text holds of each of the loop
pub at_each : (P : Plain → Env → Type 0) (s : Spot) (n : Nest) (e : Env) → Each P n e → AtLoop (λ loop e. Each P loop e) s n e
at_each P s Nothing e h = tt
at_each P Here (Loop line v l u step body rest) e h = (h.0, tt)
at_each P (Behind s) (Loop line v l u step body rest) e h = at_each P s rest (behind body e) h.1
at_each P (Inside s) (Loop line v l u step body rest) e h =
    every_along (λ t. Each P body (knows e v t)) (λ t. AtLoop (λ loop e. Each P loop e) s body (knows e v t)) (λ t k. at_each P s body (knows e v t) k) (turns (lower_of e l) (upper_of e u) step) h.0
at_each P (Other s) (Loop line v l u step body rest) e h = tt
at_each P Here (Branch line set ns first has other rest) e h = tt
at_each P (Behind s) (Branch line set ns first has other rest) e h = at_each P s rest (behind other (behind first e)) h.2
at_each P (Inside s) (Branch line set ns first has other rest) e h = λ t. at_each P s first e (h.0 t)
at_each P (Other s) (Branch line set ns first has other rest) e h = λ t. at_each P s other (behind first e) (h.1 t)
at_each P (Behind s) (Does line q rest) e h = at_each P s rest (after_plain q e) h.1
at_each P Here (Does line q rest) e h = tt
at_each P (Inside s) (Does line q rest) e h = tt
at_each P (Other s) (Does line q rest) e h = tt

pub at_fine : (p : Placement) (order first : ℕ) (s : Spot) (n : Nest) (e : Env) → FineAt p order first s n e → AtLoop (Fine p order first) s n e
at_fine p order first s Nothing e h = tt
at_fine p order first Here (Loop line v l u step body rest) e h = h
at_fine p order first (Behind s) (Loop line v l u step body rest) e h = at_fine p order first s rest (behind body e) h
at_fine p order first (Inside s) (Loop line v l u step body rest) e h =
    every_along (λ t. FineAt p order first s body (knows e v t)) (λ t. AtLoop (Fine p order first) s body (knows e v t)) (λ t k. at_fine p order first s body (knows e v t) k) (turns (lower_of e l) (upper_of e u) step) h
at_fine p order first (Other s) (Loop line v l u step body rest) e h = tt
at_fine p order first Here (Branch line set ns one has other rest) e h = tt
at_fine p order first (Behind s) (Branch line set ns one has other rest) e h = at_fine p order first s rest (behind other (behind one e)) h
at_fine p order first (Inside s) (Branch line set ns one has other rest) e h = λ t. at_fine p order first s one e (h t)
at_fine p order first (Other s) (Branch line set ns one has other rest) e h = λ t. at_fine p order first s other (behind one e) (h t)
at_fine p order first (Behind s) (Does line q rest) e h = at_fine p order first s rest (after_plain q e) h
at_fine p order first Here (Does line q rest) e h = tt
at_fine p order first (Inside s) (Does line q rest) e h = tt
at_fine p order first (Other s) (Does line q rest) e h = tt

-- two facts at the loop give a third
module _ (P Q R : Nest → Env → Type 0) (both : (loop : Nest) (e : Env) → P loop e → Q loop e → R loop e) where
  pub at_both : (s : Spot) (n : Nest) (e : Env) → AtLoop P s n e → AtLoop Q s n e → AtLoop R s n e
  at_both s Nothing e h k = tt
  at_both Here (Loop line v l u step body rest) e h k = both (Loop line v l u step body Nothing) e h k
  at_both (Behind s) (Loop line v l u step body rest) e h k = at_both s rest (behind body e) h k
  at_both (Inside s) (Loop line v l u step body rest) e h k =
      let ts = turns (lower_of e l) (upper_of e u) step in
      every_along (λ t. AtLoop P s body (knows e v t) × AtLoop Q s body (knows e v t)) (λ t. AtLoop R s body (knows e v t)) (λ t b. at_both s body (knows e v t) b.0 b.1) ts
      (every_both (λ t. AtLoop P s body (knows e v t)) (λ t. AtLoop Q s body (knows e v t)) ts h k)
  at_both (Other s) (Loop line v l u step body rest) e h k = tt
  at_both Here (Branch line set ns first has other rest) e h k = tt
  at_both (Behind s) (Branch line set ns first has other rest) e h k = at_both s rest (behind other (behind first e)) h k
  at_both (Inside s) (Branch line set ns first has other rest) e h k = λ t. at_both s first e (h t) (k t)
  at_both (Other s) (Branch line set ns first has other rest) e h k = λ t. at_both s other (behind first e) (h t) (k t)
  at_both (Behind s) (Does line q rest) e h k = at_both s rest (after_plain q e) h k
  at_both Here (Does line q rest) e h k = tt
  at_both (Inside s) (Does line q rest) e h k = tt
  at_both (Other s) (Does line q rest) e h k = tt

-- what holds of every loop
pub at_all : (P : Nest → Env → Type 0) → ((loop : Nest) (e : Env) → P loop e) → (s : Spot) (n : Nest) (e : Env) → AtLoop P s n e
at_all P h s Nothing e = tt
at_all P h Here (Loop line v l u step body rest) e = h (Loop line v l u step body Nothing) e
at_all P h (Behind s) (Loop line v l u step body rest) e = at_all P h s rest (behind body e)
at_all P h (Inside s) (Loop line v l u step body rest) e = all (turns (lower_of e l) (upper_of e u) step)
    (λ t. at_all P h s body (knows e v t))
  where
    all : (ts : List ℤ) → ((t : ℤ) → AtLoop P s body (knows e v t)) → Every (λ t. AtLoop P s body (knows e v t)) ts
    all [] k = tt
    all (t ∷ ts) k = (k t, all ts k)
at_all P h (Other s) (Loop line v l u step body rest) e = tt
at_all P h Here (Branch line set ns first has other rest) e = tt
at_all P h (Behind s) (Branch line set ns first has other rest) e = at_all P h s rest (behind other (behind first e))
at_all P h (Inside s) (Branch line set ns first has other rest) e = λ t. at_all P h s first e
at_all P h (Other s) (Branch line set ns first has other rest) e = λ t. at_all P h s other (behind first e)
at_all P h (Behind s) (Does line q rest) e = at_all P h s rest (after_plain q e)
at_all P h Here (Does line q rest) e = tt
at_all P h (Inside s) (Does line q rest) e = tt
at_all P h (Other s) (Does line q rest) e = tt

-- ---- boxes
module _ (P : List Side → List Action → Type 0) where
  boxes_append : (ps qs : List Part) → OnBoxes P ps → OnBoxes P qs → OnBoxes P (ps ++ qs)
  boxes_append [] qs h k = k
  boxes_append (Stays x ∷ ps) qs h k = boxes_append ps qs h k
  boxes_append (Made ∷ ps) qs h k = boxes_append ps qs h k
  boxes_append (Box ss xs ∷ ps) qs h k = (h.0, boxes_append ps qs h.1 k)

  boxes_stays : (xs : List Action) → OnBoxes P (map Stays xs)
  boxes_stays [] = tt
  boxes_stays (x ∷ xs) = boxes_stays xs

  boxes_made : (n : ℕ) (ps : List Part) → OnBoxes P ps → OnBoxes P (replicate n Made ++ ps)
  boxes_made zero ps h = h
  boxes_made (suc n) ps h = boxes_made n ps h

  boxes_turns : (f : ℤ → List Part) (ts : List ℤ) → Every (λ t. OnBoxes P (f t)) ts → OnBoxes P (flat_map f ts)
  boxes_turns f [] h = tt
  boxes_turns f (t ∷ ts) h = boxes_append (f t) (flat_map f ts) h.0 (boxes_turns f ts h.1)

  boxes_chosen : (b : Bool) (ps qs : List Part) → (b ≡ true → OnBoxes P ps) → (b ≡ false → OnBoxes P qs) → OnBoxes P (if b then ps else qs)
  boxes_chosen true ps qs h k = h refl_true
    where
      refl_true : true ≡ true
      refl_true = λ i. true
  boxes_chosen false ps qs h k = k (λ i. false)

  module _ (p : Placement) where
    pub boxes_at : (s : Spot) (n : Nest) (e : Env) → AtLoop (λ loop e. P (spans_at e p.dims) (actions loop e)) s n e → OnBoxes P (parts_at p s n e)
    boxes_at s Nothing e h = tt
    boxes_at Here (Loop line v l u step body rest) e h =
        boxes_made (places_count p.name p.dims + constant_count p p.how) (Box (spans_at e p.dims) (actions (Loop line v l u step body Nothing) e) ∷ map Stays (actions rest (behind body e))) (h, boxes_stays (actions rest (behind body e)))
    boxes_at (Behind s) (Loop line v l u step body rest) e h =
        boxes_append (map Stays (flat_map (λ t. actions body (knows e v t)) (turns (lower_of e l) (upper_of e u) step))) (parts_at p s rest (behind body e))
        (boxes_stays (flat_map (λ t. actions body (knows e v t)) (turns (lower_of e l) (upper_of e u) step))) (boxes_at s rest (behind body e) h)
    boxes_at (Inside s) (Loop line v l u step body rest) e h =
        let ts = turns (lower_of e l) (upper_of e u) step in
        boxes_append (flat_map (λ t. parts_at p s body (knows e v t)) ts) (map Stays (actions rest (behind body e)))
        (boxes_turns (λ t. parts_at p s body (knows e v t)) ts (every_along (λ t. AtLoop (λ loop e. P (spans_at e p.dims) (actions loop e)) s body (knows e v t)) (λ t. OnBoxes P (parts_at p s body (knows e v t))) (λ t k. boxes_at s body (knows e v t) k) ts h))
        (boxes_stays (actions rest (behind body e)))
    boxes_at (Other s) (Loop line v l u step body rest) e h = boxes_stays (actions (Loop line v l u step body rest) e)
    boxes_at Here (Branch line set ns first has other rest) e h = boxes_stays (actions (Branch line set ns first has other rest) e)
    boxes_at (Behind s) (Branch line set ns first has other rest) e h =
        let xs = if holds_at e set ns then actions first e else actions other (behind first e) in
        boxes_append (map Stays xs) (parts_at p s rest (behind other (behind first e))) (boxes_stays xs) (boxes_at s rest (behind other (behind first e)) h)
    boxes_at (Inside s) (Branch line set ns first has other rest) e h =
        let ps = parts_at p s first e in
        let qs = map Stays (actions other (behind first e)) in
        boxes_append (if holds_at e set ns then ps else qs) (map Stays (actions rest (behind other (behind first e))))
        (boxes_chosen (holds_at e set ns) ps qs (λ t. boxes_at s first e (h t)) (λ t. boxes_stays (actions other (behind first e)))) (boxes_stays (actions rest (behind other (behind first e))))
    boxes_at (Other s) (Branch line set ns first has other rest) e h =
        let ps = map Stays (actions first e) in
        let qs = parts_at p s other (behind first e) in
        boxes_append (if holds_at e set ns then ps else qs) (map Stays (actions rest (behind other (behind first e))))
        (boxes_chosen (holds_at e set ns) ps qs (λ t. boxes_stays (actions first e)) (λ t. boxes_at s other (behind first e) (h t))) (boxes_stays (actions rest (behind other (behind first e))))
    boxes_at (Behind s) (Does line q rest) e h = boxes_at s rest (after_plain q e) h
    boxes_at Here (Does line q rest) e h = boxes_stays (actions (Does line q rest) e)
    boxes_at (Inside s) (Does line q rest) e h = boxes_stays (actions (Does line q rest) e)
    boxes_at (Other s) (Does line q rest) e h = boxes_stays (actions (Does line q rest) e)
