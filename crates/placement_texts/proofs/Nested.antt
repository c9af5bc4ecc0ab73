-- From the plain statements of a text to the text: its actions, changed, and what is known behind it.
use Rattle.std.proofs.Common.{◌≡◌, ℕ, ◌+◌, ℤ, List, [], ◌∷◌, ◌++◌, refl, sym, ◌∙◌, subst, arith, Bool, true, false, map}
use Rattle.std.specs.Prelude.{flat_map, if◌then◌else◌}
use Rattle.std.proofs.lemmas.List.{map-append}
use Rattle.affine_ast.specs.declared.name.Name.{Name}
use Rattle.affine_ast.specs.Nest.{Plain, Nest, Nothing, Loop, Branch, Does}
use Rattle.direct_meaning.specs.Turns.{turns}
use Rattle.direct_meaning.specs.Action.{Action}
use Rattle.direct_meaning.specs.Static.{Env, knows, lower_of, upper_of, holds_at}
use Rattle.direct_meaning.specs.Actions.{action_of, after_plain, fasts_of_plain, tags_of_plain, fasts_in, tags_in, behind, actions, after}
use Rattle.placement_texts.specs.Labels.{Numbers}
use Rattle.placement_texts.specs.Own.{OwnPlain, OwnNest}
use Rattle.boxes.specs.Every.{Every}
use Rattle.placement_texts.specs.Each.{Each}
use Rattle.placement_texts.specs.Mapped.{mapped}
use Rattle.placement_texts.proofs.Follows.{Shifts, shifts_part, Follows, lower_same, upper_same, holds_same, known_follows, behind_follows, after_follows}

-- turn by turn
pub over_turns : (go : Action → Action) (A B : ℤ → List Action) (Q : ℤ → Type 0) → ((t : ℤ) → Q t → B t ≡ map go (A t)) → (ts : List ℤ) → Every Q ts → flat_map B ts ≡ map go (flat_map A ts)
over_turns go A B Q h [] k = refl
over_turns go A B Q h (t ∷ ts) k = (λ i. h t k.0 i ++ over_turns go A B Q h ts k.1 i) ∙ sym (map-append go (A t) (flat_map A ts))

-- the numbers that stand behind a plain statement
pub fasts_after : (p : Plain) (e : Env) → (after_plain p e).fasts ≡ e.fasts + fasts_of_plain p
unfolding after_plain
fasts_after p e = grind arith

pub tags_after : (p : Plain) (e : Env) → (after_plain p e).tags ≡ e.tags + tags_of_plain p
unfolding after_plain
tags_after p e = grind arith

module _ (change : Plain → Plain) (same_fasts : (p : Plain) → fasts_of_plain (change p) ≡ fasts_of_plain p) (same_tags : (p : Plain) → tags_of_plain (change p) ≡ tags_of_plain p) where
  pub fasts_mapped : (n : Nest) → fasts_in (mapped change n) ≡ fasts_in n
  fasts_mapped Nothing = refl
  fasts_mapped (Loop line v l u s body rest) = λ i. fasts_mapped body i + fasts_mapped rest i
  fasts_mapped (Branch line set names first has other rest) = λ i. fasts_mapped first i + fasts_mapped other i + fasts_mapped rest i
  fasts_mapped (Does line p rest) = λ i. same_fasts p i + fasts_mapped rest i

  pub tags_mapped : (n : Nest) → tags_in (mapped change n) ≡ tags_in n
  tags_mapped Nothing = refl
  tags_mapped (Loop line v l u s body rest) = λ i. tags_mapped body i + tags_mapped rest i
  tags_mapped (Branch line set names first has other rest) = λ i. tags_mapped first i + tags_mapped other i + tags_mapped rest i
  tags_mapped (Does line p rest) = λ i. same_tags p i + tags_mapped rest i

  module _ (own : Name → Bool) (new : Numbers) (a k : ℕ) (made : Env) (go : Action → Action) (P : Plain → Env → Type 0)
      (same_after : (p : Plain) (g : Env) → after_plain (change p) g ≡ after_plain p g)
      (acts : (p : Plain) (e g : Env) → OwnPlain own p → P p e → Shifts own new a k e.fasts (fasts_of_plain p) e.tags (tags_of_plain p) → Follows own new a k made e g
      → action_of (change p) g ≡ go (action_of p e)) where
    abbrev F : Env → Env → Type 0
    F = Follows own new a k made

    -- the numbers that a text's allocations take
    abbrev pub Room : Nest → Env → Type 0
    Room n e = Shifts own new a k e.fasts (fasts_in n) e.tags (tags_in n)

    -- after a plain statement
    plain_after : (p : Plain) (e g : Env) → OwnPlain own p → Shifts own new a k e.fasts (fasts_of_plain p) e.tags (tags_of_plain p) → F e g → F (after_plain p e) (after_plain (change p) g)
    plain_after p e g h m s = subst (F (after_plain p e)) (sym (same_after p g)) (after_follows own new a k made p e g h m s)

    room_first : (line : ℕ) (p : Plain) (rest : Nest) (e : Env) → Room (Does line p rest) e → Shifts own new a k e.fasts (fasts_of_plain p) e.tags (tags_of_plain p)
    room_first line p rest e m = shifts_part own new a k e.fasts (fasts_of_plain p + fasts_in rest) e.fasts (fasts_of_plain p) e.tags (tags_of_plain p + tags_in rest) e.tags (tags_of_plain p) (omega arith) (omega arith) (omega arith) (omega arith) m

    room_rest : (line : ℕ) (p : Plain) (rest : Nest) (e : Env) → Room (Does line p rest) e → Room rest (after_plain p e)
    room_rest line p rest e m =
        let f = fasts_after p e in
        let t = tags_after p e in
        shifts_part own new a k e.fasts (fasts_of_plain p + fasts_in rest) (after_plain p e).fasts (fasts_in rest) e.tags (tags_of_plain p + tags_in rest) (after_plain p e).tags (tags_in rest) (omega (arith, f)) (omega (arith, f)) (omega (arith, t)) (omega (arith, t)) m

    -- of two regions, the first and what stands behind it
    room_inner : (f m t n f' t' : ℕ) → Shifts own new a k f (m + f') t (n + t') → Shifts own new a k f m t n
    room_inner f m t n f' t' h = shifts_part own new a k f (m + f') f m t (n + t') t n (omega arith) (omega arith) (omega arith) (omega arith) h

    room_behind : (f m t n f' t' : ℕ) → Shifts own new a k f (m + f') t (n + t') → Shifts own new a k (f + m) f' (t + n) t'
    room_behind f m t n f' t' h = shifts_part own new a k f (m + f') (f + m) f' t (n + t') (t + n) t' (omega arith) (omega arith) (omega arith) (omega arith) h

    behind_mapped : (n : Nest) (e g : Env) → F e g → F (behind n e) (behind (mapped change n) g)
    behind_mapped n e g s = behind_follows own new a k made n (mapped change n) e g (fasts_mapped n) (tags_mapped n) s

    chosen : (t : Bool) (xs ys xs' ys' : List Action) → (t ≡ true → xs' ≡ map go xs) → (t ≡ false → ys' ≡ map go ys) → (if t then xs' else ys') ≡ map go (if t then xs else ys)
    chosen true xs ys xs' ys' p q = p refl
    chosen false xs ys xs' ys' p q = q refl

    pub mapped_actions : (n : Nest) (e g : Env) → OwnNest own n → Each P n e → Room n e → F e g → actions (mapped change n) g ≡ map go (actions n e)
    unfolding actions
    mapped_actions Nothing e g h j m s = refl
    mapped_actions (Loop line v l u step body rest) e g h j m s =
        (λ i. flat_map (λ t. actions (mapped change body) (knows g v t)) (turns (lower_same own new a k made e g l s h.1 i) (upper_same own new a k made e g u s h.2 i) step) ++ actions (mapped change rest) (behind (mapped change body) g))
        ∙ (λ i.
        over_turns go (λ t. actions body (knows e v t)) (λ t. actions (mapped change body) (knows g v t)) (λ t. Each P body (knows e v t))
        (λ t q. mapped_actions body (knows e v t) (knows g v t) h.3 q (room_inner e.fasts (fasts_in body) e.tags (tags_in body) (fasts_in rest) (tags_in rest) m) (known_follows own new a k made e g v _ _ h.0 refl s))
        (turns (lower_of e l) (upper_of e u) step) j.0 i
        ++ mapped_actions rest (behind body e) (behind (mapped change body) g) h.4 j.1 (room_behind e.fasts (fasts_in body) e.tags (tags_in body) (fasts_in rest) (tags_in rest) m) (behind_mapped body e g s) i)
        ∙ sym (map-append go (flat_map (λ t. actions body (knows e v t)) (turns (lower_of e l) (upper_of e u) step)) (actions rest (behind body e)))
    mapped_actions (Branch line set names first has other rest) e g h j m s =
        let m1 : Shifts own new a k e.fasts (fasts_in first + (fasts_in other + fasts_in rest)) e.tags (tags_in first + (tags_in other + tags_in rest)) = shifts_part own new a k e.fasts (fasts_in first + fasts_in other + fasts_in rest) e.fasts (fasts_in first + (fasts_in other + fasts_in rest)) e.tags (tags_in first + tags_in other + tags_in rest) e.tags (tags_in first + (tags_in other + tags_in rest)) (omega arith) (omega arith) (omega arith) (omega arith) m in
        let m2 = room_behind e.fasts (fasts_in first) e.tags (tags_in first) (fasts_in other + fasts_in rest) (tags_in other + tags_in rest) m1 in
        let s1 = behind_mapped first e g s in
        let s2 = behind_mapped other (behind first e) (behind (mapped change first) g) s1 in
        (λ i.
        ((λ i. if holds_same own new a k made e g set names s h.0 i then actions (mapped change first) g else actions (mapped change other) (behind (mapped change first) g))
        ∙ chosen (holds_at e set names) (actions first e) (actions other (behind first e)) (actions (mapped change first) g) (actions (mapped change other) (behind (mapped change first) g))
        (λ t. mapped_actions first e g h.1 (j.0 t) (room_inner e.fasts (fasts_in first) e.tags (tags_in first) (fasts_in other + fasts_in rest) (tags_in other + tags_in rest) m1) s)
        (λ t. mapped_actions other (behind first e) (behind (mapped change first) g) h.2 (j.1 t) (room_inner (e.fasts + fasts_in first) (fasts_in other) (e.tags + tags_in first) (tags_in other) (fasts_in rest) (tags_in rest) m2) s1)) i
        ++ mapped_actions rest (behind other (behind first e)) (behind (mapped change other) (behind (mapped change first) g)) h.3 j.2 (room_behind (e.fasts + fasts_in first) (fasts_in other) (e.tags + tags_in first) (tags_in other) (fasts_in rest) (tags_in rest) m2) s2 i)
        ∙ sym (map-append go (if holds_at e set names then actions first e else actions other (behind first e)) (actions rest (behind other (behind first e))))
    mapped_actions (Does line p rest) e g h j m s =
        let m0 = room_first line p rest e m in
        λ i. acts p e g h.0 j.0 m0 s i ∷ mapped_actions rest (after_plain p e) (after_plain (change p) g) h.1 j.1 (room_rest line p rest e m) (plain_after p e g h.0 m0 s) i

    pub mapped_after : (n : Nest) (e g : Env) → OwnNest own n → Room n e → F e g → F (after n e) (after (mapped change n) g)
    unfolding after
    mapped_after Nothing e g h m s = s
    mapped_after (Loop line v l u step body rest) e g h m s =
        mapped_after rest (behind body e) (behind (mapped change body) g) h.4 (room_behind e.fasts (fasts_in body) e.tags (tags_in body) (fasts_in rest) (tags_in rest) m) (behind_mapped body e g s)
    mapped_after (Branch line set names first has other rest) e g h m s =
        mapped_after rest (behind other (behind first e)) (behind (mapped change other) (behind (mapped change first) g)) h.3
        (shifts_part own new a k e.fasts (fasts_in first + fasts_in other + fasts_in rest) (e.fasts + fasts_in first + fasts_in other) (fasts_in rest) e.tags (tags_in first + tags_in other + tags_in rest) (e.tags + tags_in first + tags_in other) (tags_in rest) (omega arith) (omega arith) (omega arith) (omega arith) m)
        (behind_mapped other (behind first e) (behind (mapped change first) g) (behind_mapped first e g s))
    mapped_after (Does line p rest) e g h m s =
        mapped_after rest (after_plain p e) (after_plain (change p) g) h.1 (room_rest line p rest e m) (plain_after p e g h.0 (room_first line p rest e m) s)
