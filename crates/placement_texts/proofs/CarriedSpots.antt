-- What has to hold at the loop of one placement, in a text whose plain statements were changed.
use Rattle.std.proofs.Common.{◌≡◌, ℕ, zero, suc, ◌+◌, List, refl, sym, ap, ◌∙◌, subst, arith, Bool, true}
use Rattle.affine_ast.specs.declared.name.Name.{Name}
use Rattle.affine_ast.specs.Nest.{Plain, Nest, Nothing, Loop, Branch, Does}
use Rattle.direct_meaning.specs.Turns.{turns}
use Rattle.direct_meaning.specs.Static.{Env, knows, lower_of, upper_of}
use Rattle.direct_meaning.specs.Actions.{after_plain, fasts_of_plain, tags_of_plain, fasts_in, tags_in, behind}
use Rattle.boxes.specs.Boxes.{Side}
use Rattle.placement_texts.specs.Boxes.{HasElements}
use Rattle.placement_texts.specs.Labels.{Numbers, home_up}
use Rattle.placement_texts.specs.Own.{OwnPlain, OwnNest}
use Rattle.boxes.specs.Every.{Every}
use Rattle.placement_texts.specs.Each.{Each}
use Rattle.placement_texts.specs.Mapped.{mapped}
use Rattle.placement_texts.specs.Template.{Placement}
use Rattle.placement_texts.specs.Regions.{OwnDims, spans_at, ReachesBox}
use Rattle.placement_texts.specs.Spots.{Spot, Here, Behind, Inside, Other, found, Fine, FineAt}
use Rattle.placement_texts.proofs.Follows.{Shifts, shifts_part, Follows, lower_same, upper_same, holds_same, known_follows, behind_follows, after_follows}
use Rattle.placement_texts.proofs.Everys.{every_along}
use Rattle.placement_texts.proofs.Nested.{fasts_mapped, tags_mapped, fasts_after, tags_after}
use Rattle.placement_texts.proofs.Carried.{spans_follow, lie_follows, each_mapped}

module _ (own : Name → Bool) (new : Numbers) (a k : ℕ) where
  -- the first of two parts, and the second
  pub shifts_first : (f m m' t n n' : ℕ) → Shifts own new a k f (m + m') t (n + n') → Shifts own new a k f m t n
  shifts_first f m m' t n n' h = shifts_part own new a k f (m + m') f m t (n + n') t n (omega arith) (omega arith) (omega arith) (omega arith) h

  pub shifts_second : (f m m' t n n' : ℕ) → Shifts own new a k f (m + m') t (n + n') → Shifts own new a k (f + m) m' (t + n) n'
  shifts_second f m m' t n n' h = shifts_part own new a k f (m + m') (f + m) m' t (n + n') (t + n) n' (omega arith) (omega arith) (omega arith) (omega arith) h

  -- the other placement
  module _ (p : Placement) (order first : ℕ) (memref_own : own p.memref ≡ true) (dims_own : OwnDims own p.dims) where
    -- at its loop, which may have become another
    pub fine_follows : (made : Env) (loop loop' : Nest) (e g : Env) → Follows own new a k made e g
        → ((spans : List Side) → Each (ReachesBox p.memref order first spans) loop e → Each (ReachesBox p.memref order first spans) loop' g)
        → Fine p order first loop e → Fine p order first loop' g
    fine_follows made loop loop' e g s h fine =
        let same = sym (spans_follow own new a k made e g p.dims dims_own s) in
        record {
          home = s.home p.memref memref_own ∙ ap (home_up new) fine.home;
          lie = lie_follows own new a k made e g p.dims dims_own s fine.lie;
          elements = subst HasElements same fine.elements;
          reaches = subst (λ spans. Each (ReachesBox p.memref order first spans) loop' g) same (h (spans_at e p.dims) fine.reaches);
        }

    module _ (change : Plain → Plain) (same_fasts : (q : Plain) → fasts_of_plain (change q) ≡ fasts_of_plain q) (same_tags : (q : Plain) → tags_of_plain (change q) ≡ tags_of_plain q)
        (same_after : (q : Plain) (g : Env) → after_plain (change q) g ≡ after_plain q g) (made : Env)
        (one : (spans : List Side) (q : Plain) (e g : Env) → OwnPlain own q → Follows own new a k made e g → ReachesBox p.memref order first spans q e → ReachesBox p.memref order first spans (change q) g) where
      abbrev F : Env → Env → Type 0
      F = Follows own new a k made

      abbrev Room : Nest → Env → Type 0
      Room n e = Shifts own new a k e.fasts (fasts_in n) e.tags (tags_in n)

      abbrev C : Nest → Nest
      C n = mapped change n

      passes : (n : Nest) (e g : Env) → F e g → F (behind n e) (behind (C n) g)
      passes n e g s = behind_follows own new a k made n (C n) e g (fasts_mapped change same_fasts same_tags n) (tags_mapped change same_fasts same_tags n) s

      each_changed : (n : Nest) (e g : Env) → OwnNest own n → Room n e → F e g → (spans : List Side) → Each (ReachesBox p.memref order first spans) n e → Each (ReachesBox p.memref order first spans) (C n) g
      each_changed n e g h m s spans j = each_mapped own new a k made change same_fasts same_tags same_after (ReachesBox p.memref order first spans) (ReachesBox p.memref order first spans) (one spans) n e g h m s j

      first_room : (m m' : Nest) (e : Env) → Shifts own new a k e.fasts (fasts_in m + fasts_in m') e.tags (tags_in m + tags_in m') → Room m e
      first_room m m' e r = shifts_first e.fasts (fasts_in m) (fasts_in m') e.tags (tags_in m) (tags_in m') r

      second_room : (m m' : Nest) (e : Env) → Shifts own new a k e.fasts (fasts_in m + fasts_in m') e.tags (tags_in m + tags_in m') → Room m' (behind m e)
      second_room m m' e r = shifts_second e.fasts (fasts_in m) (fasts_in m') e.tags (tags_in m) (tags_in m') r

      alone_room : (n : Nest) (e : Env) → Room n e → Shifts own new a k e.fasts (fasts_in n + 0) e.tags (tags_in n + 0)
      alone_room n e r = shifts_part own new a k e.fasts (fasts_in n) e.fasts (fasts_in n + 0) e.tags (tags_in n) e.tags (tags_in n + 0) (omega arith) (omega arith) (omega arith) (omega arith) r

      branch_first : (x y z : Nest) (e : Env) → Shifts own new a k e.fasts (fasts_in x + fasts_in y + fasts_in z) e.tags (tags_in x + tags_in y + tags_in z) → Room x e
      branch_first x y z e r = shifts_part own new a k e.fasts (fasts_in x + fasts_in y + fasts_in z) e.fasts (fasts_in x) e.tags (tags_in x + tags_in y + tags_in z) e.tags (tags_in x) (omega arith) (omega arith) (omega arith) (omega arith) r

      branch_second : (x y z : Nest) (e : Env) → Shifts own new a k e.fasts (fasts_in x + fasts_in y + fasts_in z) e.tags (tags_in x + tags_in y + tags_in z) → Room y (behind x e)
      branch_second x y z e r =
          shifts_part own new a k e.fasts (fasts_in x + fasts_in y + fasts_in z) (e.fasts + fasts_in x) (fasts_in y) e.tags (tags_in x + tags_in y + tags_in z) (e.tags + tags_in x) (tags_in y) (omega arith) (omega arith) (omega arith) (omega arith) r

      branch_third : (x y z : Nest) (e : Env) → Shifts own new a k e.fasts (fasts_in x + fasts_in y + fasts_in z) e.tags (tags_in x + tags_in y + tags_in z) → Room z (behind y (behind x e))
      branch_third x y z e r =
          shifts_part own new a k e.fasts (fasts_in x + fasts_in y + fasts_in z) (e.fasts + fasts_in x + fasts_in y) (fasts_in z) e.tags (tags_in x + tags_in y + tags_in z) (e.tags + tags_in x + tags_in y) (tags_in z) (omega arith) (omega arith) (omega arith) (omega arith) r

      plain_room : (q : Plain) (rest : Nest) (e : Env) → Shifts own new a k e.fasts (fasts_of_plain q + fasts_in rest) e.tags (tags_of_plain q + tags_in rest) → Room rest (after_plain q e)
      plain_room q rest e r =
          let f = fasts_after q e in
          let t = tags_after q e in
          shifts_part own new a k e.fasts (fasts_of_plain q + fasts_in rest) (after_plain q e).fasts (fasts_in rest) e.tags (tags_of_plain q + tags_in rest) (after_plain q e).tags (tags_in rest) (omega (arith, f)) (omega (arith, f)) (omega (arith, t)) (omega (arith, t)) r

      plain_passes : (q : Plain) (rest : Nest) (e g : Env) → OwnPlain own q → Shifts own new a k e.fasts (fasts_of_plain q + fasts_in rest) e.tags (tags_of_plain q + tags_in rest) → F e g → F (after_plain q e) (after_plain (change q) g)
      plain_passes q rest e g h r s =
          subst (F (after_plain q e)) (sym (same_after q g))
          (after_follows own new a k made q e g h (shifts_first e.fasts (fasts_of_plain q) (fasts_in rest) e.tags (tags_of_plain q) (tags_in rest) r) s)

      abbrev pub OK : Spot → Nest → Env → Type 0
      OK t n e = FineAt p order first (found t n) n e

      pub fine_mapped : (t : Spot) (n : Nest) (e g : Env) → OwnNest own n → Room n e → F e g → OK t n e → OK t (C n) g
      fine_mapped t Nothing e g h m s j = tt
      fine_mapped t (Loop zero v l u step body rest) e g h m s j = fine_mapped t rest (behind body e) (behind (C body) g) h.4 (second_room body rest e m) (passes body e g s) j
      fine_mapped Here (Loop (suc line) v l u step body rest) e g h m s j =
          fine_follows made (Loop (suc line) v l u step body Nothing) (Loop (suc line) v l u step (C body) Nothing) e g s
          (λ spans r. each_changed (Loop (suc line) v l u step body Nothing) e g (h.0, h.1, h.2, h.3, tt) (alone_room body e (first_room body rest e m)) s spans r) j
      fine_mapped (Behind t) (Loop (suc line) v l u step body rest) e g h m s j = fine_mapped t rest (behind body e) (behind (C body) g) h.4 (second_room body rest e m) (passes body e g s) j
      fine_mapped (Inside t) (Loop (suc line) v l u step body rest) e g h m s j =
          subst (λ x. x) (λ i. Every (λ x. OK t (C body) (knows g v x)) (turns (sym (lower_same own new a k made e g l s h.1) i) (sym (upper_same own new a k made e g u s h.2) i) step))
          (every_along (λ x. OK t body (knows e v x)) (λ x. OK t (C body) (knows g v x))
          (λ x q. fine_mapped t body (knows e v x) (knows g v x) h.3 (first_room body rest e m) (known_follows own new a k made e g v _ _ h.0 refl s) q) (turns (lower_of e l) (upper_of e u) step) j)
      fine_mapped (Other t) (Loop (suc line) v l u step body rest) e g h m s j = tt
      fine_mapped t (Branch zero set ns first_ has other rest) e g h m s j =
          fine_mapped t rest (behind other (behind first_ e)) (behind (C other) (behind (C first_) g)) h.3 (branch_third first_ other rest e m) (passes other (behind first_ e) (behind (C first_) g) (passes first_ e g s)) j
      fine_mapped Here (Branch (suc line) set ns first_ has other rest) e g h m s j = tt
      fine_mapped (Behind t) (Branch (suc line) set ns first_ has other rest) e g h m s j =
          fine_mapped t rest (behind other (behind first_ e)) (behind (C other) (behind (C first_) g)) h.3 (branch_third first_ other rest e m) (passes other (behind first_ e) (behind (C first_) g) (passes first_ e g s)) j
      fine_mapped (Inside t) (Branch (suc line) set ns first_ has other rest) e g h m s j =
          λ is. fine_mapped t first_ e g h.1 (branch_first first_ other rest e m) s (j (sym (holds_same own new a k made e g set ns s h.0) ∙ is))
      fine_mapped (Other t) (Branch (suc line) set ns first_ has other rest) e g h m s j =
          λ is. fine_mapped t other (behind first_ e) (behind (C first_) g) h.2 (branch_second first_ other rest e m) (passes first_ e g s) (j (sym (holds_same own new a k made e g set ns s h.0) ∙ is))
      fine_mapped t (Does zero q rest) e g h m s j = fine_mapped t rest (after_plain q e) (after_plain (change q) g) h.1 (plain_room q rest e m) (plain_passes q rest e g h.0 m s) j
      fine_mapped Here (Does (suc line) q rest) e g h m s j = tt
      fine_mapped (Behind t) (Does (suc line) q rest) e g h m s j = fine_mapped t rest (after_plain q e) (after_plain (change q) g) h.1 (plain_room q rest e m) (plain_passes q rest e g h.0 m s) j
      fine_mapped (Inside t) (Does (suc line) q rest) e g h m s j = tt
      fine_mapped (Other t) (Does (suc line) q rest) e g h m s j = tt
