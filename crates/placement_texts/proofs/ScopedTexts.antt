-- A text in which a memref is staged breaks no rule but tested ones, where the loop with the template round it doesn't.
use Rattle.std.proofs.Common.{◌≡◌, ℕ, ℤ, List, refl, sym, ap, ◌∙◌, subst, Bool, true, false}
use Rattle.std.proofs.lemmas.Bool.{and_parts}
use Rattle.std.specs.Prelude.{not, is_some, ◌&&◌, Option, Some, None}
use Rattle.affine_expr.specs.declared.map.Set.{Set}
use Rattle.affine_ast.specs.declared.name.Name.{Name}
use Rattle.affine_ast.specs.declared.types.Bound.{Bound}
use Rattle.affine_ast.specs.Intervals.{picked_range, turn_range}
use Rattle.affine_ast.specs.Names.{same_name}
use Rattle.affine_ast.proofs.Names.{put-both, put-other, same_name-eq, same_name-sym}
use Rattle.affine_ast.specs.Nest.{Plain, Nest, Nothing, Loop, Branch, Does, Value, Load, Store, RawLoad, RawStore, Constant, Binary, Cast, Alloc, Dealloc, Start, Wait, Return}
use Rattle.affine_ast.specs.Rules.{is_in, is_new, is_allocation, is_allocated, bound_bounded, set_bounded, text_within, is_released_once}
use Rattle.affine_ast.specs.Scope.{Binding, Variable, Totals, Around, with_name, with_totals, counted, in_loop, in_condition, behind_plain}
use Rattle.affine_ast.specs.Validity.{Told, Broken, Passed, judged, then_told, rule, rule_of_plain, rule_of_loop, rule_of_condition, told}
use Rattle.valid_laws.proofs.Passing.{judged_passed, then_passed, Holds, plain_holds, LoopHolds, loop_holds, ConditionHolds, condition_holds}
use Rattle.placement_texts.specs.Own.{OwnNames, OwnBound, OwnPlain, OwnNest}
use Rattle.placement_texts.specs.Template.{Placement, fast_name, tag_name, staged_loop}
use Rattle.placement_texts.specs.Spots.{Spot, Here, Behind, Inside, Other, IsLoop, staged_at}
use Rattle.placement_texts.specs.Tests.{OnlyTested, BreaksOnlyTested, Sees, Fresh, Argued, DimsStand, behind_scope, scope_at}
use Rattle.placement_texts.proofs.Follows.{apart_own}
use Rattle.placement_texts.proofs.Deallocs.{released_staged}
use Rattle.placement_texts.proofs.Scoped.{bound_same, new_same, bound_stands_same, are_same, operands_same, at_same, first_same, last_same, plain_stays}

pub judged_only : (line : ℕ) (o : Option ℕ) (more : Told) → OnlyTested o → BreaksOnlyTested more → BreaksOnlyTested (judged line o more)
judged_only line None more h k = k
judged_only line (Some n) more h k = h

pub then_only : (x : Told) (more : Totals → Told) → BreaksOnlyTested x → ((t : Totals) → BreaksOnlyTested (more t)) → BreaksOnlyTested (then_told x more)
then_only (Broken line n) more h k = h
then_only (Passed t) more h k = k t

pub rules_of_loop : (b1 b2 b4 b7 b8 b9 b12 : Bool) → b1 ≡ true → b2 ≡ true → b4 ≡ true → b7 ≡ true → b8 ≡ true → OnlyTested (rule 1 b1 (rule 2 b2 (rule 4 b4 (rule 7 b7 (rule 8 b8 (rule 9 b9 (rule 12 b12 None)))))))
rules_of_loop b1 b2 b4 b7 b8 b9 b12 h1 h2 h4 h7 h8 = rw (h1, h2, h4, h7, h8) (last b9 b12)
  where
    last : (b9 b12 : Bool) → OnlyTested (rule 9 b9 (rule 12 b12 None))
    last false b12 = refl
    last true false = refl
    last true true = tt

rules_of_condition : (b1 b4 b7 b8 b9 b12 : Bool) → b1 ≡ true → b4 ≡ true → b7 ≡ true → b8 ≡ true → OnlyTested (rule 1 b1 (rule 4 b4 (rule 7 b7 (rule 8 b8 (rule 9 b9 (rule 12 b12 None))))))
rules_of_condition b1 b4 b7 b8 b9 b12 h1 h4 h7 h8 = rw (h1, h4, h7, h8) (last b9 b12)
  where
    last : (b9 b12 : Bool) → OnlyTested (rule 9 b9 (rule 12 b12 None))
    last false b12 = refl
    last true false = refl
    last true true = tt

-- a new name isn't one in scope
pub new_apart : (a : Around) (r m : Name) (x : Binding) → is_new a.scope r ≡ true → a.scope m ≡ Some x → same_name r m ≡ false
unfolding is_in
new_apart a r m x h k = by (same_name r m) refl
  where
    by : (t : Bool) → same_name r m ≡ t → same_name r m ≡ false
    by true e =
        let there : is_some (a.scope r) ≡ true = ap (λ n. is_some (a.scope n)) (same_name-eq r m e) ∙ ap is_some k in
        let z : true ≡ false = sym h ∙ ap not there in absurd (cc)
    by false e = e

-- the memref stays an argument
module _ (p : Placement) where
  name_argued : (a : Around) (r : Name) (x : Binding) → is_new a.scope r ≡ true → Argued p a → Argued p (with_name r x a)
  name_argued a r x n h = record { scope = put-other a.scope r (Some x) p.memref (new_apart a r p.memref _ n h.scope) ∙ h.scope; live = h.live }

  pub loop_argued : (a : Around) (v : Name) (l u : Bound) → is_new a.scope v ≡ true → Argued p a → Argued p (in_loop v l u (counted a))
  loop_argued a v l u n h = record { scope = put-other a.scope v _ p.memref (new_apart a v p.memref _ n h.scope) ∙ h.scope; live = h.live }

  -- it is no allocation
  unreleased : (a : Around) (m : Name) → is_allocated a.scope m ≡ true → Argued p a → same_name m p.memref ≡ false
  unfolding is_allocated
  unreleased a m k h = by (same_name m p.memref) refl
    where
      by : (t : Bool) → same_name m p.memref ≡ t → same_name m p.memref ≡ false
      by true e =
          let there : is_allocation (a.scope m) ≡ false = ap (λ n. is_allocation (a.scope n)) (same_name-eq m p.memref e) ∙ ap is_allocation h.scope in
          let z : true ≡ false = sym k ∙ there in absurd (cc)
      by false e = e

  pub plain_argued : (q : Plain) (a : Around) (rest : Nest) → Holds (counted a) q rest → Argued p a → Argued p (behind_plain q (counted a))
  plain_argued (Value r pick at) a rest j h = record { scope = (name_argued a r _ j.new_name h).scope; live = h.live }
  plain_argued (Load r m at ty) a rest j h = record { scope = (name_argued a r _ j.new_name h).scope; live = h.live }
  plain_argued (Store x m at ty) a rest j h = record { scope = h.scope; live = h.live }
  plain_argued (RawLoad r m at ty) a rest j h = record { scope = (name_argued a r _ j.new_name h).scope; live = h.live }
  plain_argued (RawStore x m at ty) a rest j h = record { scope = h.scope; live = h.live }
  plain_argued (Constant r z ty) a rest j h = record { scope = (name_argued a r _ j.new_name h).scope; live = h.live }
  plain_argued (Binary r op x y ty) a rest j h = record { scope = (name_argued a r _ j.new_name h).scope; live = h.live }
  plain_argued (Cast r kind x from to) a rest j h = record { scope = (name_argued a r _ j.new_name h).scope; live = h.live }
  plain_argued (Alloc r ty) a rest j h = record { scope = (name_argued a r _ j.new_name h).scope; live = h.live }
  plain_argued (Dealloc m ty) a rest j h =
      let k = and_parts (is_allocated a.scope m) _ j.spaces in
      record { scope = h.scope; live = put-other a.released m true p.memref (unreleased a m k.0 h) ∙ h.live }
  plain_argued (Start x x_at y y_at t t_at n stride types) a rest j h = record { scope = h.scope; live = h.live }
  plain_argued (Wait t at n ty) a rest j h = record { scope = h.scope; live = h.live }
  plain_argued Return a rest j h = record { scope = h.scope; live = h.live }

-- the names in scope behind a statement hang on those before it alone
pub scope_behind : (q : Plain) (a : Around) → behind_scope q a.scope ≡ (behind_plain q (counted a)).scope
scope_behind (Value r pick at) a = refl
scope_behind (Load r m at ty) a = refl
scope_behind (Store x m at ty) a = refl
scope_behind (RawLoad r m at ty) a = refl
scope_behind (RawStore x m at ty) a = refl
scope_behind (Constant r z ty) a = refl
scope_behind (Binary r op x y ty) a = refl
scope_behind (Cast r kind x from to) a = refl
scope_behind (Alloc r ty) a = refl
scope_behind (Dealloc m ty) a = refl
scope_behind (Start x x_at y y_at t t_at n stride types) a = refl
scope_behind (Wait t at n ty) a = refl
scope_behind Return a = refl

module _ (own : Name → Bool) where
  -- ---- what stands round
  name_seen : (a b : Around) (r : Name) (x y : Binding) → y ≡ x → Sees own a b → Sees own (with_name r x a) (with_name r y b)
  name_seen a b r x y is s = record { scope = λ n h. put-both b.scope a.scope r _ _ n (ap Some is) (s.scope n h); released = s.released }

  pub plain_seen : (q : Plain) (a b : Around) → OwnPlain own q → Sees own a b → Sees own (behind_plain q a) (behind_plain q b)
  plain_seen (Value r pick at) a b h s = name_seen a b r _ _ (ap (λ rs. Variable (picked_range pick rs)) (at_same own a.scope b.scope s.scope at h.1)) s
  plain_seen (Load r m at ty) a b h s = name_seen a b r _ _ refl s
  plain_seen (Store x m at ty) a b h s = s
  plain_seen (RawLoad r m at ty) a b h s = name_seen a b r _ _ refl s
  plain_seen (RawStore x m at ty) a b h s = s
  plain_seen (Constant r z ty) a b h s = name_seen a b r _ _ refl s
  plain_seen (Binary r op x y ty) a b h s = name_seen a b r _ _ refl s
  plain_seen (Cast r kind x from to) a b h s = name_seen a b r _ _ refl s
  plain_seen (Alloc r ty) a b h s = record { scope = λ n k. put-both b.scope a.scope r _ _ n refl (s.scope n k); released = s.released }
  plain_seen (Dealloc m ty) a b h s = record { scope = s.scope; released = λ n k. put-both b.released a.released m true true n refl (s.released n k) }
  plain_seen (Start x x_at y y_at t t_at n stride types) a b h s = s
  plain_seen (Wait t at n ty) a b h s = s
  plain_seen Return a b h s = s

  pub loop_seen : (v : Name) (l u : Bound) (a b : Around) → OwnBound own l → OwnBound own u → Sees own a b → Sees own (in_loop v l u a) (in_loop v l u b)
  loop_seen v l u a b hl hu s = record {
    scope = λ n h. put-both b.scope a.scope v _ _ n (λ i. Some (Variable (turn_range (first_same own a.scope b.scope s.scope l hl i) (last_same own a.scope b.scope s.scope u hu i)))) (s.scope n h);
    released = s.released;
  }

  pub loop_stays : (a b : Around) (v : Name) (l u : Bound) (step : ℤ) → own v ≡ true → OwnBound own l → OwnBound own u → Sees own a b → LoopHolds a v l u step → OnlyTested (rule_of_loop b v l u step)
  unfolding rule_of_loop
  loop_stays a b v l u step hv hl hu s j =
      rules_of_loop _ _ _ _ _ (bound_bounded b.scope l && bound_bounded b.scope u) (text_within b)
      ((λ i. bound_same own a.scope b.scope s.scope l hl i && bound_same own a.scope b.scope s.scope u hu i) ∙ j.uses)
      (new_same own a.scope b.scope s.scope v hv ∙ j.new_name)
      ((λ i. bound_stands_same own a.scope b.scope s.scope l hl i && bound_stands_same own a.scope b.scope s.scope u hu i) ∙ j.stand)
      j.fits j.pure

  pub condition_stays : (a b : Around) (set : Set) (ns : List Name) → OwnNames own ns → Sees own a b → ConditionHolds a set ns → OnlyTested (rule_of_condition b set ns)
  unfolding rule_of_condition
  condition_stays a b set ns h s j =
      rules_of_condition _ _ _ _ (set_bounded b.scope set ns) (text_within b) (are_same own a.scope b.scope s.scope ns h ∙ j.uses) (operands_same own a.scope b.scope s.scope set.dims ns h ∙ j.stand) j.fits j.pure

  -- totals, and statements counted, don't matter
  pub same_names : (a b a' b' : Around) → a'.scope ≡ a.scope → b'.scope ≡ b.scope → a'.released ≡ a.released → b'.released ≡ b.released → Sees own a b → Sees own a' b'
  same_names a b a' b' p q u v s = record { scope = λ n h. ap (λ f. f n) q ∙ s.scope n h ∙ sym (ap (λ f. f n) p); released = λ n h. ap (λ f. f n) v ∙ s.released n h ∙ sym (ap (λ f. f n) u) }

  -- ---- a text that stays
  pub text_stays : (n : Nest) (a b : Around) (t : Totals) → told n a ≡ Passed t → OwnNest own n → Sees own a b → BreaksOnlyTested (told n b)
  unfolding told
  text_stays Nothing a b t h o s = tt
  text_stays (Loop line v l u step body rest) a b t h o s =
      let j = judged_passed line (rule_of_loop (counted a) v l u step) _ t h in
      let k = then_passed (told body (in_loop v l u (counted a))) (λ t. told rest (with_totals t a)) t j.1 in
      let s1 = same_names a b (counted a) (counted b) refl refl refl refl s in
      judged_only line (rule_of_loop (counted b) v l u step) _ (loop_stays (counted a) (counted b) v l u step o.0 o.1 o.2 s1 (loop_holds (counted a) v l u step j.0))
      (then_only (told body (in_loop v l u (counted b))) (λ t. told rest (with_totals t b))
      (text_stays body (in_loop v l u (counted a)) (in_loop v l u (counted b)) k.0 k.1 o.3 (loop_seen v l u (counted a) (counted b) o.1 o.2 s1))
      (λ x. text_stays rest (with_totals k.0 a) (with_totals x b) t k.2 o.4 (same_names a b (with_totals k.0 a) (with_totals x b) refl refl refl refl s)))
  text_stays (Branch line set ns first has other rest) a b t h o s =
      let j = judged_passed line (rule_of_condition (counted a) set ns) _ t h in
      let k = then_passed (told first (in_condition (counted a))) (λ t. then_told (told other (in_condition (with_totals t a))) (λ u. told rest (with_totals u a))) t j.1 in
      let m = then_passed (told other (in_condition (with_totals k.0 a))) (λ u. told rest (with_totals u a)) t k.2 in
      let s1 = same_names a b (counted a) (counted b) refl refl refl refl s in
      judged_only line (rule_of_condition (counted b) set ns) _ (condition_stays (counted a) (counted b) set ns o.0 s1 (condition_holds (counted a) set ns j.0))
      (then_only (told first (in_condition (counted b))) (λ t. then_told (told other (in_condition (with_totals t b))) (λ u. told rest (with_totals u b)))
      (text_stays first (in_condition (counted a)) (in_condition (counted b)) k.0 k.1 o.1 (same_names a b (in_condition (counted a)) (in_condition (counted b)) refl refl refl refl s))
      (λ x. then_only (told other (in_condition (with_totals x b))) (λ u. told rest (with_totals u b))
      (text_stays other (in_condition (with_totals k.0 a)) (in_condition (with_totals x b)) m.0 m.1 o.2 (same_names a b (in_condition (with_totals k.0 a)) (in_condition (with_totals x b)) refl refl refl refl s))
      (λ y. text_stays rest (with_totals m.0 a) (with_totals y b) t m.2 o.3 (same_names a b (with_totals m.0 a) (with_totals y b) refl refl refl refl s))))
  text_stays (Does line q rest) a b t h o s =
      let j = judged_passed line (rule_of_plain (counted a) q rest) _ t h in
      let s1 = same_names a b (counted a) (counted b) refl refl refl refl s in
      judged_only line (rule_of_plain (counted b) q rest) _ (plain_stays own (counted a) (counted b) s1 q rest rest o.0 (λ r k. refl) (plain_holds (counted a) q rest j.0))
      (text_stays rest (behind_plain q (counted a)) (behind_plain q (counted b)) t j.1 o.1 (plain_seen q (counted a) (counted b) o.0 s1))

  -- ---- made names
  fresh_name : (a : Around) (r : Name) (x : Binding) → own r ≡ true → Fresh own a → Fresh own (with_name r x a)
  fresh_name a r x o f = λ n h. (put-other a.scope r (Some x) n (apart_own own r n o h) ∙ (f n h).0, (f n h).1)

  plain_fresh : (q : Plain) (a : Around) → OwnPlain own q → Fresh own a → Fresh own (behind_plain q a)
  plain_fresh (Value r pick at) a h f = fresh_name a r _ h.0 f
  plain_fresh (Load r m at ty) a h f = fresh_name a r _ h.0 f
  plain_fresh (Store x m at ty) a h f = f
  plain_fresh (RawLoad r m at ty) a h f = fresh_name a r _ h.0 f
  plain_fresh (RawStore x m at ty) a h f = f
  plain_fresh (Constant r z ty) a h f = fresh_name a r _ h f
  plain_fresh (Binary r op x y ty) a h f = fresh_name a r _ h.0 f
  plain_fresh (Cast r kind x from to) a h f = fresh_name a r _ h.0 f
  plain_fresh (Alloc r ty) a h f = λ n k. (put-other a.scope r _ n (apart_own own r n h.0 k) ∙ (f n k).0, (f n k).1)
  plain_fresh (Dealloc m ty) a h f = λ n k. ((f n k).0, put-other a.released m true n (apart_own own m n h k) ∙ (f n k).1)
  plain_fresh (Start x x_at y y_at t t_at n stride types) a h f = f
  plain_fresh (Wait t at n ty) a h f = f
  plain_fresh Return a h f = f

  -- ---- a text in which a memref is staged. `block` is what is left to show: the loop with the template round it, and what
  -- follows it
  module _ (p : Placement) (fast : own (fast_name p.name) ≡ false) (tag : own (tag_name p.name) ≡ false)
      (block : (line : ℕ) (v : Name) (l u : Bound) (step : ℤ) (body rest : Nest) (a b : Around) (t : Totals) → told (Loop line v l u step body rest) a ≡ Passed t → OwnNest own (Loop line v l u step body rest)
      → Sees own a b → Fresh own b → Argued p a → DimsStand a.scope p.dims → BreaksOnlyTested (told (staged_loop p (Loop line v l u step body rest) rest) b)) where
    released_same : (s : Spot) (n : Nest) → IsLoop s n → (r : Name) → own r ≡ true → is_released_once r (staged_at p s n) ≡ is_released_once r n
    released_same s n is r o = released_staged p r (made_apart r (fast_name p.name) o fast) (made_apart r (tag_name p.name) o tag) s n is
      where
        made_apart : (r n : Name) → own r ≡ true → own n ≡ false → same_name n r ≡ false
        made_apart r n o m = same_name-sym n r ∙ apart_own own r n o m

    pub text_staged : (s : Spot) (n : Nest) (a b : Around) (t : Totals) → IsLoop s n → told n a ≡ Passed t → OwnNest own n → Sees own a b → Fresh own b → Argued p a → DimsStand (scope_at s n a.scope) p.dims
        → BreaksOnlyTested (told (staged_at p s n) b)
    unfolding told
    text_staged s Nothing a b t is h o s_ f ar ds = absurd is
    text_staged Here (Loop line v l u step body rest) a b t is h o s_ f ar ds = block line v l u step body rest a b t h o s_ f ar ds
    text_staged (Behind s) (Loop line v l u step body rest) a b t is h o s_ f ar ds =
        let j = judged_passed line (rule_of_loop (counted a) v l u step) _ t h in
        let k = then_passed (told body (in_loop v l u (counted a))) (λ t. told rest (with_totals t a)) t j.1 in
        let s1 = same_names a b (counted a) (counted b) refl refl refl refl s_ in
        judged_only line (rule_of_loop (counted b) v l u step) _ (loop_stays (counted a) (counted b) v l u step o.0 o.1 o.2 s1 (loop_holds (counted a) v l u step j.0))
        (then_only (told body (in_loop v l u (counted b))) (λ t. told (staged_at p s rest) (with_totals t b))
        (text_stays body (in_loop v l u (counted a)) (in_loop v l u (counted b)) k.0 k.1 o.3 (loop_seen v l u (counted a) (counted b) o.1 o.2 s1))
        (λ x. text_staged s rest (with_totals k.0 a) (with_totals x b) t is k.2 o.4 (same_names a b (with_totals k.0 a) (with_totals x b) refl refl refl refl s_) f (record { scope = ar.scope; live = ar.live }) ds))
    text_staged (Inside s) (Loop line v l u step body rest) a b t is h o s_ f ar ds =
        let j = judged_passed line (rule_of_loop (counted a) v l u step) _ t h in
        let k = then_passed (told body (in_loop v l u (counted a))) (λ t. told rest (with_totals t a)) t j.1 in
        let s1 = same_names a b (counted a) (counted b) refl refl refl refl s_ in
        judged_only line (rule_of_loop (counted b) v l u step) _ (loop_stays (counted a) (counted b) v l u step o.0 o.1 o.2 s1 (loop_holds (counted a) v l u step j.0))
        (then_only (told (staged_at p s body) (in_loop v l u (counted b))) (λ t. told rest (with_totals t b))
        (text_staged s body (in_loop v l u (counted a)) (in_loop v l u (counted b)) k.0 is k.1 o.3 (loop_seen v l u (counted a) (counted b) o.1 o.2 s1) (λ n m. (put-other b.scope v _ n (apart_own own v n o.0 m) ∙ (f n m).0, (f n m).1)) (loop_argued p a v l u (loop_holds (counted a) v l u step j.0).new_name ar) ds)
        (λ x. text_stays rest (with_totals k.0 a) (with_totals x b) t k.2 o.4 (same_names a b (with_totals k.0 a) (with_totals x b) refl refl refl refl s_)))
    text_staged (Other s) (Loop line v l u step body rest) a b t is h o s_ f ar ds = absurd is
    text_staged Here (Branch line set ns first has other rest) a b t is h o s_ f ar ds = absurd is
    text_staged (Behind s) (Branch line set ns first has other rest) a b t is h o s_ f ar ds =
        let j = judged_passed line (rule_of_condition (counted a) set ns) _ t h in
        let k = then_passed (told first (in_condition (counted a))) (λ t. then_told (told other (in_condition (with_totals t a))) (λ u. told rest (with_totals u a))) t j.1 in
        let m = then_passed (told other (in_condition (with_totals k.0 a))) (λ u. told rest (with_totals u a)) t k.2 in
        let s1 = same_names a b (counted a) (counted b) refl refl refl refl s_ in
        judged_only line (rule_of_condition (counted b) set ns) _ (condition_stays (counted a) (counted b) set ns o.0 s1 (condition_holds (counted a) set ns j.0))
        (then_only (told first (in_condition (counted b))) (λ t. then_told (told other (in_condition (with_totals t b))) (λ u. told (staged_at p s rest) (with_totals u b)))
        (text_stays first (in_condition (counted a)) (in_condition (counted b)) k.0 k.1 o.1 (same_names a b (in_condition (counted a)) (in_condition (counted b)) refl refl refl refl s_))
        (λ x. then_only (told other (in_condition (with_totals x b))) (λ u. told (staged_at p s rest) (with_totals u b))
        (text_stays other (in_condition (with_totals k.0 a)) (in_condition (with_totals x b)) m.0 m.1 o.2 (same_names a b (in_condition (with_totals k.0 a)) (in_condition (with_totals x b)) refl refl refl refl s_))
        (λ y. text_staged s rest (with_totals m.0 a) (with_totals y b) t is m.2 o.3 (same_names a b (with_totals m.0 a) (with_totals y b) refl refl refl refl s_) f (record { scope = ar.scope; live = ar.live }) ds)))
    text_staged (Inside s) (Branch line set ns first has other rest) a b t is h o s_ f ar ds =
        let j = judged_passed line (rule_of_condition (counted a) set ns) _ t h in
        let k = then_passed (told first (in_condition (counted a))) (λ t. then_told (told other (in_condition (with_totals t a))) (λ u. told rest (with_totals u a))) t j.1 in
        let m = then_passed (told other (in_condition (with_totals k.0 a))) (λ u. told rest (with_totals u a)) t k.2 in
        let s1 = same_names a b (counted a) (counted b) refl refl refl refl s_ in
        judged_only line (rule_of_condition (counted b) set ns) _ (condition_stays (counted a) (counted b) set ns o.0 s1 (condition_holds (counted a) set ns j.0))
        (then_only (told (staged_at p s first) (in_condition (counted b))) (λ t. then_told (told other (in_condition (with_totals t b))) (λ u. told rest (with_totals u b)))
        (text_staged s first (in_condition (counted a)) (in_condition (counted b)) k.0 is k.1 o.1 (same_names a b (in_condition (counted a)) (in_condition (counted b)) refl refl refl refl s_) f (record { scope = ar.scope; live = ar.live }) ds)
        (λ x. then_only (told other (in_condition (with_totals x b))) (λ u. told rest (with_totals u b))
        (text_stays other (in_condition (with_totals k.0 a)) (in_condition (with_totals x b)) m.0 m.1 o.2 (same_names a b (in_condition (with_totals k.0 a)) (in_condition (with_totals x b)) refl refl refl refl s_))
        (λ y. text_stays rest (with_totals m.0 a) (with_totals y b) t m.2 o.3 (same_names a b (with_totals m.0 a) (with_totals y b) refl refl refl refl s_))))
    text_staged (Other s) (Branch line set ns first has other rest) a b t is h o s_ f ar ds =
        let j = judged_passed line (rule_of_condition (counted a) set ns) _ t h in
        let k = then_passed (told first (in_condition (counted a))) (λ t. then_told (told other (in_condition (with_totals t a))) (λ u. told rest (with_totals u a))) t j.1 in
        let m = then_passed (told other (in_condition (with_totals k.0 a))) (λ u. told rest (with_totals u a)) t k.2 in
        let s1 = same_names a b (counted a) (counted b) refl refl refl refl s_ in
        judged_only line (rule_of_condition (counted b) set ns) _ (condition_stays (counted a) (counted b) set ns o.0 s1 (condition_holds (counted a) set ns j.0))
        (then_only (told first (in_condition (counted b))) (λ t. then_told (told (staged_at p s other) (in_condition (with_totals t b))) (λ u. told rest (with_totals u b)))
        (text_stays first (in_condition (counted a)) (in_condition (counted b)) k.0 k.1 o.1 (same_names a b (in_condition (counted a)) (in_condition (counted b)) refl refl refl refl s_))
        (λ x. then_only (told (staged_at p s other) (in_condition (with_totals x b))) (λ u. told rest (with_totals u b))
        (text_staged s other (in_condition (with_totals k.0 a)) (in_condition (with_totals x b)) m.0 is m.1 o.2 (same_names a b (in_condition (with_totals k.0 a)) (in_condition (with_totals x b)) refl refl refl refl s_) f (record { scope = ar.scope; live = ar.live }) ds)
        (λ y. text_stays rest (with_totals m.0 a) (with_totals y b) t m.2 o.3 (same_names a b (with_totals m.0 a) (with_totals y b) refl refl refl refl s_))))
    text_staged Here (Does line q rest) a b t is h o s_ f ar ds = absurd is
    text_staged (Behind s) (Does line q rest) a b t is h o s_ f ar ds =
        let j = judged_passed line (rule_of_plain (counted a) q rest) _ t h in
        let s1 = same_names a b (counted a) (counted b) refl refl refl refl s_ in
        judged_only line (rule_of_plain (counted b) q (staged_at p s rest)) _ (plain_stays own (counted a) (counted b) s1 q rest (staged_at p s rest) o.0 (λ r k. released_same s rest is r k) (plain_holds (counted a) q rest j.0))
        (text_staged s rest (behind_plain q (counted a)) (behind_plain q (counted b)) t is j.1 o.1 (plain_seen q (counted a) (counted b) o.0 s1) (plain_fresh q (counted b) o.0 f) (plain_argued p q a rest (plain_holds (counted a) q rest j.0) ar) (subst (λ x. DimsStand (scope_at s rest x) p.dims) (scope_behind q a) ds))
    text_staged (Inside s) (Does line q rest) a b t is h o s_ f ar ds = absurd is
    text_staged (Other s) (Does line q rest) a b t is h o s_ f ar ds = absurd is
