-- The loop's statements, redirected, break no rule but tested ones.
use Rattle.std.proofs.Common.{◌≡◌, ℤ, List, [], ◌∷◌, refl, sym, ap, ◌∙◌, subst, arith, Bool, true, false}
use Rattle.std.specs.Prelude.{nat_eq, Option, if◌then◌else◌}
use Rattle.affine_ast.specs.declared.name.Name.{Name}
use Rattle.affine_ast.specs.declared.types.Bound.{Bound}
use Rattle.affine_ast.specs.declared.types.MemrefType.{MemrefType}
use Rattle.affine_ast.specs.Names.{same_name, put}
use Rattle.affine_ast.proofs.Names.{put-other, same_name-eq}
use Rattle.affine_ast.specs.Nest.{Plain, Nest, Nothing, Loop, Branch, Does, Value, Load, Store, RawLoad, RawStore, Constant, Binary, Cast, Alloc, Dealloc, Start, Wait, Return}
use Rattle.affine_ast.specs.Rules.{is_new, is_released_once, same_type, same_element}
use Rattle.affine_ast.specs.Sizes.{element_bits}
use Rattle.affine_ast.specs.declared.types.Element.{Element}
use Rattle.affine_ast.specs.declared.types.Element.TheVariants.{I8, I16, I32, I64}
use Rattle.affine_ast.specs.declared.types.Scalar.TheVariants.{Int}
use Rattle.std.specs.Cmp.Lexicographic.{pointwise}
use Rattle.std.proofs.lemmas.Bool.{and_parts, eqb-true}
use Rattle.affine_ast.specs.Scope.{Binding, Data, with_name, Totals, Around, with_totals, counted, in_loop, in_condition, behind_plain}
use Rattle.affine_ast.specs.Validity.{Passed, then_told, rule_of_plain, rule_of_loop, rule_of_condition, told}
use Rattle.valid_laws.proofs.Passing.{judged_passed, then_passed, Holds, plain_holds, LoopHolds, loop_holds, condition_holds}
use Rattle.placement_texts.specs.Own.{OwnPlain, OwnNest}
use Rattle.placement_texts.specs.Mapped.{mapped}
use Rattle.placement_texts.specs.Template.{Placement, dim_sizes, slow_type, fast_name, tag_name, Begin, Fixed, Named, begins, redirect}
use Rattle.placement_texts.specs.Tests.{OnlyTested, BreaksOnlyTested, Sees}
use Rattle.placement_texts.proofs.Follows.{apart_own}
use Rattle.placement_texts.proofs.Redirect.{MadeBegins}
use Rattle.placement_texts.proofs.Deallocs.{released_mapped}
use Rattle.placement_texts.proofs.Scoped.{plain_stays}
use Rattle.placement_texts.proofs.ScopedAccess.{AreVariables, Within, typed, load_only, store_only}
use Rattle.placement_texts.proofs.ScopedTexts.{new_apart, judged_only, then_only, plain_seen, loop_seen, loop_stays, condition_stays, same_names}

module _ (own : Name → Bool) (p : Placement) (fast_made : own (fast_name p.name) ≡ false) (tag_made : own (tag_name p.name) ≡ false) (begins_made : MadeBegins own (begins p)) where
  -- a statement of the text takes none of the template's names
  places_stay : (s : Name → Option Binding) (r : Name) (x : Option Binding) (bs : List Begin) → own r ≡ true → MadeBegins own bs → AreVariables s bs → AreVariables (put s r x) bs
  places_stay s r x [] o m h = tt
  places_stay s r x (Fixed z ∷ bs) o m h = places_stay s r x bs o m h
  places_stay s r x (Named n ∷ bs) o m h = (h.0, put-other s r x n (apart_own own r n o m.0) ∙ h.1, places_stay s r x bs o m.1 h.2)

  define : (a b a' b' : Around) (s1 : Sees own a b) (s2 : Sees own a' b') (r : Name) (x y : Option Binding) → own r ≡ true → is_new a.scope r ≡ true → a'.scope ≡ put a.scope r x → b'.scope ≡ put b.scope r y → b'.released ≡ b.released
      → Within own p a b s1 → Within own p a' b' s2
  define a b a' b' s1 s2 r x y o new ea eb er w = record {
    memref = ap (λ f. f p.memref) ea ∙ put-other a.scope r x p.memref (new_apart a r p.memref _ new w.memref) ∙ w.memref;
    fast = ap (λ f. f (fast_name p.name)) eb ∙ put-other b.scope r y (fast_name p.name) (apart_own own r (fast_name p.name) o fast_made) ∙ w.fast;
    live = ap (λ f. f (fast_name p.name)) er ∙ w.live;
    places = subst (λ s. AreVariables s (begins p)) (sym eb) (places_stay b.scope r y (begins p) o begins_made w.places);
  }

  keep : (a b a' b' : Around) (s1 : Sees own a b) (s2 : Sees own a' b') → a'.scope ≡ a.scope → b'.scope ≡ b.scope → b'.released (fast_name p.name) ≡ b.released (fast_name p.name) → Within own p a b s1 → Within own p a' b' s2
  keep a b a' b' s1 s2 ea eb er w = record {
    memref = ap (λ f. f p.memref) ea ∙ w.memref;
    fast = ap (λ f. f (fast_name p.name)) eb ∙ w.fast;
    live = er ∙ w.live;
    places = subst (λ s. AreVariables s (begins p)) (sym eb) w.places;
  }

  plain_within : (q : Plain) (a b : Around) (rest : Nest) (s1 : Sees own a b) (s2 : Sees own (behind_plain q a) (behind_plain q b)) → OwnPlain own q → Holds a q rest → Within own p a b s1 → Within own p (behind_plain q a) (behind_plain q b) s2
  plain_within (Value r pick at) a b rest s1 s2 h j w = define a b _ _ s1 s2 r _ _ h.0 j.new_name refl refl refl w
  plain_within (Load r m at ty) a b rest s1 s2 h j w = define a b _ _ s1 s2 r _ _ h.0 j.new_name refl refl refl w
  plain_within (Store x m at ty) a b rest s1 s2 h j w = keep a b _ _ s1 s2 refl refl refl w
  plain_within (RawLoad r m at ty) a b rest s1 s2 h j w = define a b _ _ s1 s2 r _ _ h.0 j.new_name refl refl refl w
  plain_within (RawStore x m at ty) a b rest s1 s2 h j w = keep a b _ _ s1 s2 refl refl refl w
  plain_within (Constant r z ty) a b rest s1 s2 h j w = define a b _ _ s1 s2 r _ _ h j.new_name refl refl refl w
  plain_within (Binary r op x y ty) a b rest s1 s2 h j w = define a b _ _ s1 s2 r _ _ h.0 j.new_name refl refl refl w
  plain_within (Cast r kind x from to) a b rest s1 s2 h j w = define a b _ _ s1 s2 r _ _ h.0 j.new_name refl refl refl w
  plain_within (Alloc r ty) a b rest s1 s2 h j w = define a b _ _ s1 s2 r _ _ h.0 j.new_name refl refl refl w
  plain_within (Dealloc m ty) a b rest s1 s2 h j w = keep a b _ _ s1 s2 refl refl (put-other b.released m true (fast_name p.name) (apart_own own m (fast_name p.name) h fast_made)) w
  plain_within (Start x x_at y y_at t t_at n stride types) a b rest s1 s2 h j w = keep a b _ _ s1 s2 refl refl refl w
  plain_within (Wait t at n ty) a b rest s1 s2 h j w = keep a b _ _ s1 s2 refl refl refl w
  plain_within Return a b rest s1 s2 h j w = keep a b _ _ s1 s2 refl refl refl w

  released : (rest : Nest) (r : Name) → own r ≡ true → is_released_once r (mapped (redirect p) rest) ≡ is_released_once r rest
  released rest r o = released_mapped p r rest

  access_only : (t : Bool) (x y : Plain) (b : Around) (rest' : Nest) → (t ≡ true → OnlyTested (rule_of_plain b x rest')) → (t ≡ false → OnlyTested (rule_of_plain b y rest')) → OnlyTested (rule_of_plain b (if t then x else y) rest')
  access_only true x y b rest' h k = h refl
  access_only false x y b rest' h k = k refl

  by_name : (m : Name) (P : Name → Type 0) → same_name p.memref m ≡ true → P m → P p.memref
  by_name m P is h = subst P (sym (same_name-eq p.memref m is)) h

  redirect_only : (q : Plain) (a b : Around) (rest : Nest) (s : Sees own a b) → Within own p a b s → OwnPlain own q → Holds a q rest → OnlyTested (rule_of_plain b (redirect p q) (mapped (redirect p) rest))
  redirect_only (Load r m at ty) a b rest s w h j =
      access_only (same_name p.memref m) _ (Load r m at ty) b (mapped (redirect p) rest)
      (λ is. load_only own p a b s w r at ty rest (mapped (redirect p) rest) (by_name m (λ m. OwnPlain own (Load r m at ty)) is h) (by_name m (λ m. Holds a (Load r m at ty) rest) is j))
      (λ isnt. plain_stays own a b s (Load r m at ty) rest (mapped (redirect p) rest) h (λ r o. released rest r o) j)
  redirect_only (Store x m at ty) a b rest s w h j =
      access_only (same_name p.memref m) _ (Store x m at ty) b (mapped (redirect p) rest)
      (λ is. store_only own p a b s w x at ty rest (mapped (redirect p) rest) (by_name m (λ m. OwnPlain own (Store x m at ty)) is h) (by_name m (λ m. Holds a (Store x m at ty) rest) is j))
      (λ isnt. plain_stays own a b s (Store x m at ty) rest (mapped (redirect p) rest) h (λ r o. released rest r o) j)
  redirect_only (Value r pick at) a b rest s w h j = plain_stays own a b s (Value r pick at) rest (mapped (redirect p) rest) h (λ r o. released rest r o) j
  redirect_only (RawLoad r m at ty) a b rest s w h j = plain_stays own a b s (RawLoad r m at ty) rest (mapped (redirect p) rest) h (λ r o. released rest r o) j
  redirect_only (RawStore x m at ty) a b rest s w h j = plain_stays own a b s (RawStore x m at ty) rest (mapped (redirect p) rest) h (λ r o. released rest r o) j
  redirect_only (Constant r z ty) a b rest s w h j = plain_stays own a b s (Constant r z ty) rest (mapped (redirect p) rest) h (λ r o. released rest r o) j
  redirect_only (Binary r op x y ty) a b rest s w h j = plain_stays own a b s (Binary r op x y ty) rest (mapped (redirect p) rest) h (λ r o. released rest r o) j
  redirect_only (Cast r kind x from to) a b rest s w h j = plain_stays own a b s (Cast r kind x from to) rest (mapped (redirect p) rest) h (λ r o. released rest r o) j
  redirect_only (Alloc r ty) a b rest s w h j = plain_stays own a b s (Alloc r ty) rest (mapped (redirect p) rest) h (λ r o. released rest r o) j
  redirect_only (Dealloc m ty) a b rest s w h j = plain_stays own a b s (Dealloc m ty) rest (mapped (redirect p) rest) h (λ r o. released rest r o) j
  redirect_only (Start x x_at y y_at t t_at n stride types) a b rest s w h j = plain_stays own a b s (Start x x_at y y_at t t_at n stride types) rest (mapped (redirect p) rest) h (λ r o. released rest r o) j
  redirect_only (Wait t at n ty) a b rest s w h j = plain_stays own a b s (Wait t at n ty) rest (mapped (redirect p) rest) h (λ r o. released rest r o) j
  redirect_only Return a b rest s w h j = plain_stays own a b s Return rest (mapped (redirect p) rest) h (λ r o. released rest r o) j

  -- ---- what stands round behind a redirected statement
  element_is : (d e : Element) → element_bits d ≡ element_bits e → d ≡ e
  element_is I8 I8 h = refl
  element_is I16 I16 h = refl
  element_is I32 I32 h = refl
  element_is I64 I64 h = refl
  element_is I8 I16 h = absurd (omega (arith, h))
  element_is I8 I32 h = absurd (omega (arith, h))
  element_is I8 I64 h = absurd (omega (arith, h))
  element_is I16 I8 h = absurd (omega (arith, h))
  element_is I16 I32 h = absurd (omega (arith, h))
  element_is I16 I64 h = absurd (omega (arith, h))
  element_is I32 I8 h = absurd (omega (arith, h))
  element_is I32 I16 h = absurd (omega (arith, h))
  element_is I32 I64 h = absurd (omega (arith, h))
  element_is I64 I8 h = absurd (omega (arith, h))
  element_is I64 I16 h = absurd (omega (arith, h))
  element_is I64 I32 h = absurd (omega (arith, h))

  same_elements : (ty : MemrefType) → same_type (slow_type p) ty ≡ true → p.element ≡ ty.element
  unfolding same_type
  same_elements ty h =
      let q = and_parts (pointwise nat_eq (dim_sizes p.dims) ty.sizes) _ h in
      let r = and_parts (same_element p.element ty.element) _ q.1 in
      element_is p.element ty.element (eqb-true (element_bits p.element) (element_bits ty.element) r.0)

  -- a redirected statement makes known what the statement does
  behind_same_by : (t : Bool) (x y : Plain) (b : Around) → (t ≡ true → behind_plain x b ≡ behind_plain y b) → behind_plain (if t then x else y) b ≡ behind_plain y b
  behind_same_by true x y b h = h refl
  behind_same_by false x y b h = refl

  behind_same : (q : Plain) (a b : Around) (rest : Nest) (s : Sees own a b) → Within own p a b s → Holds a q rest → behind_plain (redirect p q) b ≡ behind_plain q b
  behind_same (Load r m at ty) a b rest s w j =
      behind_same_by (same_name p.memref m) _ (Load r m at ty) b
      (λ is. ap (λ e. with_name r (Data (Int e)) b) (same_elements ty (typed own p a b s w m ty (same_name-eq p.memref m is) j.types)))
  behind_same (Store x m at ty) a b rest s w j = behind_same_by (same_name p.memref m) _ (Store x m at ty) b (λ is. refl)
  behind_same (Value r pick at) a b rest s w j = refl
  behind_same (RawLoad r m at ty) a b rest s w j = refl
  behind_same (RawStore x m at ty) a b rest s w j = refl
  behind_same (Constant r z ty) a b rest s w j = refl
  behind_same (Binary r op x y ty) a b rest s w j = refl
  behind_same (Cast r kind x from to) a b rest s w j = refl
  behind_same (Alloc r ty) a b rest s w j = refl
  behind_same (Dealloc m ty) a b rest s w j = refl
  behind_same (Start x x_at y y_at t t_at n stride types) a b rest s w j = refl
  behind_same (Wait t at n ty) a b rest s w j = refl
  behind_same Return a b rest s w j = refl

  pub loop_within : (v : Name) (l u : Bound) (step : ℤ) (a b : Around) (s1 : Sees own a b) (s2 : Sees own (in_loop v l u a) (in_loop v l u b)) → own v ≡ true → LoopHolds a v l u step → Within own p a b s1 → Within own p (in_loop v l u a) (in_loop v l u b) s2
  loop_within v l u step a b s1 s2 o j w = define a b _ _ s1 s2 v _ _ o j.new_name refl refl refl w

  -- the loop's statements, redirected
  pub text_redirected : (n : Nest) (a b : Around) (t : Totals) → told n a ≡ Passed t → OwnNest own n → (s : Sees own a b) → Within own p a b s → BreaksOnlyTested (told (mapped (redirect p) n) b)
  unfolding told
  text_redirected Nothing a b t h o s w = tt
  text_redirected (Loop line v l u step body rest) a b t h o s w =
      let j = judged_passed line (rule_of_loop (counted a) v l u step) _ t h in
      let k = then_passed (told body (in_loop v l u (counted a))) (λ t. told rest (with_totals t a)) t j.1 in
      let s1 = same_names own a b (counted a) (counted b) refl refl refl refl s in
      let w1 = keep a b (counted a) (counted b) s s1 refl refl refl w in
      let holds = loop_holds (counted a) v l u step j.0 in
      let s2 = loop_seen own v l u (counted a) (counted b) o.1 o.2 s1 in
      judged_only line (rule_of_loop (counted b) v l u step) (then_told (told (mapped (redirect p) body) (in_loop v l u (counted b))) (λ t. told (mapped (redirect p) rest) (with_totals t b)))
      (loop_stays own (counted a) (counted b) v l u step o.0 o.1 o.2 s1 holds)
      (then_only (told (mapped (redirect p) body) (in_loop v l u (counted b))) (λ t. told (mapped (redirect p) rest) (with_totals t b))
      (text_redirected body (in_loop v l u (counted a)) (in_loop v l u (counted b)) k.0 k.1 o.3 s2 (loop_within v l u step (counted a) (counted b) s1 s2 o.0 holds w1))
      (λ x. let s3 = same_names own a b (with_totals k.0 a) (with_totals x b) refl refl refl refl s in text_redirected rest (with_totals k.0 a) (with_totals x b) t k.2 o.4 s3 (keep a b (with_totals k.0 a) (with_totals x b) s s3 refl refl refl w)))
  text_redirected (Branch line set ns first has other rest) a b t h o s w =
      let j = judged_passed line (rule_of_condition (counted a) set ns) _ t h in
      let k = then_passed (told first (in_condition (counted a))) (λ t. then_told (told other (in_condition (with_totals t a))) (λ u. told rest (with_totals u a))) t j.1 in
      let m = then_passed (told other (in_condition (with_totals k.0 a))) (λ u. told rest (with_totals u a)) t k.2 in
      let s1 = same_names own a b (counted a) (counted b) refl refl refl refl s in
      let s2 = same_names own a b (in_condition (counted a)) (in_condition (counted b)) refl refl refl refl s in
      judged_only line (rule_of_condition (counted b) set ns) (then_told (told (mapped (redirect p) first) (in_condition (counted b))) (λ t. then_told (told (mapped (redirect p) other) (in_condition (with_totals t b))) (λ u. told (mapped (redirect p) rest) (with_totals u b))))
      (condition_stays own (counted a) (counted b) set ns o.0 s1 (condition_holds (counted a) set ns j.0))
      (then_only (told (mapped (redirect p) first) (in_condition (counted b))) (λ t. then_told (told (mapped (redirect p) other) (in_condition (with_totals t b))) (λ u. told (mapped (redirect p) rest) (with_totals u b)))
      (text_redirected first (in_condition (counted a)) (in_condition (counted b)) k.0 k.1 o.1 s2 (keep a b (in_condition (counted a)) (in_condition (counted b)) s s2 refl refl refl w))
      (λ x. then_only (told (mapped (redirect p) other) (in_condition (with_totals x b))) (λ u. told (mapped (redirect p) rest) (with_totals u b))
      (let s3 = same_names own a b (in_condition (with_totals k.0 a)) (in_condition (with_totals x b)) refl refl refl refl s in
      text_redirected other (in_condition (with_totals k.0 a)) (in_condition (with_totals x b)) m.0 m.1 o.2 s3 (keep a b (in_condition (with_totals k.0 a)) (in_condition (with_totals x b)) s s3 refl refl refl w))
      (λ y. let s4 = same_names own a b (with_totals m.0 a) (with_totals y b) refl refl refl refl s in text_redirected rest (with_totals m.0 a) (with_totals y b) t m.2 o.3 s4 (keep a b (with_totals m.0 a) (with_totals y b) s s4 refl refl refl w))))
  text_redirected (Does line q rest) a b t h o s w =
      let j = judged_passed line (rule_of_plain (counted a) q rest) _ t h in
      let s1 = same_names own a b (counted a) (counted b) refl refl refl refl s in
      let w1 = keep a b (counted a) (counted b) s s1 refl refl refl w in
      let holds = plain_holds (counted a) q rest j.0 in
      let s2 = plain_seen own q (counted a) (counted b) o.0 s1 in
      judged_only line (rule_of_plain (counted b) (redirect p q) (mapped (redirect p) rest)) (told (mapped (redirect p) rest) (behind_plain (redirect p q) (counted b)))
      (redirect_only q (counted a) (counted b) rest s1 w1 o.0 holds)
      (subst (λ x. BreaksOnlyTested (told (mapped (redirect p) rest) x)) (sym (behind_same q (counted a) (counted b) rest s1 w1 holds))
      (text_redirected rest (behind_plain q (counted a)) (behind_plain q (counted b)) t j.1 o.1 s2 (plain_within q (counted a) (counted b) rest s1 s2 o.0 holds w1)))
