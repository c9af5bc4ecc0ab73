-- What the accesses of one memref have to do with its box, in the text in which another memref is staged.
use Rattle.std.proofs.Common.{◌≡◌, ℕ, ◌+◌, ℤ, pos, ◌+ℤ◌, ◌*ℤ◌, ◌≤ℤ◌, List, [], ◌∷◌, refl, sym, ap, ◌∙◌, subst, arith, Bool, true, false}
use Rattle.std.specs.Prelude.{Some, if◌then◌else◌}
use Rattle.affine_ast.specs.declared.name.Name.{Name}
use Rattle.affine_ast.specs.declared.types.Access.{Access}
use Rattle.affine_ast.specs.declared.types.MemrefType.{MemrefType}
use Rattle.affine_ast.specs.Names.{same_name}
use Rattle.affine_ast.specs.Nest.{Plain, Nest, Nothing, Loop, Branch, Does, Value, Load, Store, RawLoad, RawStore, Constant, Binary, Cast, Alloc, Dealloc, Start, Wait, Return}
use Rattle.direct_meaning.specs.Turns.{gap, turns}
use Rattle.direct_meaning.specs.Static.{Env, knows, number, cell_in, lower_of, upper_of}
use Rattle.direct_meaning.specs.Actions.{after_plain, fasts_of_plain, tags_of_plain, fasts_in, tags_in, behind}
use Rattle.boxes.specs.Boxes.{Side}
use Rattle.placement_texts.specs.Boxes.{sizes_of, InBox}
use Rattle.placement_texts.specs.Labels.{Numbers, home_up}
use Rattle.placement_texts.specs.Own.{OwnNames, OwnPlain, OwnNest}
use Rattle.boxes.specs.Every.{Every}
use Rattle.placement_texts.specs.Each.{Each}
use Rattle.placement_texts.specs.Mapped.{mapped}
use Rattle.placement_texts.specs.Template.{Dimension, Placement, clamp, fast_name, redirect, term_names}
use Rattle.placement_texts.specs.Regions.{form_number, place_number, OwnDims, spans_at, PlacesLie, Reaches, ReachesBox}
use Rattle.placement_texts.proofs.Follows.{Shifts, shifts_part, Follows, results_same, lower_same, upper_same, holds_same, known_follows, behind_follows, after_follows, apart_own}
use Rattle.placement_texts.proofs.Everys.{every_along}
use Rattle.placement_texts.proofs.Nested.{fasts_mapped, tags_mapped, fasts_after, tags_after}

module _ (own : Name → Bool) (new : Numbers) (a k : ℕ) (made : Env) where
  abbrev F : Env → Env → Type 0
  F = Follows own new a k made

  -- ---- the box is the same
  form_follows : (e g : Env) (ts : List (Name × ℤ)) (z : ℤ) → OwnNames own (term_names ts) → F e g → form_number g ts z ≡ form_number e ts z
  form_follows e g [] z h s = refl
  form_follows e g (t ∷ ts) z h s = λ i. number (s.known t.0 h.0 i) *ℤ t.1 +ℤ form_follows e g ts z h.1 s i

  place_follows : (e g : Env) (d : Dimension) → OwnNames own (term_names d.terms) → F e g → place_number g d ≡ place_number e d
  place_follows e g d h s = ap (λ z. if d.clamped then clamp d z else z) (form_follows e g d.terms d.offset h s)

  pub spans_follow : (e g : Env) (ds : List Dimension) → OwnDims own ds → F e g → spans_at g ds ≡ spans_at e ds
  spans_follow e g [] h s = refl
  spans_follow e g (d ∷ ds) h s = λ i. record { size = d.size; place = gap (place_follows e g d h.0 s i); extent = d.extent } ∷ spans_follow e g ds h.1 s i

  pub lie_follows : (e g : Env) (ds : List Dimension) → OwnDims own ds → F e g → PlacesLie e ds → PlacesLie g ds
  lie_follows e g [] h s l = tt
  lie_follows e g (d ∷ ds) h s l =
      let same = sym (place_follows e g d h.0 s) in
      (subst (λ z. pos 0 ≤ℤ z) same l.0, subst (λ z. (z +ℤ pos d.extent) ≤ℤ pos d.size) same l.1, lie_follows e g ds h.1 s l.2)

  module _ (m : Name) (order first : ℕ) (spans : List Side) (m_own : own m ≡ true) where
    abbrev pub R : Plain → Env → Type 0
    R = ReachesBox m order first spans

    pub reaches_follow : (e g : Env) (at : Access) (ty : MemrefType) → OwnNames own at.operands → F e g → Reaches m order first spans e at ty → Reaches m order first spans g at ty
    reaches_follow e g at ty h s r =
        let same = sym (results_same own new a k made e g at s h) in
        record {
          home = s.home m m_own ∙ ap (home_up new) r.home;
          sizes = r.sizes;
          fits = r.fits;
          inside = subst (λ zs. (k : ℕ) → cell_in (sizes_of spans) zs ≡ Some k → InBox spans zs) same r.inside;
        }

    -- a statement of the text, and what it becomes in the loop of another memref
    pub stay_reaches : (q : Plain) (e g : Env) → OwnPlain own q → F e g → R q e → R q g
    stay_reaches (Load r n at ty) e g h s j = λ is. reaches_follow e g at ty h.1.1 s (j is)
    stay_reaches (Store x n at ty) e g h s j = λ is. reaches_follow e g at ty h.1.1 s (j is)
    stay_reaches (Value r pick at) e g h s j = tt
    stay_reaches (RawLoad r n at ty) e g h s j = tt
    stay_reaches (RawStore x n at ty) e g h s j = tt
    stay_reaches (Constant r z ty) e g h s j = tt
    stay_reaches (Binary r op x y ty) e g h s j = tt
    stay_reaches (Cast r kind x from to) e g h s j = tt
    stay_reaches (Alloc r ty) e g h s j = tt
    stay_reaches (Dealloc n ty) e g h s j = tt
    stay_reaches (Start x x_at y y_at t t_at n stride types) e g h s j = tt
    stay_reaches (Wait t at n ty) e g h s j = tt
    stay_reaches Return e g h s j = tt

    never : (n : Name) → own n ≡ false → {A : Type 0} → same_name m n ≡ true → A
    never n n_made is = let z : true ≡ false = sym is ∙ apart_own own m n m_own n_made in absurd (cc)

    redirect_reaches_by : (p : Placement) (b : Bool) (x y : Plain) (g : Env) → R x g → R y g → R (if b then x else y) g
    redirect_reaches_by p true x y g h j = h
    redirect_reaches_by p false x y g h j = j

    pub redirect_reaches : (p : Placement) → own (fast_name p.name) ≡ false → (q : Plain) (e g : Env) → OwnPlain own q → F e g → R q e → R (redirect p q) g
    redirect_reaches p fast_made (Load r n at ty) e g h s j = redirect_reaches_by p (same_name p.memref n) _ (Load r n at ty) g (λ is. never (fast_name p.name) fast_made is) (stay_reaches (Load r n at ty) e g h s j)
    redirect_reaches p fast_made (Store x n at ty) e g h s j = redirect_reaches_by p (same_name p.memref n) _ (Store x n at ty) g (λ is. never (fast_name p.name) fast_made is) (stay_reaches (Store x n at ty) e g h s j)
    redirect_reaches p fast_made (Value r pick at) e g h s j = tt
    redirect_reaches p fast_made (RawLoad r n at ty) e g h s j = tt
    redirect_reaches p fast_made (RawStore x n at ty) e g h s j = tt
    redirect_reaches p fast_made (Constant r z ty) e g h s j = tt
    redirect_reaches p fast_made (Binary r op x y ty) e g h s j = tt
    redirect_reaches p fast_made (Cast r kind x from to) e g h s j = tt
    redirect_reaches p fast_made (Alloc r ty) e g h s j = tt
    redirect_reaches p fast_made (Dealloc n ty) e g h s j = tt
    redirect_reaches p fast_made (Start x x_at y y_at t t_at n stride types) e g h s j = tt
    redirect_reaches p fast_made (Wait t at n ty) e g h s j = tt
    redirect_reaches p fast_made Return e g h s j = tt

  -- ---- from the statements to the text
  module _ (change : Plain → Plain) (same_fasts : (p : Plain) → fasts_of_plain (change p) ≡ fasts_of_plain p) (same_tags : (p : Plain) → tags_of_plain (change p) ≡ tags_of_plain p)
      (same_after : (p : Plain) (g : Env) → after_plain (change p) g ≡ after_plain p g) (P Q : Plain → Env → Type 0)
      (one : (q : Plain) (e g : Env) → OwnPlain own q → F e g → P q e → Q (change q) g) where
    abbrev Fits_ : Nest → Env → Type 0
    Fits_ n e = Shifts own new a k e.fasts (fasts_in n) e.tags (tags_in n)

    pub each_mapped : (n : Nest) (e g : Env) → OwnNest own n → Fits_ n e → F e g → Each P n e → Each Q (mapped change n) g
    each_mapped Nothing e g h m s j = tt
    each_mapped (Loop line v l u step body rest) e g h m s j =
        let lows = sym (lower_same own new a k made e g l s h.1) in
        let highs = sym (upper_same own new a k made e g u s h.2) in
        let m1 = shifts_part own new a k e.fasts (fasts_in body + fasts_in rest) e.fasts (fasts_in body) e.tags (tags_in body + tags_in rest) e.tags (tags_in body) (omega arith) (omega arith) (omega arith) (omega arith) m in
        let m2 = shifts_part own new a k e.fasts (fasts_in body + fasts_in rest) (e.fasts + fasts_in body) (fasts_in rest) e.tags (tags_in body + tags_in rest) (e.tags + tags_in body) (tags_in rest) (omega arith) (omega arith) (omega arith) (omega arith) m in (
          subst (λ t. t) (λ i. Every (λ t. Each Q (mapped change body) (knows g v t)) (turns (lows i) (highs i) step))
              (every_along (λ t. Each P body (knows e v t)) (λ t. Each Q (mapped change body) (knows g v t)) (λ t q. each_mapped body (knows e v t) (knows g v t) h.3 m1 (known_follows own new a k made e g v _ _ h.0 refl s) q) (turns (lower_of e l) (upper_of e u) step) j.0),
          each_mapped rest (behind body e) (behind (mapped change body) g) h.4 m2 (behind_follows own new a k made body (mapped change body) e g (fasts_mapped change same_fasts same_tags body) (tags_mapped change same_fasts same_tags body) s) j.1,
        )
    each_mapped (Branch line set ns first has other rest) e g h m s j =
        let truth = holds_same own new a k made e g set ns s h.0 in
        let s1 = behind_follows own new a k made first (mapped change first) e g (fasts_mapped change same_fasts same_tags first) (tags_mapped change same_fasts same_tags first) s in
        let g1 = behind (mapped change first) g in
        let s2 = behind_follows own new a k made other (mapped change other) (behind first e) g1 (fasts_mapped change same_fasts same_tags other) (tags_mapped change same_fasts same_tags other) s1 in
        let m1 = shifts_part own new a k e.fasts (fasts_in first + fasts_in other + fasts_in rest) e.fasts (fasts_in first) e.tags (tags_in first + tags_in other + tags_in rest) e.tags (tags_in first) (omega arith) (omega arith) (omega arith) (omega arith) m in
        let m2 = shifts_part own new a k e.fasts (fasts_in first + fasts_in other + fasts_in rest) (e.fasts + fasts_in first) (fasts_in other) e.tags (tags_in first + tags_in other + tags_in rest) (e.tags + tags_in first) (tags_in other) (omega arith) (omega arith) (omega arith) (omega arith) m in
        let m3 = shifts_part own new a k e.fasts (fasts_in first + fasts_in other + fasts_in rest) (e.fasts + fasts_in first + fasts_in other) (fasts_in rest) e.tags (tags_in first + tags_in other + tags_in rest) (e.tags + tags_in first + tags_in other) (tags_in rest) (omega arith) (omega arith) (omega arith) (omega arith) m in (
          (λ t. each_mapped first e g h.1 m1 s (j.0 (sym truth ∙ t))),
          (λ t. each_mapped other (behind first e) g1 h.2 m2 s1 (j.1 (sym truth ∙ t))),
          each_mapped rest (behind other (behind first e)) (behind (mapped change other) g1) h.3 m3 s2 j.2,
        )
    each_mapped (Does line q rest) e g h m s j =
        let f = fasts_after q e in
        let t = tags_after q e in
        let m1 = shifts_part own new a k e.fasts (fasts_of_plain q + fasts_in rest) e.fasts (fasts_of_plain q) e.tags (tags_of_plain q + tags_in rest) e.tags (tags_of_plain q) (omega arith) (omega arith) (omega arith) (omega arith) m in
        let m2 = shifts_part own new a k e.fasts (fasts_of_plain q + fasts_in rest) (after_plain q e).fasts (fasts_in rest) e.tags (tags_of_plain q + tags_in rest) (after_plain q e).tags (tags_in rest) (omega (arith, f)) (omega (arith, f)) (omega (arith, t)) (omega (arith, t)) m in
        (one q e g h.0 s j.0, each_mapped rest (after_plain q e) (after_plain (change q) g) h.1 m2 (subst (F (after_plain q e)) (sym (same_after q g)) (after_follows own new a k made q e g h.0 m1 s)) j.1)
