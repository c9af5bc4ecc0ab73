-- The actions of the loop's redirected statements: those of its statements, with the box in the fast memref.
use Rattle.std.proofs.Common.{◌≡◌, ℕ, ◌-◌, ℤ, pos, negsuc, ◌-ℤ◌, ◌≤ℤ◌, List, [], ◌∷◌, refl, sym, ap, ◌∙◌, arith, Bool, true, false}
use Rattle.std.specs.Prelude.{Some, if◌then◌else◌}
use Rattle.std.proofs.lemmas.Int.{ints}
use Rattle.affine_ast.specs.declared.name.Name.{Name}
use Rattle.affine_ast.specs.declared.types.Access.{Access}
use Rattle.affine_ast.specs.declared.types.MemrefType.{MemrefType}
use Rattle.affine_ast.specs.Names.{same_name}
use Rattle.affine_ast.specs.Nest.{Plain, Value, Load, Store, RawLoad, RawStore, Constant, Binary, Cast, Alloc, Dealloc, Start, Wait, Return}
use Rattle.affine_ast.proofs.Names.{same_name-eq}
use Rattle.direct_meaning.specs.Turns.{gap}
use Rattle.direct_meaning.specs.Action.{FastMemref, Place, Slow, Fast, Outside, Loads, Stores}
use Rattle.direct_meaning.specs.Static.{Env, number, operand, results_of, half_place, place_at, place_of}
use Rattle.direct_meaning.specs.Actions.{action_of, after_plain, fasts_of_plain, tags_of_plain}
use Rattle.boxes.specs.Boxes.{Side}
use Rattle.placement_texts.specs.Boxes.{sizes_of, extents_of, LiesIn, from_place, is_of, moved_to, box_cell, box_place}
use Rattle.placement_texts.specs.Labels.{Numbers, place_with, action_in_box}
use Rattle.placement_texts.specs.Own.{OwnNames, OwnPlain}
use Rattle.placement_texts.specs.Template.{Dimension, Placement, dim_sizes, dim_extents, fast_type, fast_name, Begin, Fixed, Named, in_fast, begins, redirect}
use Rattle.placement_texts.specs.Regions.{place_number, spans_at, PlacesLie, Reaches, ReachesBox, Elsewhere, Tidy}
use Rattle.placement_texts.proofs.Cells.{access_moved}
use Rattle.placement_texts.proofs.Follows.{Shifts, Follows, results_same, operand_same}
use Rattle.placement_texts.proofs.Mapped.{place_same, action_goes}
use Rattle.placement_texts.proofs.Subscripts.{begin_numbers, minus_each, in_fast_results}

-- the box has the memref's sizes and the placement's extents, and lies in the memref
pub sizes_at : (e : Env) (ds : List Dimension) → sizes_of (spans_at e ds) ≡ dim_sizes ds
sizes_at e [] = refl
sizes_at e (d ∷ ds) = ap (λ ns. d.size ∷ ns) (sizes_at e ds)

pub extents_at : (e : Env) (ds : List Dimension) → extents_of (spans_at e ds) ≡ dim_extents ds
extents_at e [] = refl
extents_at e (d ∷ ds) = ap (λ ns. d.extent ∷ ns) (extents_at e ds)

pub gap_pos : (z : ℤ) → pos 0 ≤ℤ z → z ≡ pos (gap z)
gap_pos (pos n) h = refl
gap_pos (negsuc n) h = absurd (omega (arith, ints, h))

pub lies_at : (e : Env) (ds : List Dimension) → PlacesLie e ds → LiesIn (spans_at e ds)
lies_at e [] h = tt
lies_at e (d ∷ ds) h =
    let is = gap_pos (place_number e d) h.0 in
    let low = h.1 in
    (omega (arith, ints, is, low), lies_at e ds h.2)

-- the places, as numbers that the values have
abbrev pub span_places : List Side → List ℤ
span_places [] = []
span_places (s ∷ ss) = pos s.place ∷ span_places ss

minus_places : (ss : List Side) (zs : List ℤ) → minus_each zs (span_places ss) ≡ from_place ss zs
minus_places [] [] = refl
minus_places [] (z ∷ zs) = refl
minus_places (s ∷ ss) [] = refl
minus_places (s ∷ ss) (z ∷ zs) = ap (λ l. (z -ℤ pos s.place) ∷ l) (minus_places ss zs)

-- begins whose names aren't the text's
abbrev pub MadeBegins : (Name → Bool) → List Begin → Type 0
MadeBegins own [] = Unit {0}
MadeBegins own (Fixed z ∷ bs) = MadeBegins own bs
MadeBegins own (Named n ∷ bs) = (own n ≡ false) × MadeBegins own bs

module _ (own : Name → Bool) (new : Numbers) (a k : ℕ) (made : Env) (p : Placement) (order first : ℕ) (spans : List Side) where
  -- what stands before the loop: the fast memref has the new number, and the values say the box's places
  pub record Stands : Type 0 where
    pub fast_made : own (fast_name p.name) ≡ false
    pub begins_made : MadeBegins own (begins p)
    pub home : made.home (fast_name p.name) ≡ Some (FastMemref new.fast)
    pub places : begin_numbers made (begins p) ≡ span_places spans
    pub extents : extents_of spans ≡ dim_extents p.dims
    pub lies : LiesIn spans

  module _ (st : Stands) where
    abbrev F : Env → Env → Type 0
    F = Follows own new a k made

    begins_same : (g e : Env) (bs : List Begin) → MadeBegins own bs → F e g → begin_numbers g bs ≡ begin_numbers made bs
    begins_same g e [] h s = refl
    begins_same g e (Fixed z ∷ bs) h s = ap (λ l. z ∷ l) (begins_same g e bs h s)
    begins_same g e (Named n ∷ bs) h s = λ i. number (s.made_known n h.0 i) ∷ begins_same g e bs h.1 s i

    -- an access of the memref, redirected
    pub redirected_place : (e g : Env) (at : Access) (ty : MemrefType) → OwnNames own at.operands → Reaches p.memref order first spans e at ty → F e g
        → place_of g (fast_name p.name) (in_fast (begins p) at) (fast_type p) ≡ place_with (box_place first spans new.fast) new (place_of e p.memref at ty)
    unfolding place_of
    redirected_place e g at ty at_own r s =
        (λ i. place_at ((s.made_home (fast_name p.name) st.fast_made ∙ st.home) i) (1 ∷ sym st.extents i) (in_fast_results g (begins p) at r.fits i))
        ∙ (λ i. half_place new.fast (1 ∷ extents_of spans) (pos 0 ∷ minus_each (results_same own new a k made e g at s at_own i) ((begins_same g e (begins p) st.begins_made s ∙ st.places) i)))
        ∙ ap (λ zs. half_place new.fast (1 ∷ extents_of spans) (pos 0 ∷ zs)) (minus_places spans (results_of e at))
        ∙ access_moved first order new.fast spans (results_of e at) (place_with (box_place first spans new.fast) new) (λ q. refl) refl st.lies r.inside
        ∙ sym (λ i. place_with (box_place first spans new.fast) new (place_at (r.home i) (r.sizes i) (results_of e at)))

    -- an access of another memref
    elsewhere_goes : (x : Place) → ((q : ℕ) → x ≡ Slow q → is_of first (sizes_of spans) q ≡ false) → place_with Slow new x ≡ place_with (box_place first spans new.fast) new x
    elsewhere_goes (Slow q) h = sym (ap (λ t. if t then moved_to new.fast q (box_cell spans (q - first)) else Slow q) (h q refl))
    elsewhere_goes (Fast n half cell) h = refl
    elsewhere_goes Outside h = refl

    other_place : (e g : Env) (n : Name) (at : Access) (ty : MemrefType) → own n ≡ true → OwnNames own at.operands → Elsewhere p.memref first (sizes_of spans) e n at ty → F e g
        → place_of g n at ty ≡ place_with (box_place first spans new.fast) new (place_of e n at ty)
    other_place e g n at ty n_own at_own h s = place_same new (box_place first spans new.fast) own a k made e g n at ty n_own at_own s ∙ elsewhere_goes (place_of e n at ty) h

    abbrev pub Redirects : Plain → Env → Type 0
    Redirects q e = Tidy new p.memref first (sizes_of spans) q e × ReachesBox p.memref order first spans q e

    load_acts : (t : Bool) (r n : Name) (at : Access) (ty : MemrefType) (e g : Env) → same_name p.memref n ≡ t → own n ≡ true → OwnNames own at.operands → (same_name p.memref n ≡ true → Reaches p.memref order first spans e at ty) → (same_name p.memref n ≡ false → Elsewhere p.memref first (sizes_of spans) e n at ty) → F e g
        → action_of (if t then Load r (fast_name p.name) (in_fast (begins p) at) (fast_type p) else Load r n at ty) g ≡ Loads r (place_with (box_place first spans new.fast) new (place_of e n at ty))
    unfolding action_of
    load_acts true r n at ty e g is n_own at_own m m' s =
        ap (Loads r) (redirected_place e g at ty at_own (m is) s ∙ ap (λ n. place_with (box_place first spans new.fast) new (place_of e n at ty)) (same_name-eq p.memref n is))
    load_acts false r n at ty e g is n_own at_own m m' s = ap (Loads r) (other_place e g n at ty n_own at_own (m' is) s)

    store_acts : (t : Bool) (x n : Name) (at : Access) (ty : MemrefType) (e g : Env) → same_name p.memref n ≡ t → own x ≡ true → own n ≡ true → OwnNames own at.operands → (same_name p.memref n ≡ true → Reaches p.memref order first spans e at ty) → (same_name p.memref n ≡ false → Elsewhere p.memref first (sizes_of spans) e n at ty) → F e g
        → action_of (if t then Store x (fast_name p.name) (in_fast (begins p) at) (fast_type p) else Store x n at ty) g ≡ Stores (operand e x) (place_with (box_place first spans new.fast) new (place_of e n at ty))
    unfolding action_of
    store_acts true x n at ty e g is x_own n_own at_own m m' s =
        λ i. Stores (operand_same own new a k made e g x s x_own i)
        ((redirected_place e g at ty at_own (m is) s ∙ ap (λ n. place_with (box_place first spans new.fast) new (place_of e n at ty)) (same_name-eq p.memref n is)) i)
    store_acts false x n at ty e g is x_own n_own at_own m m' s =
        λ i. Stores (operand_same own new a k made e g x s x_own i) (other_place e g n at ty n_own at_own (m' is) s i)

    pub redirect_acts : (q : Plain) (e g : Env) → OwnPlain own q → Redirects q e → Shifts own new a k e.fasts (fasts_of_plain q) e.tags (tags_of_plain q) → F e g
        → action_of (redirect p q) g ≡ action_in_box first spans new (action_of q e)
    unfolding action_of
    redirect_acts (Load r n at ty) e g h j m s = load_acts (same_name p.memref n) r n at ty e g refl h.1.0 h.1.1 j.1 j.0.1 s
    redirect_acts (Store x n at ty) e g h j m s = store_acts (same_name p.memref n) x n at ty e g refl h.0 h.1.0 h.1.1 j.1 j.0.1 s
    redirect_acts (Value r pick at) e g h j m s = refl
    redirect_acts (RawLoad r n at ty) e g h j m s = action_goes new (box_place first spans new.fast) own a k made (RawLoad r n at ty) e g h j.0.0 tt m s
    redirect_acts (RawStore x n at ty) e g h j m s = action_goes new (box_place first spans new.fast) own a k made (RawStore x n at ty) e g h j.0.0 tt m s
    redirect_acts (Constant r z ty) e g h j m s = action_goes new (box_place first spans new.fast) own a k made (Constant r z ty) e g h j.0.0 tt m s
    redirect_acts (Binary r op x y ty) e g h j m s = action_goes new (box_place first spans new.fast) own a k made (Binary r op x y ty) e g h j.0.0 tt m s
    redirect_acts (Cast r kind x from to) e g h j m s = action_goes new (box_place first spans new.fast) own a k made (Cast r kind x from to) e g h j.0.0 tt m s
    redirect_acts (Alloc r ty) e g h j m s = action_goes new (box_place first spans new.fast) own a k made (Alloc r ty) e g h j.0.0 tt m s
    redirect_acts (Dealloc n ty) e g h j m s = action_goes new (box_place first spans new.fast) own a k made (Dealloc n ty) e g h j.0.0 tt m s
    redirect_acts (Start x x_at y y_at t t_at n stride types) e g h j m s = action_goes new (box_place first spans new.fast) own a k made (Start x x_at y y_at t t_at n stride types) e g h j.0.0 tt m s
    redirect_acts (Wait t at n ty) e g h j m s = action_goes new (box_place first spans new.fast) own a k made (Wait t at n ty) e g h j.0.0 tt m s
    redirect_acts Return e g h j m s = refl

-- the redirected statement makes known what the statement does, and allocates what it does
by_bool : {A B : Type 0} (f : A → B) (t : Bool) (x y : A) → f x ≡ f y → f (if t then x else y) ≡ f y
by_bool f true x y h = h
by_bool f false x y h = refl

pub redirect_after : (p : Placement) (q : Plain) (g : Env) → after_plain (redirect p q) g ≡ after_plain q g
unfolding after_plain
redirect_after p (Load r n at ty) g = by_bool (λ q. after_plain q g) (same_name p.memref n) _ (Load r n at ty) refl
redirect_after p (Store x n at ty) g = by_bool (λ q. after_plain q g) (same_name p.memref n) _ (Store x n at ty) refl
redirect_after p (Value r pick at) g = refl
redirect_after p (RawLoad r n at ty) g = refl
redirect_after p (RawStore x n at ty) g = refl
redirect_after p (Constant r z ty) g = refl
redirect_after p (Binary r op x y ty) g = refl
redirect_after p (Cast r kind x from to) g = refl
redirect_after p (Alloc r ty) g = refl
redirect_after p (Dealloc n ty) g = refl
redirect_after p (Start x x_at y y_at t t_at n stride types) g = refl
redirect_after p (Wait t at n ty) g = refl
redirect_after p Return g = refl

pub redirect_fasts : (p : Placement) (q : Plain) → fasts_of_plain (redirect p q) ≡ fasts_of_plain q
redirect_fasts p (Load r n at ty) = by_bool fasts_of_plain (same_name p.memref n) _ (Load r n at ty) refl
redirect_fasts p (Store x n at ty) = by_bool fasts_of_plain (same_name p.memref n) _ (Store x n at ty) refl
redirect_fasts p (Value r pick at) = refl
redirect_fasts p (RawLoad r n at ty) = refl
redirect_fasts p (RawStore x n at ty) = refl
redirect_fasts p (Constant r z ty) = refl
redirect_fasts p (Binary r op x y ty) = refl
redirect_fasts p (Cast r kind x from to) = refl
redirect_fasts p (Alloc r ty) = refl
redirect_fasts p (Dealloc n ty) = refl
redirect_fasts p (Start x x_at y y_at t t_at n stride types) = refl
redirect_fasts p (Wait t at n ty) = refl
redirect_fasts p Return = refl

pub redirect_tags : (p : Placement) (q : Plain) → tags_of_plain (redirect p q) ≡ tags_of_plain q
redirect_tags p (Load r n at ty) = by_bool tags_of_plain (same_name p.memref n) _ (Load r n at ty) refl
redirect_tags p (Store x n at ty) = by_bool tags_of_plain (same_name p.memref n) _ (Store x n at ty) refl
redirect_tags p (Value r pick at) = refl
redirect_tags p (RawLoad r n at ty) = refl
redirect_tags p (RawStore x n at ty) = refl
redirect_tags p (Constant r z ty) = refl
redirect_tags p (Binary r op x y ty) = refl
redirect_tags p (Cast r kind x from to) = refl
redirect_tags p (Alloc r ty) = refl
redirect_tags p (Dealloc n ty) = refl
redirect_tags p (Start x x_at y y_at t t_at n stride types) = refl
redirect_tags p (Wait t at n ty) = refl
redirect_tags p Return = refl
