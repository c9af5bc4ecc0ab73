-- What an orderly list of actions keeps on the prompt side.
use Rattle.std.proofs.Common.{◌≡◌, ◌≢◌, ℕ, ℤ, ◌+◌, ◌<◌, ◌≤◌, Bool, true, false, List, [], ◌∷◌, ◌++◌, length, set, sym, refl, ap, ◌∙◌, subst, length-set, eq-eqb, ne_eqb}
use Rattle.std.specs.Prelude.{◌&&◌, ◌||◌, Option, Some, None, if◌then◌else◌, nat_eq, nat_le, nat_lt}
use Rattle.std.specs.List.{list_any}
use Rattle.std.proofs.lemmas.List.{length-replicate}
use native.Mathlib.Decide.{ℕ_discrete}
use Rattle.affine_ast.specs.declared.name.Name.{Name}
use Rattle.affine_ast.specs.declared.types.Element.{Element}
use Rattle.int_ops.specs.Wrapped.{wrapped}
use Rattle.bus_model.specs.declared.step.FaultKind.{FaultKind}
use Rattle.bus_model.specs.declared.step.FaultKind.TheVariants.{Touched, Race, Tag, Capacity, Shape}
use Rattle.bus_model.specs.declared.transfer.Transfer.{Transfer}
use Rattle.bus_model.specs.Places.{slow_place}
use Rattle.bus_model.specs.Copies.{moved_in}
use Rattle.bus_model.proofs.Copies.{length-first_in, length-first_out}
use Rattle.direct_meaning.specs.Action.{Place, Slow, Fast, Outside, Action, Known, Sets, Loads, Stores, RawLoads, RawStores, Operates, Converts, Allocates, Releases, AllocatesTags, ReleasesTags, Starts, Waits, Faults, Returns}
use Rattle.direct_meaning.specs.Actions.{half_cells}
use Rattle.direct_meaning.specs.Static.{element_bits}
use Rattle.direct_meaning.specs.Direct.{Outcome, End, Fault, keep_result, direct_step}
use Rattle.prompt_semantics.specs.Device.{Device, bytes_of, put_half, put_halves, fresh_half, allocated, released, is_away, has_away, is_started, has_started, load_races, store_races, start_races, recorded, copied_in, copied_out, started, record_of, without}
use Rattle.prompt_semantics.specs.Prompt.{carried, refused, prompt_load, prompt_store, prompt_alloc, prompt_start, wait_on, acts}
use Rattle.prompt_semantics.proofs.Laws.{half_same, half_other, halves_other}
use Rattle.order_meaning.specs.Orderly.{Rooms, with_room, FitsTransfer, releases_tag, rooms_after, IsOrderly}
use Rattle.order_meaning.specs.Agree.{TagsApart}
use Rattle.order_meaning.proofs.Flights.{same_some, none_some, both_ways, if_true, if_false, any_none, record_behind, record_before, record_without, record_gone}
use Rattle.order_meaning.proofs.Sides.{is_half, half_is, not_started, put_halves_same}
use Rattle.order_meaning.proofs.StartsAndWaits.{StartFits}

-- an outstanding transfer fits, and its tag is released later
pub record StillFits (slow : ℕ) (rooms : Rooms) (rest : List Action) (t : Transfer) : Type 0 where
  pub fits : FitsTransfer slow rooms t
  pub released : list_any (releases_tag t.tag) rest ≡ true

pub record Roomy (slow : ℕ) (rooms : Rooms) (rest : List Action) (y : Device) : Type 0 where
  pub long : length y.state.slow ≡ slow
  pub halves : (m h c : ℕ) → rooms m ≡ Some c → length (y.halves m h) ≡ c
  pub outstanding : (tag : ℕ) (t : Transfer) → record_of tag y.outstanding ≡ Some t → StillFits slow rooms rest t
  pub orderly : IsOrderly slow rooms rest

-- the same of an action's outcome, where it ends
abbrev pub Kept : ℕ → Rooms → List Action → Outcome Device → Type 0
Kept slow rooms rest (End y) = Roomy slow rooms rest y
Kept slow rooms rest (Fault k y) = Unit {0}

kept_refused : (slow : ℕ) (rooms : Rooms) (rest : List Action) (b : Bool) (k : FaultKind) (y : Device) (o : Outcome Device) → (b ≡ false → Kept slow rooms rest o) → Kept slow rooms rest (refused b k y o)
kept_refused slow rooms rest true k y o h = tt
kept_refused slow rooms rest false k y o h = h refl

pub room_same : (rooms : Rooms) (number m : ℕ) (o : Option ℕ) → number ≡ m → with_room rooms number o m ≡ o
room_same rooms number m o e = if_true (nat_eq number m) o (rooms m) (eq-eqb number m e)

pub room_other : (rooms : Rooms) (number m : ℕ) (o : Option ℕ) → number ≢ m → with_room rooms number o m ≡ rooms m
room_other rooms number m o ne = if_false (nat_eq number m) o (rooms m) (ne_eqb number m ne)

fits_other : (slow : ℕ) (rooms : Rooms) (number : ℕ) (o : Option ℕ) (t : Transfer) → number ≢ t.fast → FitsTransfer slow rooms t → FitsTransfer slow (with_room rooms number o) t
fits_other slow rooms number o t ne f = record { cells = f.cells; allocated = room_other rooms number t.fast o ne ∙ f.allocated; inside = f.inside; some_element = f.some_element; some_chunk = f.some_chunk; strided = f.strided; within = f.within }

-- an outstanding transfer is behind, or it is the new one
behind_or_new : (ts : List Transfer) (t : Transfer) (tag : ℕ) (u : Transfer) → record_of t.tag ts ≡ None → record_of tag (ts ++ t ∷ []) ≡ Some u → (P : Transfer → Type 0) → P t → (record_of tag ts ≡ Some u → P u) → P u
behind_or_new ts t tag u none h P new old = elim (ℕ_discrete tag t.tag) [
  | yes e ↦ subst P (same_some t u (sym (record_behind ts t none) ∙ ap (λ i. record_of i (ts ++ t ∷ [])) (sym e) ∙ h)) new
  | no ne ↦ old (sym (record_before ts t tag (λ q. ne (sym q))) ∙ h)
]

module _ (slow : ℕ) (rooms : Rooms) (more : List Action) (y : Device) where
  -- nothing changes that it turns on
  module _ (a : Action) (r : Roomy slow rooms (a ∷ more) y) (same : rooms_after rooms a ≡ rooms) (none : (tag : ℕ) → releases_tag tag a ≡ false) where
    later : (t : Transfer) → StillFits slow rooms (a ∷ more) t → StillFits slow rooms more t
    later t s = record { fits = s.fits; released = sym (ap (λ b. b || list_any (releases_tag t.tag) more) (none t.tag)) ∙ s.released }

    ordered : IsOrderly slow rooms more
    ordered = subst (λ r. IsOrderly slow r more) same r.orderly.1

    as_before : (y' : Device) → length y'.state.slow ≡ length y.state.slow → ((m h : ℕ) → length (y'.halves m h) ≡ length (y.halves m h)) → y'.outstanding ≡ y.outstanding → Roomy slow rooms more y'
    as_before y' long halves out = record {
      long = long ∙ r.long;
      halves = λ m h c e. halves m h ∙ r.halves m h c e;
      outstanding = λ tag t e. later t (r.outstanding tag t (ap (record_of tag) (sym out) ∙ e));
      orderly = ordered;
    }

    kept_result : (n : Name) (o : Option ℤ) → Kept slow rooms more (carried y (keep_result n o y.state))
    kept_result n (Some z) = as_before _ refl (λ _ _. refl) refl
    kept_result n None = tt

    kept_load : (n : Name) (p : Place) → Kept slow rooms more (prompt_load n p y)
    kept_load n (Slow p) = kept_refused slow rooms more (load_races y.outstanding p) Race y _ (λ _. as_before _ refl (λ _ _. refl) refl)
    kept_load n (Fast number half cell) = kept_refused slow rooms more (is_away y.outstanding number half) Touched y _ (λ _. as_before _ refl (λ _ _. refl) refl)
    kept_load n Outside = tt

    long_put : (number half : ℕ) (l : List ℤ) → length l ≡ length (y.halves number half) → (m h : ℕ) → length (put_half y.halves number half l m h) ≡ length (y.halves m h)
    long_put number half l e m h = by (is_half number half m h) refl
      where
        by : (b : Bool) → is_half number half m h ≡ b → length (put_half y.halves number half l m h) ≡ length (y.halves m h)
        by true q = let p = half_is number half m h q in ap (λ l. length l) (half_same y.halves number half m h l q) ∙ e ∙ (λ i. length (y.halves (p.0 i) (p.1 i)))
        by false q = ap (λ l. length l) (half_other y.halves number half m h l q)

    kept_store : (z : ℤ) (p : Place) → Kept slow rooms more (prompt_store z p y)
    kept_store z (Slow p) = kept_refused slow rooms more (store_races y.outstanding p) Race y _ (λ _. as_before _ (length-set y.state.slow p z) (λ _ _. refl) refl)
    kept_store z (Fast number half cell) = kept_refused slow rooms more (is_away y.outstanding number half) Touched y _ (λ _. as_before _ refl (long_put number half (set (y.halves number half) cell z) (length-set (y.halves number half) cell z)) refl)
    kept_store z Outside = tt

    kept_wait : (o : Option Transfer) (tag count : ℕ) → TagsApart y.outstanding → Kept slow rooms more (wait_on o tag count y)
    kept_wait None tag count apart = tt
    kept_wait (Some t) tag count apart = by (nat_eq t.count count)
      where
        waited : Roomy slow rooms more (record y { outstanding = without tag y.outstanding })
        waited = record {
          long = r.long;
          halves = r.halves;
          outstanding = λ u t e. later t (r.outstanding u t (sym (record_without y.outstanding tag u (λ q. none_some (record_of u (without tag y.outstanding)) t (ap (λ i. record_of i (without tag y.outstanding)) q ∙ record_gone y.outstanding tag apart) e)) ∙ e));
          orderly = ordered;
        }

        by : (b : Bool) → Kept slow rooms more (if b then End (record y { outstanding = without tag y.outstanding }) else Fault Shape y)
        by true = waited
        by false = tt

  -- an allocation of what isn't allocated
  kept_alloc : (filler : ℤ) (capacity number : ℕ) (element : Element) (sizes : List ℕ) → Roomy slow rooms (Allocates number element sizes ∷ more) y
      → Kept slow (with_room rooms number (Some (half_cells sizes))) more (prompt_alloc filler capacity number element sizes y)
  kept_alloc filler capacity number element sizes r = by (nat_le (y.live + bytes_of element sizes) capacity)
    where
      fresh : List ℤ
      fresh = fresh_half filler element sizes

      halves : (m h c : ℕ) → with_room rooms number (Some (half_cells sizes)) m ≡ Some c → length (put_halves y.halves number fresh m h) ≡ c
      halves m h c e = elim (ℕ_discrete number m) [
        | yes p ↦ ap (λ l. length l) (put_halves_same y.halves number m h fresh (eq-eqb number m p)) ∙ length-replicate (half_cells sizes) (wrapped (element_bits element) filler) ∙ same_some (half_cells sizes) c (sym (room_same rooms number m (Some (half_cells sizes)) p) ∙ e)
        | no ne ↦ ap (λ l. length l) (halves_other y.halves number m h fresh (ne_eqb number m ne)) ∙ r.halves m h c (sym (room_other rooms number m (Some (half_cells sizes)) ne) ∙ e)
      ]

      by : (b : Bool) → Kept slow (with_room rooms number (Some (half_cells sizes))) more (if b then End (allocated filler number element sizes y) else Fault Capacity y)
      by true = record {
        long = r.long;
        halves = halves;
        outstanding = λ tag t e. let s = r.outstanding tag t e in record { fits = fits_other slow rooms number (Some (half_cells sizes)) t (λ q. none_some (rooms t.fast) s.fits.cells (ap rooms (sym q) ∙ r.orderly.0) s.fits.allocated) s.fits; released = s.released };
        orderly = r.orderly.1;
      }
      by false = tt

  -- a release of what no transfer names
  kept_release : (number : ℕ) (element : Element) (sizes : List ℕ) → Roomy slow rooms (Releases number element sizes ∷ more) y
      → Kept slow (with_room rooms number None) more (refused (has_away y.outstanding number) Touched y (End (released element sizes y)))
  kept_release number element sizes r = kept_refused slow (with_room rooms number None) more (has_away y.outstanding number) Touched y _ (λ none. record {
    long = r.long;
    halves = λ m h c e. elim (ℕ_discrete number m) [
      | yes p ↦ absurd (none_some None c refl (sym (room_same rooms number m None p) ∙ e))
      | no ne ↦ r.halves m h c (sym (room_other rooms number m None ne) ∙ e)
    ];
    outstanding = λ tag t e. let s = r.outstanding tag t e in record {
      fits = fits_other slow rooms number None t (λ q. both_ways (nat_eq t.fast number) (eq-eqb t.fast number (sym q)) (any_none (λ t. nat_eq t.fast number) y.outstanding tag t none e)) s.fits;
      released = s.released;
    };
    orderly = r.orderly.1;
  })

  -- tags of which none is started
  kept_tags : (first count : ℕ) → Roomy slow rooms (ReleasesTags first count ∷ more) y → Kept slow rooms more (refused (has_started y.outstanding first count) Tag y (End y))
  kept_tags first count r = kept_refused slow rooms more (has_started y.outstanding first count) Tag y _ (λ none. record {
    long = r.long;
    halves = r.halves;
    outstanding = λ tag t e. let s = r.outstanding tag t e in record {
      fits = s.fits;
      released = sym (ap (λ b. b || list_any (releases_tag t.tag) more) (any_none (λ t. nat_le first t.tag && nat_lt t.tag (first + count)) y.outstanding tag t none e)) ∙ s.released;
    };
    orderly = r.orderly.1;
  })

  -- a start
  module _ (t : Transfer) (r : Roomy slow rooms (Starts t ∷ more) y) where
    pub start_fits : StartFits y t
    start_fits =
        let f = r.orderly.0.0 in
        record { within = λ e lt. subst (λ n. slow_place t e < n) (sym r.long) (f.within e lt); inside = subst (λ n. t.offset + t.count ≤ n) (sym (r.halves t.fast t.half f.cells f.allocated)) f.inside; some_chunk = f.some_chunk; strided = f.strided }

    kept_start : Kept slow rooms more (prompt_start t y)
    unfolding started
    kept_start = kept_refused slow rooms more (is_started y.outstanding t.tag) Tag y _ (λ idle.
        kept_refused slow rooms more (is_away y.outstanding t.fast t.half) Touched y _ (λ _.
        kept_refused slow rooms more (start_races y.outstanding t) Race y _ (λ _. by (not_started y.outstanding t.tag idle) t.incoming)))
      where
        outs : record_of t.tag y.outstanding ≡ None → (tag : ℕ) (u : Transfer) → record_of tag (y.outstanding ++ t ∷ []) ≡ Some u → StillFits slow rooms more u
        outs none tag u e = behind_or_new y.outstanding t tag u none e (StillFits slow rooms more) (record { fits = r.orderly.0.0; released = r.orderly.0.1 }) (λ old. let s = r.outstanding tag u old in record { fits = s.fits; released = s.released })

        by : record_of t.tag y.outstanding ≡ None → (b : Bool) → Kept slow rooms more (End (recorded t (if b then copied_in t y else copied_out t y)))
        by none true = record {
          long = r.long;
          halves = λ m h c e. long_put (Starts t) r refl (λ _. refl) t.fast t.half (moved_in t y.state.slow (y.halves t.fast t.half)) (length-first_in t y.state.slow (y.halves t.fast t.half) t.count) m h ∙ r.halves m h c e;
          outstanding = outs none;
          orderly = r.orderly.1;
        }
        by none false = record { long = length-first_out t y.state.slow (y.halves t.fast t.half) t.count ∙ r.long; halves = r.halves; outstanding = outs none; orderly = r.orderly.1 }

  -- each action
  pub kept : (filler : ℤ) (capacity : ℕ) (a : Action) → Roomy slow rooms (a ∷ more) y → TagsApart y.outstanding → Kept slow (rooms_after rooms a) more (acts filler capacity a y)
  unfolding acts direct_step
  kept filler capacity Known r apart = as_before Known r refl (λ _. refl) _ refl (λ _ _. refl) refl
  kept filler capacity (Sets n z) r apart = as_before (Sets n z) r refl (λ _. refl) _ refl (λ _ _. refl) refl
  kept filler capacity (Loads n p) r apart = kept_load (Loads n p) r refl (λ _. refl) n p
  kept filler capacity (Stores v p) r apart = kept_store (Stores v p) r refl (λ _. refl) _ p
  kept filler capacity (RawLoads n home sizes subscripts) r apart = kept_load (RawLoads n home sizes subscripts) r refl (λ _. refl) n _
  kept filler capacity (RawStores v home sizes subscripts) r apart = kept_store (RawStores v home sizes subscripts) r refl (λ _. refl) _ _
  kept filler capacity (Operates n op bits u v) r apart = kept_result (Operates n op bits u v) r refl (λ _. refl) n _
  kept filler capacity (Converts n kind from to v) r apart = as_before (Converts n kind from to v) r refl (λ _. refl) _ refl (λ _ _. refl) refl
  kept filler capacity (Allocates number element sizes) r apart = kept_alloc filler capacity number element sizes r
  kept filler capacity (Releases number element sizes) r apart = kept_release number element sizes r
  kept filler capacity (AllocatesTags first count) r apart = as_before (AllocatesTags first count) r refl (λ _. refl) _ refl (λ _ _. refl) refl
  kept filler capacity (ReleasesTags first count) r apart = kept_tags first count r
  kept filler capacity (Starts t) r apart = kept_start t r
  kept filler capacity (Waits tag count) r apart = kept_wait (Waits tag count) r refl (λ _. refl) _ tag count apart
  kept filler capacity (Faults k) r apart = tt
  kept filler capacity Returns r apart = as_before Returns r refl (λ _. refl) _ refl (λ _ _. refl) refl
