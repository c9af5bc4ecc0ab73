-- The first step: a module without allocations and transfers has in both meanings one run.
use Rattle.std.proofs.Common.{◌≡◌, ℕ, suc, ℤ, pos, List, [], ◌∷◌, refl, sym, ap, subst, Bool, false, map}
use Rattle.std.specs.Prelude.{Option, Some, None, slice_index_or}
use Rattle.affine_ast.specs.declared.name.Name.{Name}
use Rattle.int_ops.specs.Operation.{operation}
use Rattle.bus_model.specs.declared.step.FaultKind.TheVariants.{Race}
use Rattle.direct_meaning.specs.Action.{Home, SlowMemref, FastMemref, TagMemref, Place, Slow, Fast, Outside, Action, Known, Sets, Loads, Stores, RawLoads, RawStores, Operates, Converts, Allocates, Releases, AllocatesTags, ReleasesTags, Starts, Waits, Faults, Returns}
use Rattle.direct_meaning.specs.Static.{cell_in, slow_at, place_at}
use Rattle.direct_meaning.specs.Direct.{Outcome, End, Fault, folded, State, keep, write, read, raw_place, direct_load, direct_store, keep_result, direct_step}
use Rattle.prompt_semantics.specs.Device.{Device, load_races, store_races}
use Rattle.prompt_semantics.specs.Prompt.{carried, refused, prompt_load, prompt_store, acts}
use Rattle.box_run_laws.specs.Roomy.{roomy, roomy_step}
use Rattle.boxes.specs.Every.{Every}
use Rattle.box_run_laws.specs.Plain.{NotFast, NotFastHome, IsPlain}
use Rattle.box_run_laws.specs.Owned.{Ends}
use Rattle.box_run_laws.proofs.Moved.{ends_then}

-- the device has the state, and nothing outstanding
abbrev pub Holds : State → Device → Type 0
Holds s y = (s ≡ y.state) × (y.outstanding ≡ [])

not_fast : (home : Option Home) (sizes : List ℕ) (zs : List ℤ) → NotFastHome home → NotFast (place_at home sizes zs)
not_fast (Some (SlowMemref number first)) sizes zs h = by (cell_in sizes zs)
  where
    by : (o : Option ℕ) → NotFast (slow_at first o)
    by (Some k) = tt
    by None = tt
not_fast (Some (FastMemref number)) sizes zs h = absurd h
not_fast (Some (TagMemref first)) sizes zs h = tt
not_fast None sizes zs h = tt

free : (s : Outcome State) (t : Bool) (y : Device) (o : Outcome Device) → t ≡ false → Ends Holds s o → Ends Holds s (refused t Race y o)
free s t y o e h = subst (λ t. Ends Holds s (refused t Race y o)) (sym e) h

loads : (r : Name) (p : Place) (y : Device) → NotFast p → y.outstanding ≡ [] → Ends Holds (direct_load r p y.state) (prompt_load r p y)
loads r (Slow p) y h e =
    let s = keep r (slice_index_or y.state.slow p (pos 0)) y.state in
    free (End s) (load_races y.outstanding p) y (End (record y { state = s })) (ap (λ ts. load_races ts p) e) (refl, e)
loads r (Fast n k c) y h e = absurd h
loads r Outside y h e = refl

stores : (z : ℤ) (p : Place) (y : Device) → NotFast p → y.outstanding ≡ [] → Ends Holds (direct_store z p y.state) (prompt_store z p y)
stores z (Slow p) y h e =
    let s = write p z y.state in
    free (End s) (store_races y.outstanding p) y (End (record y { state = s })) (ap (λ ts. store_races ts p) e) (refl, e)
stores z (Fast n k c) y h e = absurd h
stores z Outside y h e = refl

carries : (o : Outcome State) (y : Device) → y.outstanding ≡ [] → Ends Holds o (carried y o)
carries (End s) y e = (refl, e)
carries (Fault k s) y e = refl

module _ (filler : ℤ) where
  one : (a : Action) (y : Device) → IsPlain a → y.outstanding ≡ [] → Ends Holds (direct_step a y.state) (roomy filler a y)
  unfolding direct_step roomy acts
  one Known y h e = (refl, e)
  one (Sets r z) y h e = (refl, e)
  one (Loads r p) y h e = loads r p y h e
  one (Stores x p) y h e = stores (read y.state.registers x) p y h e
  one (RawLoads r home sizes subs) y h e = loads r (raw_place y.state.registers home sizes subs) y (not_fast home sizes (map (read y.state.registers) subs) h) e
  one (RawStores x home sizes subs) y h e = stores (read y.state.registers x) (raw_place y.state.registers home sizes subs) y (not_fast home sizes (map (read y.state.registers) subs) h) e
  one (Operates r op bits a b) y h e = carries (keep_result r (operation op bits (read y.state.registers a) (read y.state.registers b)) y.state) y e
  one (Converts r kind from to x) y h e = (refl, e)
  one (Allocates n element sizes) y h e = absurd h
  one (Releases n element sizes) y h e = absurd h
  one (AllocatesTags first count) y h e = absurd h
  one (ReleasesTags first count) y h e = absurd h
  one (Starts t) y h e = absurd h
  one (Waits tag count) y h e = absurd h
  one (Faults k) y h e = refl
  one Returns y h e = (refl, e)

  step : (a : Action) (y : Device) → IsPlain a → y.outstanding ≡ [] → Ends Holds (direct_step a y.state) (roomy_step filler a y)
  unfolding roomy_step
  step a y h e = one a (record y { actions = suc y.actions }) h e

  pub direct_run : (xs : List Action) (y : Device) → Every IsPlain xs → y.outstanding ≡ [] → Ends Holds (folded direct_step xs y.state) (folded (roomy_step filler) xs y)
  unfolding folded
  direct_run [] y h e = (refl, e)
  direct_run (a ∷ xs) y h e =
      ends_then Holds Holds (direct_step a y.state) (roomy_step filler a y) (folded direct_step xs) (folded (roomy_step filler) xs) (step a y h.0 e)
      (λ s z k. subst (λ s. Ends Holds (folded direct_step xs s) (folded (roomy_step filler) xs z)) (sym k.0) (direct_run xs z h.1 k.1))
