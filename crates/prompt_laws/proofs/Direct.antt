-- A module without allocations and transfers does the same in both meanings.
use Rattle.std.proofs.Common.{◌≡◌, ℕ, suc, ◌+◌, ◌<◌, ℤ, pos, Bool, true, false, List, [], ◌∷◌, length, map, refl, sym, ap, ◌∙◌, subst, arith}
use Rattle.std.specs.Prelude.{Option, Some, None, slice_index_or, slice_set}
use Rattle.affine_ast.specs.declared.image.Image.{Image}
use Rattle.affine_ast.specs.declared.module.Module.{Module}
use Rattle.affine_ast.specs.declared.name.Name.{Name}
use Rattle.affine_ast.specs.PlainLimits.{plain_fault}
use Rattle.affine_ast.specs.Validity.{IsValid}
use Rattle.bus_model.specs.declared.step.FaultKind.{FaultKind}
use Rattle.bus_model.specs.declared.step.FaultKind.TheVariants.{Race}
use Rattle.direct_meaning.specs.Action.{Home, SlowMemref, FastMemref, TagMemref, Place, Slow, Fast, Outside, Operand, Action, Known, Sets, Loads, Stores, RawLoads, RawStores, Operates, Converts, Allocates, Releases, AllocatesTags, ReleasesTags, Starts, Waits, Faults, Returns}
use Rattle.direct_meaning.specs.Direct.{Outcome, End, Fault, then_do, folded, State, keep, write, read, raw_place, direct_load, direct_store, direct_step, verdict_of, state_of, plain}
use Rattle.direct_meaning.specs.Memory.{Fits, module_actions}
use Rattle.direct_meaning.specs.Static.{cell_in, slow_at, place_at}
use Rattle.prompt_semantics.specs.Device.{Device, load_races, store_races}
use Rattle.prompt_semantics.specs.Prompt.{carried, refused, prompt_load, prompt_store, acts, prompt_step, first_device, prompt, prompt_slow}
use Rattle.run_laws.specs.CanRun.{PlaceIn, HomeIn, CanTake, CanRun}
use Rattle.run_laws.proofs.Conclusions.{can_run}
use Rattle.prompt_laws.specs.Law.{SameAsDirect, PromptIsDirect}

-- the same end, with nothing outstanding, or the same fault
abbrev Same : Outcome State → Outcome Device → Type 0
Same (End s) (End y) = (s ≡ y.state) × (y.outstanding ≡ [])
Same (End s) (Fault k y) = ⊥
Same (Fault k s) (End y) = ⊥
Same (Fault k s) (Fault j y) = (k ≡ j) × (s ≡ y.state)

free : (s : Outcome State) (b : Bool) (y : Device) (o : Outcome Device) → b ≡ false → Same s o → Same s (refused b Race y o)
free s b y o e h = subst (λ b. Same s (refused b Race y o)) (sym e) h

load_same : (r : Name) (cells : ℕ) (place : Place) (y : Device) → PlaceIn cells place → y.outstanding ≡ [] → Same (direct_load r place y.state) (prompt_load r place y)
load_same r cells (Slow place) y h none =
    let s = keep r (slice_index_or y.state.slow place (pos 0)) y.state in
    free (End s) (load_races y.outstanding place) y (End (record y { state = s })) (ap (λ ts. load_races ts place) none) (refl, none)
load_same r cells (Fast number half cell) y h none = absurd h
load_same r cells Outside y h none = (refl, refl)

store_same : (z : ℤ) (cells : ℕ) (place : Place) (y : Device) → PlaceIn cells place → y.outstanding ≡ [] → Same (direct_store z place y.state) (prompt_store z place y)
store_same z cells (Slow place) y h none =
    let s = write place z y.state in
    free (End s) (store_races y.outstanding place) y (End (record y { state = s })) (ap (λ ts. store_races ts place) none) (refl, none)
store_same z cells (Fast number half cell) y h none = absurd h
store_same z cells Outside y h none = (refl, refl)

-- an access by values goes to the slow memory, or outside; so many cells would be enough
some_place : (cells : ℕ) (home : Option Home) (sizes : List ℕ) (subscripts : List Operand) (zs : List ℤ) → HomeIn cells home sizes subscripts → (n : ℕ) × PlaceIn n (place_at home sizes zs)
some_place cells (Some (SlowMemref number first)) sizes subscripts zs h = by (cell_in sizes zs)
  where
    by : (o : Option ℕ) → (n : ℕ) × PlaceIn n (slow_at first o)
    by (Some c) = (suc (first + c), below (first + c))
      where
        below : (n : ℕ) → n < suc n
        below n = omega arith
    by None = (0, tt)
some_place cells (Some (FastMemref number)) sizes subscripts zs h = absurd h
some_place cells (Some (TagMemref first)) sizes subscripts zs h = absurd h
some_place cells None sizes subscripts zs h = absurd h

carried_same : (o : Outcome State) (y : Device) → y.outstanding ≡ [] → Same o (carried y o)
carried_same (End s) y none = (refl, none)
carried_same (Fault k s) y none = (refl, refl)

module _ (filler : ℤ) (capacity : ℕ) where
  one_same : (a : Action) (y : Device) → CanTake a y.state → y.outstanding ≡ [] → Same (direct_step a y.state) (acts filler capacity a y)
  unfolding direct_step acts
  one_same Known y h none = (refl, none)
  one_same (Sets r z) y h none = (refl, none)
  one_same (Loads r place) y h none = load_same r (length y.state.slow) place y h none
  one_same (Stores x place) y h none = store_same (read y.state.registers x) (length y.state.slow) place y h none
  one_same (RawLoads r home sizes subscripts) y h none =
      let p = some_place (length y.state.slow) home sizes subscripts (map (read y.state.registers) subscripts) h in
      load_same r p.0 (raw_place y.state.registers home sizes subscripts) y p.1 none
  one_same (RawStores x home sizes subscripts) y h none =
      let p = some_place (length y.state.slow) home sizes subscripts (map (read y.state.registers) subscripts) h in
      store_same (read y.state.registers x) p.0 (raw_place y.state.registers home sizes subscripts) y p.1 none
  one_same (Operates r op bits a b) y h none = carried_same (direct_step (Operates r op bits a b) y.state) y none
  one_same (Converts r kind from to x) y h none = (refl, none)
  one_same (Allocates number element sizes) y h none = absurd h
  one_same (Releases number element sizes) y h none = absurd h
  one_same (AllocatesTags first count) y h none = absurd h
  one_same (ReleasesTags first count) y h none = absurd h
  one_same (Starts t) y h none = absurd h
  one_same (Waits tag count) y h none = absurd h
  one_same (Faults k) y h none = absurd h
  one_same Returns y h none = (refl, none)

  run_same : (xs : List Action) (y : Device) → CanRun xs y.state → y.outstanding ≡ [] → Same (folded direct_step xs y.state) (folded (prompt_step filler capacity) xs y)
  unfolding folded prompt_step
  run_same [] y h none = (refl, none)
  run_same (a ∷ xs) y h none = by (direct_step a y.state) refl (acts filler capacity a (record y { actions = suc y.actions })) (one_same a (record y { actions = suc y.actions }) h.0 none) (λ z can free. run_same xs z can free)
    where
      by : (s : Outcome State) → direct_step a y.state ≡ s → (o : Outcome Device) → Same s o → ((z : Device) → CanRun xs z.state → z.outstanding ≡ [] → Same (folded direct_step xs z.state) (folded (prompt_step filler capacity) xs z))
          → Same (then_do s (folded direct_step xs)) (then_do o (folded (prompt_step filler capacity) xs))
      by (End s) e (End z) k more =
          subst (λ s. Same (folded direct_step xs s) (folded (prompt_step filler capacity) xs z)) (sym k.0)
          (more z (h.1 z.state (e ∙ ap (λ s. End s) k.0)) k.1)
      by (End s) e (Fault j z) k more = absurd k
      by (Fault i s) e (End z) k more = absurd k
      by (Fault i s) e (Fault j z) k more = k

same_verdict : (s : Outcome State) (o : Outcome Device) → Same s o → verdict_of o ≡ verdict_of s
same_verdict (End s) (End y) h = refl
same_verdict (End s) (Fault k y) h = absurd h
same_verdict (Fault k s) (End y) h = absurd h
same_verdict (Fault k s) (Fault j y) h = ap (λ k. verdict_of (Fault k y)) (sym h.0)

same_slow : (s : Outcome State) (o : Outcome Device) → Same s o → (state_of o).state.slow ≡ (state_of s).slow
same_slow (End s) (End y) h = ap (λ (s : State). s.slow) (sym h.0)
same_slow (End s) (Fault k y) h = absurd h
same_slow (Fault k s) (End y) h = absurd h
same_slow (Fault k s) (Fault j y) h = ap (λ (s : State). s.slow) (sym h.1)

pub prompt_is_direct : PromptIsDirect
unfolding plain prompt
prompt_is_direct m valid none memory fits filler capacity =
    let k = run_same filler capacity (module_actions m memory.symbols) (first_device memory) (can_run m valid none memory fits).runs refl in
    record { verdict_is = same_verdict _ _ k; slow_is = same_slow _ _ k }
