-- A run that needs more than the capacity stops at the fault `capacity`, and one without bound never does.
use Rattle.std.proofs.Common.{◌≡◌, ◌⊎◌, inl, inr, ℕ, suc, ◌+◌, ◌≤◌, ◌<◌, max, ℤ, Bool, true, false, List, [], ◌∷◌, refl, sym, ap, ◌∙◌, subst, arith}
use Rattle.std.specs.Prelude.{◌≢◌, Option, Some, None, nat_eq, nat_le, if◌then◌else◌}
use Rattle.affine_ast.specs.declared.name.Name.{Name}
use Rattle.affine_ast.specs.declared.types.Element.{Element}
use Rattle.bus_model.specs.declared.step.FaultKind.{FaultKind}
use Rattle.bus_model.specs.declared.step.FaultKind.TheVariants.{Bounds, Divide, Touched, Race, Tag, Capacity, Shape}
use Rattle.bus_model.specs.declared.transfer.Transfer.{Transfer}
use Rattle.int_ops.specs.Operation.{operation}
use Rattle.direct_meaning.specs.Action.{Place, Slow, Fast, Outside, Action, Known, Sets, Loads, Stores, RawLoads, RawStores, Operates, Converts, Allocates, Releases, AllocatesTags, ReleasesTags, Starts, Waits, Faults, Returns}
use Rattle.direct_meaning.specs.Direct.{Outcome, End, Fault, then_do, folded, state_of, read, raw_place, keep_result, direct_step}
use Rattle.prompt_semantics.specs.Device.{Device, bytes_of, allocated, is_away, has_away, is_started, has_started, load_races, store_races, start_races, copied_in, copied_out, recorded, started, record_of, without}
use Rattle.prompt_semantics.specs.Prompt.{carried, refused, prompt_load, prompt_store, prompt_start, wait_on, acts, prompt_step}
use Rattle.box_run_laws.specs.Roomy.{roomy, roomy_step}
use Rattle.box_run_laws.proofs.Capacity.{capacity_kept}
use Rattle.peak_laws.proofs.Mild.{Mild, AllMild}

-- ---- what leaves the peak as it is, and isn't this fault

abbrev Calm : ℕ → Outcome Device → Type 0
Calm p (End z) = z.peak ≡ p
Calm p (Fault k z) = (z.peak ≡ p) × (k ≢ Capacity)

touched_calm : Touched ≢ Capacity
touched_calm h = let z : ⊥ = cc in z

race_calm : Race ≢ Capacity
race_calm h = let z : ⊥ = cc in z

tag_calm : Tag ≢ Capacity
tag_calm h = let z : ⊥ = cc in z

bounds_calm : Bounds ≢ Capacity
bounds_calm h = let z : ⊥ = cc in z

divide_calm : Divide ≢ Capacity
divide_calm h = let z : ⊥ = cc in z

shape_calm : Shape ≢ Capacity
shape_calm h = let z : ⊥ = cc in z

calm_refused : (b : Bool) (k : FaultKind) (y : Device) (o : Outcome Device) → k ≢ Capacity → Calm y.peak o → Calm y.peak (refused b k y o)
calm_refused true k y o n h = (refl, n)
calm_refused false k y o n h = h

calm_load : (r : Name) (p : Place) (y : Device) → Calm y.peak (prompt_load r p y)
calm_load r (Slow p) y = calm_refused (load_races y.outstanding p) Race y _ race_calm refl
calm_load r (Fast n h c) y = calm_refused (is_away y.outstanding n h) Touched y _ touched_calm refl
calm_load r Outside y = (refl, bounds_calm)

calm_store : (z : ℤ) (p : Place) (y : Device) → Calm y.peak (prompt_store z p y)
calm_store z (Slow p) y = calm_refused (store_races y.outstanding p) Race y _ race_calm refl
calm_store z (Fast n h c) y = calm_refused (is_away y.outstanding n h) Touched y _ touched_calm refl
calm_store z Outside y = (refl, bounds_calm)

calm_result : (r : Name) (o : Option ℤ) (y : Device) → Calm y.peak (carried y (keep_result r o y.state))
calm_result r (Some z) y = refl
calm_result r None y = (refl, divide_calm)

calm_started : (t : Transfer) (y : Device) → (started t y).peak ≡ y.peak
unfolding started
calm_started t y = by t.incoming
  where
    by : (b : Bool) → (recorded t (if b then copied_in t y else copied_out t y)).peak ≡ y.peak
    by true = refl
    by false = refl

calm_start : (t : Transfer) (y : Device) → Calm y.peak (prompt_start t y)
calm_start t y =
    calm_refused (is_started y.outstanding t.tag) Tag y _ tag_calm
    (calm_refused (is_away y.outstanding t.fast t.half) Touched y _ touched_calm
    (calm_refused (start_races y.outstanding t) Race y _ race_calm (calm_started t y)))

calm_wait : (o : Option Transfer) (tag count : ℕ) (y : Device) → Calm y.peak (wait_on o tag count y)
calm_wait None tag count y = (refl, tag_calm)
calm_wait (Some t) tag count y = by (nat_eq t.count count)
  where
    by : (b : Bool) → Calm y.peak (if b then End (record y { outstanding = without tag y.outstanding }) else Fault Shape y)
    by true = refl
    by false = (refl, shape_calm)

-- an allocation is made, and the peak rises to its bytes, or it changes nothing and is refused; what else there is, is calm
data Way (filler : ℤ) (capacity : ℕ) (a : Action) (y : Device) : Type 0 where
  made : (z : Device) → roomy filler a y ≡ End z → z.peak ≡ max y.peak (z.live) → (z.live ≤ capacity → acts filler capacity a y ≡ End z) → (capacity < z.live → acts filler capacity a y ≡ Fault Capacity y) → Way filler capacity a y
  calm : Calm y.peak (roomy filler a y) → Way filler capacity a y

pub within_or_not : (a b : ℕ) → (a ≤ b) ⊎ (b < a)
within_or_not a b = by (nat_le a b) refl
  where
    by : (t : Bool) → nat_le a b ≡ t → (a ≤ b) ⊎ (b < a)
    by true t = inl (grind (arith, t))
    by false t = inr (grind (arith, t))

-- stopped at this fault, with no more live bytes so far than the capacity
abbrev pub IsFull : ℕ → Outcome Device → Type 0
IsFull capacity (End z) = ⊥
IsFull capacity (Fault k z) = (k ≡ Capacity) × (z.peak ≤ capacity)

-- not stopped at this fault
abbrev pub NotFull : Outcome Device → Type 0
NotFull (End z) = Unit {0}
NotFull (Fault k z) = k ≢ Capacity

module _ (filler : ℤ) (capacity : ℕ) where
  allocation : (n : ℕ) (element : Element) (sizes : List ℕ) (y : Device) (t : Bool) → nat_le (y.live + bytes_of element sizes) capacity ≡ t
      → (if nat_le (y.live + bytes_of element sizes) capacity then End (allocated filler n element sizes y) else Fault Capacity y) ≡ (if t then End (allocated filler n element sizes y) else Fault Capacity y)
  allocation n element sizes y t h = ap (λ t. if t then End (allocated filler n element sizes y) else Fault Capacity y) h

  is_le : (a b : ℕ) → a ≤ b → nat_le a b ≡ true
  is_le a b h = grind (arith, h)

  is_not_le : (a b : ℕ) → b < a → nat_le a b ≡ false
  is_not_le a b h = grind (arith, h)

  way : (a : Action) (y : Device) → Mild a → Way filler capacity a y
  unfolding roomy acts direct_step
  way Known y h = calm refl
  way (Sets r z) y h = calm refl
  way (Loads r p) y h = calm (calm_load r p y)
  way (Stores x p) y h = calm (calm_store _ p y)
  way (RawLoads r home sizes subs) y h = calm (calm_load r (raw_place y.state.registers home sizes subs) y)
  way (RawStores x home sizes subs) y h = calm (calm_store _ (raw_place y.state.registers home sizes subs) y)
  way (Operates r op bits a b) y h = calm (calm_result r (operation op bits (read y.state.registers a) (read y.state.registers b)) y)
  way (Converts r kind from to x) y h = calm refl
  way (Allocates n element sizes) y h = made (allocated filler n element sizes y) refl refl
      (λ l. allocation n element sizes y true (is_le (y.live + bytes_of element sizes) capacity l))
      (λ l. allocation n element sizes y false (is_not_le (y.live + bytes_of element sizes) capacity l))
  way (Releases n element sizes) y h = calm (calm_refused (has_away y.outstanding n) Touched y _ touched_calm refl)
  way (AllocatesTags first count) y h = calm refl
  way (ReleasesTags first count) y h = calm (calm_refused (has_started y.outstanding first count) Tag y _ tag_calm refl)
  way (Starts t) y h = calm (calm_start t y)
  way (Waits tag count) y h = calm (calm_wait (record_of tag y.outstanding) tag count y)
  way (Faults k) y h = calm (refl, h)
  way Returns y h = calm refl

  -- ---- one step

  calm_not_full : (p : ℕ) (o : Outcome Device) → Calm p o → NotFull o
  calm_not_full p (End z) h = tt
  calm_not_full p (Fault k z) h = h.1

  calm_peak : (p : ℕ) (o : Outcome Device) → Calm p o → (state_of o).peak ≡ p
  calm_peak p (End z) h = h
  calm_peak p (Fault k z) h = h.0

  step_not_full : (a : Action) (y : Device) → Mild a → NotFull (roomy_step filler a y)
  unfolding roomy_step
  step_not_full a y h = by (way a (record y { actions = suc y.actions }) h)
    where
      by : Way filler capacity a (record y { actions = suc y.actions }) → NotFull (roomy filler a (record y { actions = suc y.actions }))
      by (made z is rises fits full) = subst NotFull (sym is) tt
      by (calm c) = calm_not_full y.peak _ c

  step_full : (a : Action) (y : Device) → Mild a → y.peak ≤ capacity → capacity < (state_of (roomy_step filler a y)).peak → IsFull capacity (prompt_step filler capacity a y)
  unfolding roomy_step prompt_step
  step_full a y h below above = by (way a (record y { actions = suc y.actions }) h)
    where
      more : (p l q : ℕ) → q ≡ max p l → p ≤ capacity → capacity < q → capacity < l
      more p l q e a b = omega (arith, e, a, b)

      by : Way filler capacity a (record y { actions = suc y.actions }) → IsFull capacity (acts filler capacity a (record y { actions = suc y.actions }))
      by (made z is rises fits full) =
          let b : capacity < z.peak = subst (λ (o : Outcome Device). capacity < (state_of o).peak) is above in
          subst (IsFull capacity) (sym (full (more y.peak z.live z.peak rises below b))) (refl, below)
      by (calm c) = let e = calm_peak y.peak _ c in absurd (let z : ⊥ = omega (arith, e, below, above) in z)

  then_end : (o : Outcome Device) → then_do o (λ z. End z) ≡ o
  then_end (End z) = refl
  then_end (Fault k z) = refl

  -- a step that stays within the capacity
  step_same : (a : Action) (y : Device) → (state_of (roomy_step filler a y)).peak ≤ capacity → prompt_step filler capacity a y ≡ roomy_step filler a y
  unfolding folded
  step_same a y h =
      sym (then_end (prompt_step filler capacity a y))
      ∙ capacity_kept filler capacity (a ∷ []) y (subst (λ (o : Outcome Device). (state_of o).peak ≤ capacity) (sym (then_end (roomy_step filler a y))) h)
      ∙ then_end (roomy_step filler a y)

  -- ---- a run

  pub run_not_full : (xs : List Action) (y : Device) → AllMild xs → NotFull (folded (roomy_step filler) xs y)
  unfolding folded
  run_not_full [] y h = tt
  run_not_full (a ∷ xs) y h = by (roomy_step filler a y) (step_not_full a y h.0) (λ z. run_not_full xs z h.1)
    where
      by : (o : Outcome Device) → NotFull o → ((z : Device) → NotFull (folded (roomy_step filler) xs z)) → NotFull (then_do o (folded (roomy_step filler) xs))
      by (End z) h more = more z
      by (Fault k z) h more = h

  pub run_full : (xs : List Action) (y : Device) → AllMild xs → y.peak ≤ capacity → capacity < (state_of (folded (roomy_step filler) xs y)).peak → IsFull capacity (folded (prompt_step filler capacity) xs y)
  unfolding folded
  run_full [] y h below above = absurd (let z : ⊥ = omega (arith, below, above) in z)
  run_full (a ∷ xs) y h below above = by (roomy_step filler a y) (prompt_step filler capacity a y) (step_same a y) (step_full a y h.0 below) above (λ z. run_full xs z h.1)
    where
      full_then : (o : Outcome Device) → IsFull capacity o → IsFull capacity (then_do o (folded (prompt_step filler capacity) xs))
      full_then (End z) h = absurd h
      full_then (Fault k z) h = h

      by : (o p : Outcome Device) → ((state_of o).peak ≤ capacity → p ≡ o) → (capacity < (state_of o).peak → IsFull capacity p)
          → capacity < (state_of (then_do o (folded (roomy_step filler) xs))).peak
          → ((z : Device) → z.peak ≤ capacity → capacity < (state_of (folded (roomy_step filler) xs z)).peak → IsFull capacity (folded (prompt_step filler capacity) xs z))
          → IsFull capacity (then_do p (folded (prompt_step filler capacity) xs))
      by (Fault k z) p same full above more = full_then p (full above)
      by (End z) p same full above more = split (within_or_not z.peak capacity)
        where
          split : (z.peak ≤ capacity) ⊎ (capacity < z.peak) → IsFull capacity (then_do p (folded (prompt_step filler capacity) xs))
          split (inl l) = subst (λ p. IsFull capacity (then_do p (folded (prompt_step filler capacity) xs))) (sym (same l)) (more z l above)
          split (inr l) = full_then p (full l)
