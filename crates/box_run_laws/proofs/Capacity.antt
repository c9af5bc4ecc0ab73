-- Live bytes and the capacity: the peak of a run never falls, and an allocation that the peak allows is made.
use Rattle.std.proofs.Common.{◌≡◌, ℕ, suc, ◌+◌, ◌≤◌, max, ℤ, List, [], ◌∷◌, refl, ap, ◌∙◌, arith, Bool, true, false}
use Rattle.std.specs.Prelude.{Option, Some, None, nat_eq, nat_le, if◌then◌else◌}
use Rattle.std.proofs.lemmas.Bool.{le-leb}
use Rattle.affine_ast.specs.declared.name.Name.{Name}
use Rattle.affine_ast.specs.declared.types.Element.{Element}
use Rattle.bus_model.specs.declared.step.FaultKind.{FaultKind}
use Rattle.bus_model.specs.declared.step.FaultKind.TheVariants.{Touched, Race, Tag, Capacity, Shape}
use Rattle.bus_model.specs.declared.transfer.Transfer.{Transfer}
use Rattle.direct_meaning.specs.Action.{Place, Slow, Fast, Outside, Action, Known, Sets, Loads, Stores, RawLoads, RawStores, Operates, Converts, Allocates, Releases, AllocatesTags, ReleasesTags, Starts, Waits, Faults, Returns}
use Rattle.direct_meaning.specs.Direct.{Outcome, End, Fault, then_do, folded, State, state_of, raw_place}
use Rattle.prompt_semantics.specs.Device.{Device, bytes_of, allocated, is_away, has_away, is_started, has_started, load_races, store_races, start_races, copied_in, copied_out, recorded, started, record_of, without}
use Rattle.prompt_semantics.specs.Prompt.{carried, refused, prompt_load, prompt_store, prompt_start, wait_on, acts, prompt_step}
use Rattle.box_run_laws.specs.Roomy.{roomy, roomy_step}

peak_refused : (b : Bool) (k : FaultKind) (y : Device) (o : Outcome Device) → (state_of o).peak ≡ y.peak → (state_of (refused b k y o)).peak ≡ y.peak
peak_refused true k y o h = refl
peak_refused false k y o h = h

peak_carried : (y : Device) (o : Outcome State) → (state_of (carried y o)).peak ≡ y.peak
peak_carried y (End s) = refl
peak_carried y (Fault k s) = refl

peak_load : (r : Name) (p : Place) (y : Device) → (state_of (prompt_load r p y)).peak ≡ y.peak
peak_load r (Slow p) y = peak_refused (load_races y.outstanding p) Race y _ refl
peak_load r (Fast n h c) y = peak_refused (is_away y.outstanding n h) Touched y _ refl
peak_load r Outside y = refl

peak_store : (z : ℤ) (p : Place) (y : Device) → (state_of (prompt_store z p y)).peak ≡ y.peak
peak_store z (Slow p) y = peak_refused (store_races y.outstanding p) Race y _ refl
peak_store z (Fast n h c) y = peak_refused (is_away y.outstanding n h) Touched y _ refl
peak_store z Outside y = refl

peak_started : (t : Transfer) (y : Device) → (started t y).peak ≡ y.peak
unfolding started
peak_started t y = by t.incoming
  where
    by : (b : Bool) → (recorded t (if b then copied_in t y else copied_out t y)).peak ≡ y.peak
    by true = refl
    by false = refl

peak_start : (t : Transfer) (y : Device) → (state_of (prompt_start t y)).peak ≡ y.peak
peak_start t y =
    peak_refused (is_started y.outstanding t.tag) Tag y _
    (peak_refused (is_away y.outstanding t.fast t.half) Touched y _
    (peak_refused (start_races y.outstanding t) Race y _ (peak_started t y)))

peak_wait : (o : Option Transfer) (tag count : ℕ) (y : Device) → (state_of (wait_on o tag count y)).peak ≡ y.peak
peak_wait None tag count y = refl
peak_wait (Some t) tag count y = by (nat_eq t.count count)
  where
    by : (b : Bool) → (state_of (if b then End (record y { outstanding = without tag y.outstanding }) else Fault Shape y)).peak ≡ y.peak
    by true = refl
    by false = refl

-- what an action may do to the peak, and what the capacity says to it
pub record Fitting (filler : ℤ) (capacity : ℕ) (a : Action) (y : Device) : Type 0 where
  pub rises : y.peak ≤ (state_of (roomy filler a y)).peak
  pub same : (state_of (roomy filler a y)).peak ≤ capacity → acts filler capacity a y ≡ roomy filler a y

module _ (filler : ℤ) (capacity : ℕ) where
  unchanged : (p n : ℕ) → n ≡ p → p ≤ n
  unchanged p n e = omega (arith, e)

  allocation : (n : ℕ) (element : Element) (sizes : List ℕ) (y : Device) → max y.peak (y.live + bytes_of element sizes) ≤ capacity
      → (if nat_le (y.live + bytes_of element sizes) capacity then End (allocated filler n element sizes y) else Fault Capacity y) ≡ End (allocated filler n element sizes y)
  allocation n element sizes y h = ap (λ t. if t then End (allocated filler n element sizes y) else Fault Capacity y) (le-leb (y.live + bytes_of element sizes) capacity (below y.peak (y.live + bytes_of element sizes) h))
    where
      below : (p l : ℕ) → max p l ≤ capacity → l ≤ capacity
      below p l h = omega (arith, h)

  fitting : (a : Action) (y : Device) → Fitting filler capacity a y
  unfolding roomy acts
  fitting Known y = record { rises = unchanged y.peak _ (peak_carried y _); same = λ h. refl }
  fitting (Sets r z) y = record { rises = unchanged y.peak _ (peak_carried y _); same = λ h. refl }
  fitting (Loads r p) y = record { rises = unchanged y.peak _ (peak_load r p y); same = λ h. refl }
  fitting (Stores x p) y = record { rises = unchanged y.peak _ (peak_store _ p y); same = λ h. refl }
  fitting (RawLoads r home sizes subs) y = record { rises = unchanged y.peak _ (peak_load r (raw_place y.state.registers home sizes subs) y); same = λ h. refl }
  fitting (RawStores x home sizes subs) y = record { rises = unchanged y.peak _ (peak_store _ (raw_place y.state.registers home sizes subs) y); same = λ h. refl }
  fitting (Operates r op bits a b) y = record { rises = unchanged y.peak _ (peak_carried y _); same = λ h. refl }
  fitting (Converts r kind from to x) y = record { rises = unchanged y.peak _ (peak_carried y _); same = λ h. refl }
  fitting (Allocates n element sizes) y = record { rises = omega arith; same = λ h. allocation n element sizes y h }
  fitting (Releases n element sizes) y = record { rises = unchanged y.peak _ (peak_refused (has_away y.outstanding n) Touched y _ refl); same = λ h. refl }
  fitting (AllocatesTags first count) y = record { rises = omega arith; same = λ h. refl }
  fitting (ReleasesTags first count) y = record { rises = unchanged y.peak _ (peak_refused (has_started y.outstanding first count) Tag y _ refl); same = λ h. refl }
  fitting (Starts t) y = record { rises = unchanged y.peak _ (peak_start t y); same = λ h. refl }
  fitting (Waits tag count) y = record { rises = unchanged y.peak _ (peak_wait (record_of tag y.outstanding) tag count y); same = λ h. refl }
  fitting (Faults k) y = record { rises = omega arith; same = λ h. refl }
  fitting Returns y = record { rises = omega arith; same = λ h. refl }

  pub peak_step : (a : Action) (y : Device) → y.peak ≤ (state_of (roomy_step filler a y)).peak
  unfolding roomy_step
  peak_step a y = (fitting a (record y { actions = suc y.actions })).rises

  step_same : (a : Action) (y : Device) → (state_of (roomy_step filler a y)).peak ≤ capacity → prompt_step filler capacity a y ≡ roomy_step filler a y
  unfolding roomy_step prompt_step
  step_same a y h = (fitting a (record y { actions = suc y.actions })).same h

  pub peak_run : (xs : List Action) (y : Device) → y.peak ≤ (state_of (folded (roomy_step filler) xs y)).peak
  unfolding folded
  peak_run [] y = omega arith
  peak_run (a ∷ xs) y = by (roomy_step filler a y) (peak_step a y) (λ z. peak_run xs z)
    where
      by : (o : Outcome Device) → y.peak ≤ (state_of o).peak → ((z : Device) → z.peak ≤ (state_of (folded (roomy_step filler) xs z)).peak) → y.peak ≤ (state_of (then_do o (folded (roomy_step filler) xs))).peak
      by (End z) h more = let k = more z in omega (arith, h, k)
      by (Fault k z) h more = h

  pub capacity_kept : (xs : List Action) (y : Device) → (state_of (folded (roomy_step filler) xs y)).peak ≤ capacity → folded (prompt_step filler capacity) xs y ≡ folded (roomy_step filler) xs y
  unfolding folded
  capacity_kept [] y h = refl
  capacity_kept (a ∷ xs) y h = by (roomy_step filler a y) (prompt_step filler capacity a y) (λ k. step_same a y k) h (λ z k. capacity_kept xs z k) (λ z. peak_run xs z)
    where
      by : (o p : Outcome Device) → ((state_of o).peak ≤ capacity → p ≡ o) → (state_of (then_do o (folded (roomy_step filler) xs))).peak ≤ capacity
          → ((z : Device) → (state_of (folded (roomy_step filler) xs z)).peak ≤ capacity → folded (prompt_step filler capacity) xs z ≡ folded (roomy_step filler) xs z)
          → ((z : Device) → z.peak ≤ (state_of (folded (roomy_step filler) xs z)).peak)
          → then_do p (folded (prompt_step filler capacity) xs) ≡ then_do o (folded (roomy_step filler) xs)
      by (End z) p same h more rises = let k = rises z in ap (λ p. then_do p (folded (prompt_step filler capacity) xs)) (same (omega (arith, h, k))) ∙ more z h
      by (Fault i z) p same h more rises = ap (λ p. then_do p (folded (prompt_step filler capacity) xs)) (same h)
