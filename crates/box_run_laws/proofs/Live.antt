-- The live bytes of a run are those of its list of actions.
use Rattle.std.proofs.Common.{◌≡◌, ℕ, suc, ◌-◌, ◌≤◌, max, ℤ, List, [], ◌∷◌, refl, ap, arith, Bool, true, false}
use Rattle.std.specs.Prelude.{Option, Some, None, nat_eq, if◌then◌else◌}
use Rattle.affine_ast.specs.declared.name.Name.{Name}
use Rattle.bus_model.specs.declared.step.FaultKind.{FaultKind}
use Rattle.bus_model.specs.declared.step.FaultKind.TheVariants.{Touched, Race, Tag, Shape}
use Rattle.bus_model.specs.declared.transfer.Transfer.{Transfer}
use Rattle.direct_meaning.specs.Action.{Place, Slow, Fast, Outside, Action, Known, Sets, Loads, Stores, RawLoads, RawStores, Operates, Converts, Allocates, Releases, AllocatesTags, ReleasesTags, Starts, Waits, Faults, Returns}
use Rattle.direct_meaning.specs.Direct.{Outcome, End, Fault, then_do, folded, State, state_of, raw_place}
use Rattle.prompt_semantics.specs.Device.{Device, bytes_of, is_away, has_away, is_started, has_started, load_races, store_races, start_races, copied_in, copied_out, recorded, started, record_of, without}
use Rattle.prompt_semantics.specs.Prompt.{carried, refused, prompt_load, prompt_store, prompt_start, wait_on, acts}
use Rattle.box_run_laws.specs.Roomy.{roomy, roomy_step, live_by, most_live}

-- an outcome with so many live bytes, whose peak has risen no further than to them; at a fault, with the peak as it was
pub record Keeps (peak live : ℕ) (new_peak new_live : ℕ) : Type 0 where
  pub live_is : new_live ≡ live
  pub peak_most : new_peak ≤ max peak live

abbrev pub Lives : ℕ → ℕ → Outcome Device → Type 0
Lives peak live (End z) = Keeps peak live z.peak z.live
Lives peak live (Fault k z) = z.peak ≤ peak

stays : (y : Device) → Keeps y.peak y.live y.peak y.live
stays y = record { live_is = refl; peak_most = omega arith }

unless : (b : Bool) (k : FaultKind) (y : Device) (l : ℕ) (o : Outcome Device) → Lives y.peak l o → Lives y.peak l (refused b k y o)
unless true k y l o h = omega arith
unless false k y l o h = h

live_carried : (y : Device) (o : Outcome State) → Lives y.peak y.live (carried y o)
live_carried y (End s) = stays y
live_carried y (Fault k s) = omega arith

live_load : (r : Name) (p : Place) (y : Device) → Lives y.peak y.live (prompt_load r p y)
live_load r (Slow p) y = unless (load_races y.outstanding p) Race y y.live _ (stays y)
live_load r (Fast n h c) y = unless (is_away y.outstanding n h) Touched y y.live _ (stays y)
live_load r Outside y = omega arith

live_store : (z : ℤ) (p : Place) (y : Device) → Lives y.peak y.live (prompt_store z p y)
live_store z (Slow p) y = unless (store_races y.outstanding p) Race y y.live _ (stays y)
live_store z (Fast n h c) y = unless (is_away y.outstanding n h) Touched y y.live _ (stays y)
live_store z Outside y = omega arith

live_started : (t : Transfer) (y : Device) → Keeps y.peak y.live (started t y).peak (started t y).live
unfolding started
live_started t y = by t.incoming
  where
    by : (b : Bool) → Lives y.peak y.live (End (recorded t (if b then copied_in t y else copied_out t y)))
    by true = record { live_is = refl; peak_most = omega arith }
    by false = record { live_is = refl; peak_most = omega arith }

live_start : (t : Transfer) (y : Device) → Lives y.peak y.live (prompt_start t y)
live_start t y =
    unless (is_started y.outstanding t.tag) Tag y y.live _
    (unless (is_away y.outstanding t.fast t.half) Touched y y.live _
    (unless (start_races y.outstanding t) Race y y.live _ (live_started t y)))

live_wait : (o : Option Transfer) (tag count : ℕ) (y : Device) → Lives y.peak y.live (wait_on o tag count y)
live_wait None tag count y = omega arith
live_wait (Some t) tag count y = by (nat_eq t.count count)
  where
    by : (b : Bool) → Lives y.peak y.live (if b then End (record y { outstanding = without tag y.outstanding }) else Fault Shape y)
    by true = record { live_is = refl; peak_most = omega arith }
    by false = omega arith

module _ (filler : ℤ) where
  live_action : (a : Action) (y : Device) → Lives y.peak (live_by a y.live) (roomy filler a y)
  unfolding roomy acts
  live_action Known y = live_carried y _
  live_action (Sets r z) y = live_carried y _
  live_action (Loads r p) y = live_load r p y
  live_action (Stores x p) y = live_store _ p y
  live_action (RawLoads r home sizes subs) y = live_load r (raw_place y.state.registers home sizes subs) y
  live_action (RawStores x home sizes subs) y = live_store _ (raw_place y.state.registers home sizes subs) y
  live_action (Operates r op bits a b) y = live_carried y _
  live_action (Converts r kind from to x) y = live_carried y _
  live_action (Allocates n element sizes) y = record { live_is = refl; peak_most = omega arith }
  live_action (Releases n element sizes) y = unless (has_away y.outstanding n) Touched y (y.live - bytes_of element sizes) _ (record { live_is = refl; peak_most = omega arith })
  live_action (AllocatesTags first count) y = stays y
  live_action (ReleasesTags first count) y = unless (has_started y.outstanding first count) Tag y y.live _ (stays y)
  live_action (Starts t) y = live_start t y
  live_action (Waits tag count) y = live_wait (record_of tag y.outstanding) tag count y
  live_action (Faults k) y = omega arith
  live_action Returns y = stays y

  live_step : (a : Action) (y : Device) → Lives y.peak (live_by a y.live) (roomy_step filler a y)
  unfolding roomy_step
  live_step a y = live_action a (record y { actions = suc y.actions })

  first_most : (xs : List Action) (l : ℕ) → l ≤ most_live xs l
  first_most [] l = omega arith
  first_most (a ∷ xs) l = omega arith

  pub live_known : (xs : List Action) (y : Device) → (state_of (folded (roomy_step filler) xs y)).peak ≤ max y.peak (most_live xs y.live)
  unfolding folded
  live_known [] y = omega arith
  live_known (a ∷ xs) y = by (roomy_step filler a y) (live_step a y) (λ z. live_known xs z)
    where
      by : (o : Outcome Device) → Lives y.peak (live_by a y.live) o → ((z : Device) → (state_of (folded (roomy_step filler) xs z)).peak ≤ max z.peak (most_live xs z.live))
          → (state_of (then_do o (folded (roomy_step filler) xs))).peak ≤ max y.peak (max y.live (most_live xs (live_by a y.live)))
      by (End z) h more =
          let m = more z in
          let p = h.peak_most in
          let n : most_live xs z.live ≡ most_live xs (live_by a y.live) = ap (most_live xs) h.live_is in
          let f = first_most xs (live_by a y.live) in
          omega (arith, m, p, n, f)
      by (Fault k z) h more = omega (arith, h)
