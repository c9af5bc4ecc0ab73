-- Which transfers are outstanding behind a run that ends is known before the run.
use Rattle.std.proofs.Common.{◌≡◌, ℕ, suc, ℤ, List, [], ◌∷◌, ◌++◌, refl, subst, Bool, true, false}
use Rattle.std.specs.Prelude.{Option, Some, None, nat_eq, if◌then◌else◌}
use Rattle.affine_ast.specs.declared.name.Name.{Name}
use Rattle.bus_model.specs.declared.step.FaultKind.{FaultKind}
use Rattle.bus_model.specs.declared.step.FaultKind.TheVariants.{Touched, Race, Tag, Shape}
use Rattle.bus_model.specs.declared.transfer.Transfer.{Transfer}
use Rattle.direct_meaning.specs.Action.{Place, Slow, Fast, Outside, Action, Known, Sets, Loads, Stores, RawLoads, RawStores, Operates, Converts, Allocates, Releases, AllocatesTags, ReleasesTags, Starts, Waits, Faults, Returns}
use Rattle.direct_meaning.specs.Direct.{Outcome, End, Fault, then_do, folded, State, raw_place}
use Rattle.prompt_semantics.specs.Device.{Device, is_away, has_away, is_started, has_started, load_races, store_races, start_races, copied_in, copied_out, recorded, started, record_of, without}
use Rattle.prompt_semantics.specs.Prompt.{carried, refused, prompt_load, prompt_store, prompt_start, wait_on, acts}
use Rattle.box_run_laws.specs.Roomy.{roomy, roomy_step}
use Rattle.box_run_laws.specs.Parts.{left_by, left_behind}

-- an outcome that, if it is an end, has these transfers outstanding
abbrev pub Leaves : List Transfer → Outcome Device → Type 0
Leaves ts (End y) = y.outstanding ≡ ts
Leaves ts (Fault k y) = Unit {0}

unless_refused : (ts : List Transfer) (b : Bool) (k : FaultKind) (y : Device) (o : Outcome Device) → Leaves ts o → Leaves ts (refused b k y o)
unless_refused ts true k y o h = tt
unless_refused ts false k y o h = h

left_carried : (y : Device) (o : Outcome State) → Leaves y.outstanding (carried y o)
left_carried y (End s) = refl
left_carried y (Fault k s) = tt

left_load : (r : Name) (p : Place) (y : Device) → Leaves y.outstanding (prompt_load r p y)
left_load r (Slow p) y = unless_refused y.outstanding (load_races y.outstanding p) Race y _ refl
left_load r (Fast n h c) y = unless_refused y.outstanding (is_away y.outstanding n h) Touched y _ refl
left_load r Outside y = tt

left_store : (z : ℤ) (p : Place) (y : Device) → Leaves y.outstanding (prompt_store z p y)
left_store z (Slow p) y = unless_refused y.outstanding (store_races y.outstanding p) Race y _ refl
left_store z (Fast n h c) y = unless_refused y.outstanding (is_away y.outstanding n h) Touched y _ refl
left_store z Outside y = tt

left_started : (t : Transfer) (y : Device) → (started t y).outstanding ≡ y.outstanding ++ t ∷ []
unfolding started
left_started t y = by t.incoming
  where
    by : (b : Bool) → (recorded t (if b then copied_in t y else copied_out t y)).outstanding ≡ y.outstanding ++ t ∷ []
    by true = refl
    by false = refl

left_start : (t : Transfer) (y : Device) → Leaves (y.outstanding ++ t ∷ []) (prompt_start t y)
left_start t y =
    unless_refused _ (is_started y.outstanding t.tag) Tag y _
    (unless_refused _ (is_away y.outstanding t.fast t.half) Touched y _
    (unless_refused _ (start_races y.outstanding t) Race y _ (left_started t y)))

left_wait : (o : Option Transfer) (tag count : ℕ) (y : Device) → Leaves (without tag y.outstanding) (wait_on o tag count y)
left_wait None tag count y = tt
left_wait (Some t) tag count y = by (nat_eq t.count count)
  where
    by : (b : Bool) → Leaves (without tag y.outstanding) (if b then End (record y { outstanding = without tag y.outstanding }) else Fault Shape y)
    by true = refl
    by false = tt

module _ (filler : ℤ) where
  left_action : (a : Action) (y : Device) → Leaves (left_by a y.outstanding) (roomy filler a y)
  unfolding roomy acts
  left_action Known y = left_carried y _
  left_action (Sets r z) y = left_carried y _
  left_action (Loads r p) y = left_load r p y
  left_action (Stores x p) y = left_store _ p y
  left_action (RawLoads r home sizes subs) y = left_load r (raw_place y.state.registers home sizes subs) y
  left_action (RawStores x home sizes subs) y = left_store _ (raw_place y.state.registers home sizes subs) y
  left_action (Operates r op bits a b) y = left_carried y _
  left_action (Converts r kind from to x) y = left_carried y _
  left_action (Allocates n element sizes) y = refl
  left_action (Releases n element sizes) y = unless_refused y.outstanding (has_away y.outstanding n) Touched y _ refl
  left_action (AllocatesTags first count) y = refl
  left_action (ReleasesTags first count) y = unless_refused y.outstanding (has_started y.outstanding first count) Tag y _ refl
  left_action (Starts t) y = left_start t y
  left_action (Waits tag count) y = left_wait (record_of tag y.outstanding) tag count y
  left_action (Faults k) y = tt
  left_action Returns y = refl

  pub left_step : (a : Action) (y : Device) → Leaves (left_by a y.outstanding) (roomy_step filler a y)
  unfolding roomy_step
  left_step a y = left_action a (record y { actions = suc y.actions })

  pub left_run : (xs : List Action) (y : Device) → Leaves (left_behind xs y.outstanding) (folded (roomy_step filler) xs y)
  unfolding folded
  left_run [] y = refl
  left_run (a ∷ xs) y = by (roomy_step filler a y) (left_step a y) (λ z. left_run xs z)
    where
      by : (o : Outcome Device) → Leaves (left_by a y.outstanding) o → ((z : Device) → Leaves (left_behind xs z.outstanding) (folded (roomy_step filler) xs z)) → Leaves (left_behind xs (left_by a y.outstanding)) (then_do o (folded (roomy_step filler) xs))
      by (End z) h more = subst (λ ts. Leaves (left_behind xs ts) (folded (roomy_step filler) xs z)) h (more z)
      by (Fault k z) h more = tt
