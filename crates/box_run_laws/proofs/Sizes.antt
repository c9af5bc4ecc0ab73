-- The halves of a fast memref keep their sizes in a run that doesn't allocate it.
use Rattle.std.proofs.Common.{◌≡◌, ◌≢◌, ℕ, suc, ℤ, List, [], ◌∷◌, length, length-set, refl, ap, ◌∙◌, Bool, true, false, map}
use Rattle.std.specs.Prelude.{◌&&◌, Option, Some, None, nat_eq, slice_set, if◌then◌else◌}
use Rattle.std.proofs.lemmas.Bool.{eqb-true, ne_eqb, and_parts}
use Rattle.affine_ast.specs.declared.name.Name.{Name}
use Rattle.bus_model.specs.declared.step.FaultKind.{FaultKind}
use Rattle.bus_model.specs.declared.step.FaultKind.TheVariants.{Touched, Race, Tag, Shape}
use Rattle.bus_model.specs.declared.transfer.Transfer.{Transfer}
use Rattle.bus_model.specs.Copies.{moved_in}
use Rattle.bus_model.proofs.Copies.{length-first_in}
use Rattle.direct_meaning.specs.Action.{Place, Slow, Fast, Outside, Action, Known, Sets, Loads, Stores, RawLoads, RawStores, Operates, Converts, Allocates, Releases, AllocatesTags, ReleasesTags, Starts, Waits, Faults, Returns}
use Rattle.direct_meaning.specs.Direct.{Outcome, End, Fault, then_do, folded, State, raw_place}
use Rattle.prompt_semantics.specs.Device.{Device, put_half, fresh_half, is_away, has_away, is_started, has_started, load_races, store_races, start_races, copied_in, copied_out, recorded, started, record_of, without}
use Rattle.prompt_semantics.proofs.Laws.{half_same, half_other, halves_other}
use Rattle.prompt_semantics.specs.Prompt.{carried, refused, prompt_load, prompt_store, prompt_start, wait_on, acts}
use Rattle.box_run_laws.specs.Roomy.{roomy, roomy_step}
use Rattle.boxes.specs.Every.{Every}
use Rattle.box_run_laws.specs.Layouts.{Numbering, Layout, moved}

-- an outcome of which something holds, if it is an end
abbrev pub OnEnd : (Device → Type 0) → Outcome Device → Type 0
OnEnd Q (End y) = Q y
OnEnd Q (Fault k y) = Unit {0}

-- each half of a fast memref has so many cells
abbrev pub AllLong : ℕ → ℕ → Device → Type 0
AllLong number n y = (h : ℕ) → length (y.halves number h) ≡ n

-- an action doesn't allocate a fast memref
abbrev pub NotTaken : ℕ → Action → Type 0
NotTaken number (Allocates n element sizes) = n ≢ number
NotTaken number a = Unit {0}

pub moved_not_taken : (nu : Numbering) (rho : Layout) (number : ℕ) → ((n : ℕ) → nu.fasts n ≢ number) → (a : Action) → NotTaken number (moved nu rho a)
unfolding moved
moved_not_taken nu rho number new Known = tt
moved_not_taken nu rho number new (Sets r z) = tt
moved_not_taken nu rho number new (Loads r p) = tt
moved_not_taken nu rho number new (Stores x p) = tt
moved_not_taken nu rho number new (RawLoads r home sizes subs) = tt
moved_not_taken nu rho number new (RawStores x home sizes subs) = tt
moved_not_taken nu rho number new (Operates r op bits a b) = tt
moved_not_taken nu rho number new (Converts r kind from to x) = tt
moved_not_taken nu rho number new (Allocates n element sizes) = new n
moved_not_taken nu rho number new (Releases n element sizes) = tt
moved_not_taken nu rho number new (AllocatesTags first count) = tt
moved_not_taken nu rho number new (ReleasesTags first count) = tt
moved_not_taken nu rho number new (Starts t) = tt
moved_not_taken nu rho number new (Waits tag count) = tt
moved_not_taken nu rho number new (Faults k) = tt
moved_not_taken nu rho number new Returns = tt

pub all_not_taken : (nu : Numbering) (rho : Layout) (number : ℕ) → ((n : ℕ) → nu.fasts n ≢ number) → (xs : List Action) → Every (NotTaken number) (map (moved nu rho) xs)
all_not_taken nu rho number new [] = tt
all_not_taken nu rho number new (a ∷ xs) = (moved_not_taken nu rho number new a, all_not_taken nu rho number new xs)

module _ (filler : ℤ) (number n : ℕ) where
  abbrev Q : Device → Type 0
  Q = AllLong number n

  unless : (b : Bool) (k : FaultKind) (y : Device) (o : Outcome Device) → OnEnd Q o → OnEnd Q (refused b k y o)
  unless true k y o h = tt
  unless false k y o h = h

  -- a half with another list of its length
  half_long : (y : Device) (m k : ℕ) (l : List ℤ) → length l ≡ length (y.halves m k) → Q y → Q (record y { halves = put_half y.halves m k l })
  half_long y m k l e q h = by (nat_eq m number && nat_eq k h) refl
    where
      by : (t : Bool) → (nat_eq m number && nat_eq k h) ≡ t → length (put_half y.halves m k l number h) ≡ n
      by true t =
          let two = and_parts (nat_eq m number) (nat_eq k h) t in
          ap length (half_same y.halves m k number h l t) ∙ e ∙ (λ i. length (y.halves (eqb-true m number two.0 i) (eqb-true k h two.1 i))) ∙ q h
      by false t = ap length (half_other y.halves m k number h l t) ∙ q h

  long_carried : (y : Device) (o : Outcome State) → Q y → OnEnd Q (carried y o)
  long_carried y (End s) q = q
  long_carried y (Fault k s) q = tt

  long_load : (r : Name) (p : Place) (y : Device) → Q y → OnEnd Q (prompt_load r p y)
  long_load r (Slow p) y q = unless (load_races y.outstanding p) Race y _ q
  long_load r (Fast m h c) y q = unless (is_away y.outstanding m h) Touched y _ q
  long_load r Outside y q = tt

  long_store : (z : ℤ) (p : Place) (y : Device) → Q y → OnEnd Q (prompt_store z p y)
  long_store z (Slow p) y q = unless (store_races y.outstanding p) Race y _ q
  long_store z (Fast m h c) y q = unless (is_away y.outstanding m h) Touched y _ (half_long y m h (slice_set (y.halves m h) c z) (length-set (y.halves m h) c z) q)
  long_store z Outside y q = tt

  pub long_started : (t : Transfer) (y : Device) → Q y → Q (started t y)
  unfolding started
  long_started t y q = by t.incoming
    where
      by : (b : Bool) → Q (recorded t (if b then copied_in t y else copied_out t y))
      by true = half_long y t.fast t.half (moved_in t y.state.slow (y.halves t.fast t.half)) (length-first_in t y.state.slow (y.halves t.fast t.half) t.count) q
      by false = q

  long_start : (t : Transfer) (y : Device) → Q y → OnEnd Q (prompt_start t y)
  long_start t y q =
      unless (is_started y.outstanding t.tag) Tag y _
      (unless (is_away y.outstanding t.fast t.half) Touched y _
      (unless (start_races y.outstanding t) Race y _ (long_started t y q)))

  long_wait : (o : Option Transfer) (tag count : ℕ) (y : Device) → Q y → OnEnd Q (wait_on o tag count y)
  long_wait None tag count y q = tt
  long_wait (Some t) tag count y q = by (nat_eq t.count count)
    where
      by : (b : Bool) → OnEnd Q (if b then End (record y { outstanding = without tag y.outstanding }) else Fault Shape y)
      by true = q
      by false = tt

  long_action : (a : Action) (y : Device) → NotTaken number a → Q y → OnEnd Q (roomy filler a y)
  unfolding roomy acts
  long_action Known y h q = long_carried y _ q
  long_action (Sets r z) y h q = long_carried y _ q
  long_action (Loads r p) y h q = long_load r p y q
  long_action (Stores x p) y h q = long_store _ p y q
  long_action (RawLoads r home sizes subs) y h q = long_load r (raw_place y.state.registers home sizes subs) y q
  long_action (RawStores x home sizes subs) y h q = long_store _ (raw_place y.state.registers home sizes subs) y q
  long_action (Operates r op bits a b) y h q = long_carried y _ q
  long_action (Converts r kind from to x) y h q = long_carried y _ q
  long_action (Allocates m element sizes) y h q = λ k. ap length (halves_other y.halves m number k (fresh_half filler element sizes) (ne_eqb m number h)) ∙ q k
  long_action (Releases m element sizes) y h q = unless (has_away y.outstanding m) Touched y _ q
  long_action (AllocatesTags first count) y h q = q
  long_action (ReleasesTags first count) y h q = unless (has_started y.outstanding first count) Tag y _ q
  long_action (Starts t) y h q = long_start t y q
  long_action (Waits tag count) y h q = long_wait (record_of tag y.outstanding) tag count y q
  long_action (Faults k) y h q = tt
  long_action Returns y h q = q

  pub long_step : (a : Action) (y : Device) → NotTaken number a → Q y → OnEnd Q (roomy_step filler a y)
  unfolding roomy_step
  long_step a y h q = long_action a (record y { actions = suc y.actions }) h q

  pub long_run : (xs : List Action) (y : Device) → Every (NotTaken number) xs → Q y → OnEnd Q (folded (roomy_step filler) xs y)
  unfolding folded
  long_run [] y h q = q
  long_run (a ∷ xs) y h q = by (roomy_step filler a y) (long_step a y h.0 q) (λ z k. long_run xs z h.1 k)
    where
      by : (o : Outcome Device) → OnEnd Q o → ((z : Device) → Q z → OnEnd Q (folded (roomy_step filler) xs z)) → OnEnd Q (then_do o (folded (roomy_step filler) xs))
      by (End z) q more = more z q
      by (Fault k z) q more = tt
