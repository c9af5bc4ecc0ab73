-- Each action that isn't held up does the same on both sides.
use Rattle.std.proofs.Common.{◌≡◌, ℕ, ℤ, Bool, true, false, List, ◌∷◌, sym, refl, ap, ◌∙◌, subst}
use Rattle.std.specs.Prelude.{None, nat_eq}
use Rattle.int_ops.specs.Operation.{operation}
use Rattle.int_ops.specs.Cast.{cast_value}
use Rattle.direct_meaning.specs.Action.{Action, Known, Sets, Loads, Stores, RawLoads, RawStores, Operates, Converts, Allocates, Releases, AllocatesTags, ReleasesTags, Starts, Waits, Faults, Returns}
use Rattle.direct_meaning.specs.Direct.{raw_place, read, direct_step}
use Rattle.prompt_semantics.specs.Device.{Device, has_away, record_of}
use Rattle.prompt_semantics.specs.Prompt.{acts, prompt_load, prompt_store}
use Rattle.order_meaning.specs.Machine.{Core, is_held_up, act_on, load}
use Rattle.order_meaning.specs.Orderly.{Rooms}
use Rattle.order_meaning.specs.Agree.{Agree}
use Rattle.order_meaning.proofs.Flights.{none_some, any_found, record_of_flight}
use Rattle.order_meaning.proofs.Sides.{same_number}
use Rattle.order_meaning.proofs.Ordinary.{Same, same_fault, same_rest, same_keep, same_result, same_load, same_store, same_allocate, same_release, same_tags}
use Rattle.order_meaning.proofs.StartsAndWaits.{same_start, same_wait}
use Rattle.order_meaning.proofs.Roomy.{Roomy, start_fits}

module _ (n : ℕ) (x : Core) (y : Device) (a : Agree n x y) (slow : ℕ) (rooms : Rooms) (more : List Action) where
  -- what isn't allocated no transfer names
  none_named : (number : ℕ) (b : Action) → Roomy slow rooms (b ∷ more) y → rooms number ≡ None → has_away y.outstanding number ≡ false
  none_named number b r none = by (has_away y.outstanding number) refl
    where
      by : (c : Bool) → has_away y.outstanding number ≡ c → has_away y.outstanding number ≡ false
      by false e = e
      by true e =
          let f = any_found (λ t. nat_eq t.fast number) y.outstanding a.tags_apart e in
          let s = r.outstanding f.transfer.tag f.transfer f.on_record in
          absurd (none_some (rooms f.transfer.fast) s.fits.cells (ap rooms (same_number f.transfer.fast number f.passes) ∙ none) s.fits.allocated)

  pub same_act : (filler : ℤ) (capacity : ℕ) (b : Action) → Roomy slow rooms (b ∷ more) y → is_held_up b x.flights ≡ false → Same n x y (act_on filler capacity b x) (acts filler capacity b y)
  unfolding act_on acts direct_step
  same_act filler capacity Known r may = same_rest n x y a
  same_act filler capacity (Sets v z) r may = same_keep n x y a v z z refl
  same_act filler capacity (Loads v p) r may = same_load n x y a v p
  same_act filler capacity (Stores v p) r may = same_store n x y a _ _ p (λ i. read (a.registers i) v)
  same_act filler capacity (RawLoads v home sizes subscripts) r may =
      subst (λ p. Same n x y (load v (raw_place x.state.registers home sizes subscripts) x) (prompt_load v p y)) (λ i. raw_place (a.registers i) home sizes subscripts) (same_load n x y a v (raw_place x.state.registers home sizes subscripts))
  same_act filler capacity (RawStores v home sizes subscripts) r may =
      subst (λ p. Same n x y (act_on filler capacity (RawStores v home sizes subscripts) x) (prompt_store (read y.state.registers v) p y)) (λ i. raw_place (a.registers i) home sizes subscripts)
      (same_store n x y a (read x.state.registers v) (read y.state.registers v) (raw_place x.state.registers home sizes subscripts) (λ i. read (a.registers i) v))
  same_act filler capacity (Operates v op bits p q) r may = same_result n x y a v _ _ (λ i. operation op bits (read (a.registers i) p) (read (a.registers i) q))
  same_act filler capacity (Converts v kind from to p) r may = same_keep n x y a v _ _ (λ i. cast_value kind from to (read (a.registers i) p))
  same_act filler capacity (Allocates number element sizes) r may = same_allocate n x y a filler capacity number element sizes (none_named number (Allocates number element sizes) r r.orderly.0)
  same_act filler capacity (Releases number element sizes) r may = same_release n x y a number element sizes
  same_act filler capacity (AllocatesTags first count) r may = same_rest n x y a
  same_act filler capacity (ReleasesTags first count) r may = same_tags n x y a first count
  same_act filler capacity (Starts t) r may = same_start n x y a t (start_fits slow rooms more y t r)
  same_act filler capacity (Waits tag count) r may = same_wait n x y a tag count (λ f here. (r.outstanding tag f.transfer (ap (record_of tag) (sym a.records) ∙ record_of_flight x.flights tag f here)).fits.some_element) may
  same_act filler capacity (Faults k) r may = same_fault n x y a k
  same_act filler capacity Returns r may = same_rest n x y a
