-- Taking an action with its operands read is taking the action.
use Rattle.std.proofs.Common.{◌≡◌, ℕ, ℤ, refl}
use Rattle.std.specs.Prelude.{Option, Some, None}
use Rattle.int_ops.specs.Operation.{operation}
use Rattle.direct_meaning.specs.Action.{Action, Known, Sets, Loads, Stores, RawLoads, RawStores, Operates, Converts, Allocates, Releases, AllocatesTags, ReleasesTags, Starts, Waits, Faults, Returns}
use Rattle.direct_meaning.specs.Direct.{read, keep_result, direct_step}
use Rattle.run_parts.specs.Settled.{settled_result, settled}
use Rattle.order_meaning.specs.Machine.{Core, carried, act_on}

module _ (filler : ℤ) (capacity : ℕ) where
  pub settled_does : (a : Action) (x : Core) → act_on filler capacity (settled x.state.registers a) x ≡ act_on filler capacity a x
  unfolding act_on direct_step read
  settled_does Known x = refl
  settled_does (Sets r z) x = refl
  settled_does (Loads r place) x = refl
  settled_does (Stores v place) x = refl
  settled_does (RawLoads r home sizes subscripts) x = refl
  settled_does (RawStores v home sizes subscripts) x = refl
  settled_does (Operates r op bits a b) x = by (operation op bits (read x.state.registers a) (read x.state.registers b))
    where
      by : (o : Option ℤ) → act_on filler capacity (settled_result r o) x ≡ carried x (keep_result r o x.state)
      by (Some z) = refl
      by None = refl
  settled_does (Converts r kind from to v) x = refl
  settled_does (Allocates number element sizes) x = refl
  settled_does (Releases number element sizes) x = refl
  settled_does (AllocatesTags first count) x = refl
  settled_does (ReleasesTags first count) x = refl
  settled_does (Starts t) x = refl
  settled_does (Waits tag count) x = refl
  settled_does (Faults k) x = refl
  settled_does Returns x = refl
