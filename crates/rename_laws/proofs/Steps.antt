-- One action, from devices that differ in names alone.
use Rattle.std.proofs.Common.{◌≡◌, ℕ, suc, ◌+◌, ℤ, List, [], ◌∷◌, map, refl, sym, ap, subst, Bool, true, false}
use Rattle.std.specs.Prelude.{Option, Some, None, nat_eq, nat_le, if◌then◌else◌}
use Rattle.affine_ast.specs.declared.name.Name.{Name}
use Rattle.affine_ast.specs.declared.types.Element.{Element}
use Rattle.int_ops.specs.Operation.{operation}
use Rattle.int_ops.specs.Cast.{cast_value}
use Rattle.bus_model.specs.declared.step.FaultKind.{FaultKind}
use Rattle.bus_model.specs.declared.step.FaultKind.TheVariants.{Touched, Race, Tag, Capacity, Shape}
use Rattle.bus_model.specs.declared.transfer.Transfer.{Transfer}
use Rattle.direct_meaning.specs.Action.{Home, Place, Slow, Fast, Outside, Operand, Number, Register, Action, Known, Sets, Loads, Stores, RawLoads, RawStores, Operates, Converts, Allocates, Releases, AllocatesTags, ReleasesTags, Starts, Waits, Faults, Returns}
use Rattle.direct_meaning.specs.Static.{place_at}
use Rattle.direct_meaning.specs.Direct.{Outcome, End, Fault, keep, read, raw_place, keep_result, direct_step}
use Rattle.prompt_semantics.specs.Device.{Device, bytes_of, allocated, is_away, has_away, is_started, has_started, load_races, store_races, start_races, copied_in, copied_out, recorded, started, record_of, without}
use Rattle.prompt_semantics.specs.Prompt.{carried, refused, prompt_load, prompt_store, prompt_alloc, prompt_start, wait_on, acts, prompt_step}
use Rattle.placement_texts.specs.Renamed.{operand_named, action_named, KeepsApart}
use Rattle.rename_laws.specs.Law.{SameUnder, SameOutcome}
use Rattle.rename_laws.proofs.Owns.{OwnOp, OwnOps, OwnAct}
use Rattle.rename_laws.proofs.Values.{put_named}

-- the same device with other registers
abbrev pub with_registers : Device → (Name → ℤ) → Device
with_registers x rho = record x { state = record x.state { registers = rho } }

module _ (f : Name → Name) (own : Name → Bool) (apart : KeepsApart f own) where
  abbrev pub Holds : (Name → ℤ) → (Name → ℤ) → Type 0
  Holds rho old = (n : Name) → own n ≡ true → rho (f n) ≡ old n

  pub is_with : (x y : Device) → SameUnder f own x y → y ≡ with_registers x y.state.registers
  is_with x y h = λ i. record {
    state = record { registers = y.state.registers; slow = h.slow i };
    halves = h.halves i;
    live = h.live i;
    outstanding = h.outstanding i;
    actions = h.actions i;
    engine_steps = h.engine_steps i;
    peak = h.peak i;
  }

  same_with : (x : Device) (rho : Name → ℤ) → Holds rho x.state.registers → SameUnder f own x (with_registers x rho)
  same_with x rho r = record { registers = r; slow = refl; halves = refl; live = refl; outstanding = refl; actions = refl; engine_steps = refl; peak = refl }

  same_refused : (b : Bool) (k : FaultKind) (x : Device) (rho : Name → ℤ) (o p : Outcome Device) → Holds rho x.state.registers → SameOutcome f own o p → SameOutcome f own (refused b k x o) (refused b k (with_registers x rho) p)
  same_refused true k x rho o p r h = (refl, same_with x rho r)
  same_refused false k x rho o p r h = h

  -- a name's new value
  same_kept : (x : Device) (rho : Name → ℤ) (n : Name) (z : ℤ) → own n ≡ true → Holds rho x.state.registers
      → SameUnder f own (record x { state = keep n z x.state }) (record (with_registers x rho) { state = keep (f n) z (with_registers x rho).state })
  same_kept x rho n z o r = record {
    registers = put_named f own x.state.registers rho n z z apart o refl r;
    slow = refl;
    halves = refl;
    live = refl;
    outstanding = refl;
    actions = refl;
    engine_steps = refl;
    peak = refl;
  }

  -- ---- what is read
  read_same : (rho old : Name → ℤ) (x : Operand) → Holds rho old → OwnOp own x → read rho (operand_named f x) ≡ read old x
  unfolding read
  read_same rho old (Number z) r o = refl
  read_same rho old (Register n) r o = r n o

  all_read : (rho old : Name → ℤ) (xs : List Operand) → Holds rho old → OwnOps own xs → map (read rho) (map (operand_named f) xs) ≡ map (read old) xs
  all_read rho old [] r o = refl
  all_read rho old (x ∷ xs) r o = λ i. read_same rho old x r o.0 i ∷ all_read rho old xs r o.1 i

  -- ---- each kind of action
  module _ (x : Device) (rho : Name → ℤ) (r : Holds rho x.state.registers) where
    y : Device
    y = with_registers x rho

    same_load : (n : Name) (p : Place) → own n ≡ true → SameOutcome f own (prompt_load n p x) (prompt_load (f n) p (with_registers x rho))
    same_load n (Slow p) o = same_refused (load_races x.outstanding p) Race x rho _ _ r (same_kept x rho n _ o r)
    same_load n (Fast number half cell) o = same_refused (is_away x.outstanding number half) Touched x rho _ _ r (same_kept x rho n _ o r)
    same_load n Outside o = (refl, same_with x rho r)

    same_store : (z : ℤ) (p : Place) → SameOutcome f own (prompt_store z p x) (prompt_store z p (with_registers x rho))
    same_store z (Slow p) = same_refused (store_races x.outstanding p) Race x rho _ _ r (record { registers = r; slow = refl; halves = refl; live = refl; outstanding = refl; actions = refl; engine_steps = refl; peak = refl })
    same_store z (Fast number half cell) = same_refused (is_away x.outstanding number half) Touched x rho _ _ r (record { registers = r; slow = refl; halves = refl; live = refl; outstanding = refl; actions = refl; engine_steps = refl; peak = refl })
    same_store z Outside = (refl, same_with x rho r)

    same_result : (n : Name) (z : Option ℤ) → own n ≡ true → SameOutcome f own (carried x (keep_result n z x.state)) (carried (with_registers x rho) (keep_result (f n) z (with_registers x rho).state))
    same_result n (Some z) o = same_kept x rho n z o r
    same_result n None o = (refl, same_with x rho r)

    same_alloc : (filler : ℤ) (capacity number : ℕ) (element : Element) (sizes : List ℕ) → SameOutcome f own (prompt_alloc filler capacity number element sizes x) (prompt_alloc filler capacity number element sizes (with_registers x rho))
    same_alloc filler capacity number element sizes = by (nat_le (x.live + bytes_of element sizes) capacity)
      where
        by : (t : Bool) → SameOutcome f own (if t then End (allocated filler number element sizes x) else Fault Capacity x)
            (if t then End (allocated filler number element sizes (with_registers x rho)) else Fault Capacity (with_registers x rho))
        by true = record { registers = r; slow = refl; halves = refl; live = refl; outstanding = refl; actions = refl; engine_steps = refl; peak = refl }
        by false = (refl, same_with x rho r)

    same_started : (t : Transfer) → SameUnder f own (started t x) (started t (with_registers x rho))
    unfolding started
    same_started t = by t.incoming
      where
        by : (b : Bool) → SameUnder f own (recorded t (if b then copied_in t x else copied_out t x)) (recorded t (if b then copied_in t (with_registers x rho) else copied_out t (with_registers x rho)))
        by true = record { registers = r; slow = refl; halves = refl; live = refl; outstanding = refl; actions = refl; engine_steps = refl; peak = refl }
        by false = record { registers = r; slow = refl; halves = refl; live = refl; outstanding = refl; actions = refl; engine_steps = refl; peak = refl }

    same_start : (t : Transfer) → SameOutcome f own (prompt_start t x) (prompt_start t (with_registers x rho))
    same_start t =
        same_refused (is_started x.outstanding t.tag) Tag x rho _ _ r
        (same_refused (is_away x.outstanding t.fast t.half) Touched x rho _ _ r
        (same_refused (start_races x.outstanding t) Race x rho _ _ r (same_started t)))

    same_wait : (t : Option Transfer) (tag count : ℕ) → SameOutcome f own (wait_on t tag count x) (wait_on t tag count (with_registers x rho))
    same_wait None tag count = (refl, same_with x rho r)
    same_wait (Some t) tag count = by (nat_eq t.count count)
      where
        by : (b : Bool) → SameOutcome f own (if b then End (record x { outstanding = without tag x.outstanding }) else Fault Shape x)
            (if b then End (record (with_registers x rho) { outstanding = without tag x.outstanding }) else Fault Shape (with_registers x rho))
        by true = record { registers = r; slow = refl; halves = refl; live = refl; outstanding = refl; actions = refl; engine_steps = refl; peak = refl }
        by false = (refl, same_with x rho r)

    -- the same value, or the same place
    store_of : (z w : ℤ) (p : Place) → w ≡ z → SameOutcome f own (prompt_store z p x) (prompt_store w p (with_registers x rho))
    store_of z w p e = subst (λ w. SameOutcome f own (prompt_store z p x) (prompt_store w p (with_registers x rho))) (sym e) (same_store z p)

    store_at : (z w : ℤ) (p q : Place) → w ≡ z → q ≡ p → SameOutcome f own (prompt_store z p x) (prompt_store w q (with_registers x rho))
    store_at z w p q e d = subst (λ q. SameOutcome f own (prompt_store z p x) (prompt_store w q (with_registers x rho))) (sym d) (store_of z w p e)

    load_at : (n : Name) (p q : Place) → own n ≡ true → q ≡ p → SameOutcome f own (prompt_load n p x) (prompt_load (f n) q (with_registers x rho))
    load_at n p q o d = subst (λ q. SameOutcome f own (prompt_load n p x) (prompt_load (f n) q (with_registers x rho))) (sym d) (same_load n p o)

    result_of : (n : Name) (z w : Option ℤ) → own n ≡ true → w ≡ z → SameOutcome f own (carried x (keep_result n z x.state)) (carried (with_registers x rho) (keep_result (f n) w (with_registers x rho).state))
    result_of n z w o e = subst (λ w. SameOutcome f own (carried x (keep_result n z x.state)) (carried (with_registers x rho) (keep_result (f n) w (with_registers x rho).state))) (sym e) (same_result n z o)

    kept_of : (n : Name) (z w : ℤ) → own n ≡ true → w ≡ z → SameUnder f own (record x { state = keep n z x.state }) (record (with_registers x rho) { state = keep (f n) w (with_registers x rho).state })
    kept_of n z w o e = subst (λ w. SameUnder f own (record x { state = keep n z x.state }) (record (with_registers x rho) { state = keep (f n) w (with_registers x rho).state })) (sym e) (same_kept x rho n z o r)

    same_place : (home : Option Home) (sizes : List ℕ) (at : List Operand) → OwnOps own at → raw_place rho home sizes (map (operand_named f) at) ≡ raw_place x.state.registers home sizes at
    same_place home sizes at o = ap (place_at home sizes) (all_read rho x.state.registers at r o)

    acts_same : (filler : ℤ) (capacity : ℕ) (a : Action) → OwnAct own a → SameOutcome f own (acts filler capacity a x) (acts filler capacity (action_named f a) (with_registers x rho))
    unfolding acts direct_step
    acts_same filler capacity Known o = same_with x rho r
    acts_same filler capacity (Sets n z) o = same_kept x rho n z o r
    acts_same filler capacity (Loads n p) o = same_load n p o
    acts_same filler capacity (Stores v p) o = store_of _ _ p (read_same rho x.state.registers v r o)
    acts_same filler capacity (RawLoads n home sizes at) o = load_at n _ _ o.0 (same_place home sizes at o.1)
    acts_same filler capacity (RawStores v home sizes at) o = store_at _ _ _ _ (read_same rho x.state.registers v r o.0) (same_place home sizes at o.1)
    acts_same filler capacity (Operates n op bits a b) o = result_of n _ _ o.0 (λ i. operation op bits (read_same rho x.state.registers a r o.1 i) (read_same rho x.state.registers b r o.2 i))
    acts_same filler capacity (Converts n kind from to v) o = kept_of n _ _ o.0 (ap (cast_value kind from to) (read_same rho x.state.registers v r o.1))
    acts_same filler capacity (Allocates number element sizes) o = same_alloc filler capacity number element sizes
    acts_same filler capacity (Releases number element sizes) o = same_refused (has_away x.outstanding number) Touched x rho _ _ r (record { registers = r; slow = refl; halves = refl; live = refl; outstanding = refl; actions = refl; engine_steps = refl; peak = refl })
    acts_same filler capacity (AllocatesTags first count) o = same_with x rho r
    acts_same filler capacity (ReleasesTags first count) o = same_refused (has_started x.outstanding first count) Tag x rho _ _ r (same_with x rho r)
    acts_same filler capacity (Starts t) o = same_start t
    acts_same filler capacity (Waits tag count) o = same_wait (record_of tag x.outstanding) tag count
    acts_same filler capacity (Faults k) o = (refl, same_with x rho r)
    acts_same filler capacity Returns o = same_with x rho r

  pub step_same : (filler : ℤ) (capacity : ℕ) (a : Action) (x z : Device) → OwnAct own a → SameUnder f own x z → SameOutcome f own (prompt_step filler capacity a x) (prompt_step filler capacity (action_named f a) z)
  unfolding prompt_step
  step_same filler capacity a x z o h =
      subst (λ z. SameOutcome f own (acts filler capacity a (record x { actions = suc x.actions })) (acts filler capacity (action_named f a) (record z { actions = suc z.actions }))) (sym (is_with x z h))
      (acts_same (record x { actions = suc x.actions }) z.state.registers h.registers filler capacity a o)
