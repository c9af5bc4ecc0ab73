-- An action does the same to two states that agree.
use Rattle.std.proofs.Common.{◌≡◌, ℕ, suc, ◌+◌, ◌<◌, ◌≤◌, ℤ, pos, Bool, true, false, List, length, refl, sym, ap, ◌∙◌, arith, Result, Ok, Err}
use Rattle.std.specs.Prelude.{◌&&◌, Option, Some, None, nat_eq, nat_le, slice_index_or, slice_set, if◌then◌else◌}
use Rattle.affine_ast.specs.declared.name.Name.{Name}
use Rattle.affine_ast.specs.declared.types.Element.{Element}
use Rattle.int_ops.specs.Operation.{operation}
use Rattle.bus_model.specs.Copies.{moved_in, moved_out}
use Rattle.bus_model.specs.declared.step.FaultKind.{FaultKind}
use Rattle.bus_model.specs.declared.step.FaultKind.TheVariants.{Touched, Race, Tag, Capacity, Shape}
use Rattle.bus_model.specs.declared.transfer.Transfer.{Transfer}
use Rattle.direct_meaning.specs.Action.{Place, Slow, Fast, Outside, Action, Known, Sets, Loads, Stores, RawLoads, RawStores, Operates, Converts, Allocates, Releases, AllocatesTags, ReleasesTags, Starts, Waits, Faults, Returns}
use Rattle.direct_meaning.specs.Direct.{Outcome, End, Fault, State, state_of, read, keep, keep_result, raw_place, direct_step}
use Rattle.prompt_semantics.specs.Device.{Device, bytes_of, put_half, put_halves, fresh_half, allocated, released, is_away, has_away, is_started, has_started, load_races, store_races, start_races, copied_in, copied_out, recorded, started, record_of, without}
use Rattle.prompt_semantics.specs.Prompt.{carried, refused, prompt_load, prompt_store, prompt_alloc, wait_on, acts, prompt_step}
use Rattle.prompt_semantics.proofs.Laws.{half_same, half_other, halves_same, halves_other, count_step}
use Rattle.run_parts.specs.declared.effect.Effect.{Effect}
use Rattle.run_parts.specs.declared.effect.Effect.TheVariants as effect
use Rattle.run_parts.specs.Effects.{effect_meant}
use Rattle.run_parts.specs.Settled.{settled_result, settled}
use Rattle.prompt_laws.specs.Costs.{cost}
use Rattle.prompt_laws.specs.Reaches.{HalfIn, PlaceIn, Reaches}
use Rattle.prompt_laws.specs.Rooms.{Room, room_at}
use Rattle.prompt_meaning.specs.Held.{Agrees}
use Rattle.prompt_meaning.specs.Takes.{TakesWithin}

-- ---- taking an action with its operands read is taking the action

module _ (filler : ℤ) (capacity : ℕ) where
  pub settled_acts : (a : Action) (y : Device) → acts filler capacity (settled y.state.registers a) y ≡ acts filler capacity a y
  unfolding acts direct_step read
  settled_acts Known y = refl
  settled_acts (Sets r z) y = refl
  settled_acts (Loads r place) y = refl
  settled_acts (Stores x place) y = refl
  settled_acts (RawLoads r home sizes subscripts) y = refl
  settled_acts (RawStores x home sizes subscripts) y = refl
  settled_acts (Operates r op bits a b) y = by (operation op bits (read y.state.registers a) (read y.state.registers b))
    where
      by : (o : Option ℤ) → acts filler capacity (settled_result r o) y ≡ carried y (keep_result r o y.state)
      by (Some z) = refl
      by None = refl
  settled_acts (Converts r kind from to x) y = refl
  settled_acts (Allocates number element sizes) y = refl
  settled_acts (Releases number element sizes) y = refl
  settled_acts (AllocatesTags first count) y = refl
  settled_acts (ReleasesTags first count) y = refl
  settled_acts (Starts t) y = refl
  settled_acts (Waits tag count) y = refl
  settled_acts (Faults k) y = refl
  settled_acts Returns y = refl

-- ---- halves that agree where they are there

abbrev pub HalvesAgree : List Room → (ℕ → ℕ → List ℤ) → (ℕ → ℕ → List ℤ) → Type 0
HalvesAgree rooms f g = (number h : ℕ) → number < length rooms → h < (room_at rooms number).halves → length (f number h) ≡ (room_at rooms number).cells → f number h ≡ g number h

abbrev pub AgreeIn : List Room → Outcome Device → Outcome Device → Type 0
AgreeIn rooms (End y) (End z) = Agrees rooms y z
AgreeIn rooms (End y) (Fault k z) = ⊥
AgreeIn rooms (Fault k y) (End z) = ⊥
AgreeIn rooms (Fault k y) (Fault j z) = (k ≡ j) × Agrees rooms y z

module _ (rooms : List Room) where
  put_agree : (f g : ℕ → ℕ → List ℤ) (n h : ℕ) (a b : List ℤ) → HalvesAgree rooms f g → a ≡ b → HalvesAgree rooms (put_half f n h a) (put_half g n h b)
  put_agree f g n h a b k e j i there half long = by (nat_eq n j && nat_eq h i) refl
    where
      by : (t : Bool) → (nat_eq n j && nat_eq h i) ≡ t → put_half f n h a j i ≡ put_half g n h b j i
      by true t = half_same f n h j i a t ∙ e ∙ sym (half_same g n h j i b t)
      by false t =
          let o = half_other f n h j i a t in
          o ∙ k j i there half (ap length (sym o) ∙ long) ∙ sym (half_other g n h j i b t)

  put_all_agree : (f g : ℕ → ℕ → List ℤ) (n : ℕ) (a : List ℤ) → HalvesAgree rooms f g → HalvesAgree rooms (put_halves f n a) (put_halves g n a)
  put_all_agree f g n a k j i there half long = by (nat_eq n j) refl
    where
      by : (t : Bool) → nat_eq n j ≡ t → put_halves f n a j i ≡ put_halves g n a j i
      by true t =
          let e : n ≡ j = grind (arith, t) in
          (λ q. put_halves f n a (sym e q) i) ∙ halves_same f n i a ∙ sym (halves_same g n i a) ∙ (λ q. put_halves g n a (e q) i)
      by false t =
          let o = halves_other f n j i a t in
          o ∙ k j i there half (ap length (sym o) ∙ long) ∙ sym (halves_other g n j i a t)

  -- a state, and the same with other halves
  module _ (y : Device) (H : ℕ → ℕ → List ℤ) (g : HalvesAgree rooms y.halves H) where
    abbrev z : Device
    z = record y { halves = H }

    tested : (b : Bool) (k : FaultKind) (go go' : Outcome Device) → AgreeIn rooms go go' → AgreeIn rooms (refused b k y go) (refused b k z go')
    tested true k go go' h = (refl, record { rest = refl; halves = g })
    tested false k go go' h = h

    carried_agree : (o : Outcome State) → AgreeIn rooms (carried y o) (carried z o)
    carried_agree (End s) = record { rest = refl; halves = g }
    carried_agree (Fault k s) = (refl, record { rest = refl; halves = g })

    load_agree : (r : Name) (place : Place) → PlaceIn rooms y place → AgreeIn rooms (prompt_load r place y) (prompt_load r place z)
    load_agree r (Slow place) h = tested (load_races y.outstanding place) Race _ _ (record { rest = refl; halves = g })
    load_agree r (Fast number half cell) h =
        let e = g number half h.0.there h.0.half_there h.0.long in
        tested (is_away y.outstanding number half) Touched _ _
        (record { rest = λ i. record y { state = keep r (slice_index_or (sym e i) cell (pos 0)) y.state; halves = H }; halves = g })
    load_agree r Outside h = (refl, record { rest = refl; halves = g })

    store_agree : (x : ℤ) (place : Place) → PlaceIn rooms y place → AgreeIn rooms (prompt_store x place y) (prompt_store x place z)
    store_agree x (Slow place) h = tested (store_races y.outstanding place) Race _ _ (record { rest = refl; halves = g })
    store_agree x (Fast number half cell) h =
        let e = g number half h.0.there h.0.half_there h.0.long in
        tested (is_away y.outstanding number half) Touched _ _
        (record { rest = refl; halves = put_agree y.halves H number half _ _ g (ap (λ l. slice_set l cell x) e) })
    store_agree x Outside h = (refl, record { rest = refl; halves = g })

    alloc_agree : (filler : ℤ) (capacity number : ℕ) (element : Element) (sizes : List ℕ) → AgreeIn rooms (prompt_alloc filler capacity number element sizes y) (prompt_alloc filler capacity number element sizes z)
    alloc_agree filler capacity number element sizes = by (nat_le (y.live + bytes_of element sizes) capacity)
      where
        by : (t : Bool) → AgreeIn rooms (if t then End (allocated filler number element sizes y) else Fault Capacity y) (if t then End (allocated filler number element sizes z) else Fault Capacity z)
        by true = record { rest = refl; halves = put_all_agree y.halves H number (fresh_half filler element sizes) g }
        by false = (refl, record { rest = refl; halves = g })

    started_agree : (t : Transfer) → HalfIn rooms y.halves t.fast t.half → Agrees rooms (started t y) (started t z)
    unfolding started
    started_agree t h = by t.incoming
      where
        e : y.halves t.fast t.half ≡ H t.fast t.half
        e = g t.fast t.half h.there h.half_there h.long

        by : (b : Bool) → Agrees rooms (recorded t (if b then copied_in t y else copied_out t y)) (recorded t (if b then copied_in t z else copied_out t z))
        by true = record { rest = refl; halves = put_agree y.halves H t.fast t.half _ _ g (ap (moved_in t y.state.slow) e) }
        by false = record { rest = λ i. record (recorded t y) { state = record y.state { slow = moved_out t (sym e i) y.state.slow }; halves = H }; halves = g }

    wait_agree : (o : Option Transfer) (tag count : ℕ) → AgreeIn rooms (wait_on o tag count y) (wait_on o tag count z)
    wait_agree None tag count = (refl, record { rest = refl; halves = g })
    wait_agree (Some t) tag count = by (nat_eq t.count count)
      where
        by : (b : Bool) → AgreeIn rooms (if b then End (record y { outstanding = without tag y.outstanding }) else Fault Shape y) (if b then End (record z { outstanding = without tag z.outstanding }) else Fault Shape z)
        by true = record { rest = refl; halves = g }
        by false = (refl, record { rest = refl; halves = g })

    pub effect_agree : (filler : ℤ) (capacity : ℕ) (names : List Name) (x : Effect) → Reaches rooms (effect_meant names x) y → AgreeIn rooms (acts filler capacity (effect_meant names x) y) (acts filler capacity (effect_meant names x) z)
    unfolding acts
    effect_agree filler capacity names effect.Nothing h = carried_agree _
    effect_agree filler capacity names (effect.Sets r v) h = carried_agree _
    effect_agree filler capacity names (effect.Loads r place) h = load_agree _ _ h
    effect_agree filler capacity names (effect.Stores v place) h = store_agree _ _ h
    effect_agree filler capacity names (effect.Allocates number element sizes) h = alloc_agree filler capacity number element sizes.now
    effect_agree filler capacity names (effect.Releases number element sizes) h = tested (has_away y.outstanding number) Touched _ _ (record { rest = refl; halves = g })
    effect_agree filler capacity names (effect.ReleasesTags first count) h = tested (has_started y.outstanding first count) Tag _ _ (record { rest = refl; halves = g })
    effect_agree filler capacity names (effect.Starts t) h =
        tested (is_started y.outstanding t.tag) Tag _ _
        (tested (is_away y.outstanding t.fast t.half) Touched _ _
        (tested (start_races y.outstanding t) Race _ _ (started_agree t h.half)))
    effect_agree filler capacity names (effect.Waits tag count) h = wait_agree (record_of tag y.outstanding) tag count
    effect_agree filler capacity names (effect.Faults k) h = (refl, record { rest = refl; halves = g })

  pub agrees_self : (y : Device) → Agrees rooms y y
  agrees_self y = record { rest = refl; halves = λ n h t b l. refl }

  pub agrees_twice : (x y z : Device) → Agrees rooms x y → Agrees rooms y z → Agrees rooms x z
  agrees_twice x y z h k = record {
    rest = k.rest ∙ (λ i. record (h.rest i) { halves = z.halves });
    halves = λ n i t b l. let e = h.halves n i t b l in e ∙ k.halves n i t b (ap length (sym e) ∙ l);
  }

  -- two states that agree, and an effect on the second as the code takes it
  pub within_of : (x : Outcome Device) (y : Outcome Device) (result : Result (Unit {0}) FaultKind) (z : Device) → AgreeIn rooms x y → TakesWithin rooms result y z → TakesWithin rooms result x z
  within_of (End x) (End y) (Ok done) z h k = agrees_twice x y z h k
  within_of (End x) (End y) (Err kind) z h k = absurd k
  within_of (End x) (Fault j y) result z h k = absurd h
  within_of (Fault j x) (End y) result z h k = absurd h
  within_of (Fault j x) (Fault i y) (Ok done) z h k = absurd k
  within_of (Fault j x) (Fault i y) (Err kind) z h k = (h.0 ∙ k.0, agrees_twice x y z h.1 k.1)

-- ---- the numbers of a run

steps_refused : (b : Bool) (k : FaultKind) (y : Device) (n : ℕ) (go : Outcome Device) → y.engine_steps ≤ n → (state_of go).engine_steps ≤ n → (state_of (refused b k y go)).engine_steps ≤ n
steps_refused true k y n go h l = h
steps_refused false k y n go h l = l

steps_carried : (y : Device) (o : Outcome State) → (state_of (carried y o)).engine_steps ≤ y.engine_steps
steps_carried y (End s) = omega arith
steps_carried y (Fault k s) = omega arith

steps_load : (r : Name) (p : Place) (y : Device) → (state_of (prompt_load r p y)).engine_steps ≤ y.engine_steps
steps_load r (Slow p) y = steps_refused (load_races y.outstanding p) Race y y.engine_steps _ (omega arith) (omega arith)
steps_load r (Fast number half cell) y = steps_refused (is_away y.outstanding number half) Touched y y.engine_steps _ (omega arith) (omega arith)
steps_load r Outside y = omega arith

steps_store : (x : ℤ) (p : Place) (y : Device) → (state_of (prompt_store x p y)).engine_steps ≤ y.engine_steps
steps_store x (Slow p) y = steps_refused (store_races y.outstanding p) Race y y.engine_steps _ (omega arith) (omega arith)
steps_store x (Fast number half cell) y = steps_refused (is_away y.outstanding number half) Touched y y.engine_steps _ (omega arith) (omega arith)
steps_store x Outside y = omega arith

steps_if : (t : Bool) (a b : Outcome Device) (n : ℕ) → (state_of a).engine_steps ≤ n → (state_of b).engine_steps ≤ n → (state_of (if t then a else b)).engine_steps ≤ n
steps_if true a b n h k = h
steps_if false a b n h k = k

steps_started : (t : Transfer) (y : Device) → (started t y).engine_steps ≤ y.engine_steps + (t.count + 2)
unfolding started
steps_started t y = by t.incoming
  where
    by : (b : Bool) → (recorded t (if b then copied_in t y else copied_out t y)).engine_steps ≤ y.engine_steps + (t.count + 2)
    by true = omega arith
    by false = omega arith

steps_wait : (o : Option Transfer) (tag count : ℕ) (y : Device) → (state_of (wait_on o tag count y)).engine_steps ≤ y.engine_steps
steps_wait None tag count y = omega arith
steps_wait (Some t) tag count y = steps_if (nat_eq t.count count) _ (Fault Shape y) y.engine_steps (omega arith) (omega arith)

module _ (filler : ℤ) (capacity : ℕ) where
  steps_acts : (a : Action) (y : Device) → (state_of (acts filler capacity a y)).engine_steps + 1 ≤ y.engine_steps + cost a
  unfolding acts
  steps_acts Known y = let k = steps_carried y (direct_step Known y.state) in omega (arith, k)
  steps_acts (Sets r x) y = let k = steps_carried y (direct_step (Sets r x) y.state) in omega (arith, k)
  steps_acts (Loads r p) y = let k = steps_load r p y in omega (arith, k)
  steps_acts (Stores x p) y = let k = steps_store (read y.state.registers x) p y in omega (arith, k)
  steps_acts (RawLoads r home sizes subscripts) y = let k = steps_load r (raw_place y.state.registers home sizes subscripts) y in omega (arith, k)
  steps_acts (RawStores x home sizes subscripts) y = let k = steps_store (read y.state.registers x) (raw_place y.state.registers home sizes subscripts) y in omega (arith, k)
  steps_acts (Operates r op bits a b) y = let k = steps_carried y (direct_step (Operates r op bits a b) y.state) in omega (arith, k)
  steps_acts (Converts r kind from to x) y = let k = steps_carried y (direct_step (Converts r kind from to x) y.state) in omega (arith, k)
  steps_acts (Allocates number element sizes) y = let k = steps_if (nat_le (y.live + bytes_of element sizes) capacity) (End (allocated filler number element sizes y)) (Fault Capacity y) y.engine_steps (omega arith) (omega arith) in omega (arith, k)
  steps_acts (Releases number element sizes) y = let k = steps_refused (has_away y.outstanding number) Touched y y.engine_steps (End (released element sizes y)) (omega arith) (omega arith) in omega (arith, k)
  steps_acts (AllocatesTags first count) y = omega arith
  steps_acts (ReleasesTags first count) y = let k = steps_refused (has_started y.outstanding first count) Tag y y.engine_steps (End y) (omega arith) (omega arith) in omega (arith, k)
  steps_acts (Starts t) y =
      let n = y.engine_steps + (t.count + 2) in
      let last = refused (start_races y.outstanding t) Race y (End (started t y)) in
      let k = steps_refused (is_started y.outstanding t.tag) Tag y n (refused (is_away y.outstanding t.fast t.half) Touched y last) (omega arith) (steps_refused (is_away y.outstanding t.fast t.half) Touched y n last (omega arith) (steps_refused (start_races y.outstanding t) Race y n (End (started t y)) (omega arith) (steps_started t y))) in
      omega (arith, k)
  steps_acts (Waits tag count) y = let k = steps_wait (record_of tag y.outstanding) tag count y in omega (arith, k)
  steps_acts (Faults k) y = omega arith
  steps_acts Returns y = omega arith

  -- an action adds no more than its cost
  pub total_rises : (a : Action) (y : Device) → (state_of (prompt_step filler capacity a y)).actions + (state_of (prompt_step filler capacity a y)).engine_steps ≤ y.actions + y.engine_steps + cost a
  unfolding prompt_step
  total_rises a y =
      let k = steps_acts a (record y { actions = suc y.actions }) in
      let c = count_step filler capacity a y in
      omega (arith, k, c)
