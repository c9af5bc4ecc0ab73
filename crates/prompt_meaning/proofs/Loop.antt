-- One action of a run, taken by the code.
use Rattle.std.proofs.Common.{◌≡◌, ℕ, suc, ◌+◌, ◌<◌, ◌≤◌, ◌^◌, ℤ, List, [], ◌∷◌, length, refl, sym, ap, ◌∙◌, subst, arith, Result, Ok, Err}
use Rattle.std.specs.Prelude.{Option, Some, None}
use Rattle.affine_ast.specs.declared.name.Name.{Name}
use Rattle.int_ops.specs.Operation.{operation}
use Rattle.bus_model.specs.Places.{slow_place}
use Rattle.bus_model.specs.declared.step.FaultKind.{FaultKind}
use Rattle.bus_model.specs.declared.step.Verdict.TheVariants as verdict
use Rattle.direct_meaning.specs.Action.{Place, Slow, Fast, Outside, Action, Known, Sets, Loads, Stores, RawLoads, RawStores, Operates, Converts, Allocates, Releases, AllocatesTags, ReleasesTags, Starts, Waits, Faults, Returns}
use Rattle.direct_meaning.specs.Direct.{Outcome, End, Fault, then_do, folded, state_of, read}
use Rattle.direct_meaning.proofs.Laws.{folded-nil, folded-cons}
use Rattle.prompt_semantics.specs.Device as model
use Rattle.prompt_semantics.specs.Prompt.{acts, prompt_step}
use Rattle.walk_actions.specs.declared.action.Action as numbered
use Rattle.walk_actions.specs.declared.action.Operand.{Operand}
use Rattle.walk_actions.specs.Meant.{meant}
use Rattle.run_parts.specs.declared.effect.Effect.{Effect}
use Rattle.run_parts.specs.Effects.{effect_meant}
use Rattle.run_parts.specs.Registered.{values_of}
use Rattle.run_parts.specs.Settled.{settled_result, settled, CanSettle}
use Rattle.prompt_laws.specs.Along.{Along}
use Rattle.prompt_laws.specs.Costs.{cost, costs}
use Rattle.prompt_laws.specs.Reaches.{HalfIn, PlaceIn, Reaches, CanAct, FlightsFit}
use Rattle.prompt_laws.specs.Rooms.{Room}
use Rattle.prompt_meaning.specs.declared.device.Device.{Device}
use Rattle.prompt_meaning.specs.Held.{device_at, Agrees, Reached, Same}
use Rattle.prompt_meaning.specs.Memrefs.{AreRooms}
use Rattle.prompt_meaning.specs.Runs.{StandsAt}
use Rattle.prompt_meaning.specs.Takes.{TakesWithin, EndsWithin}
use Rattle.prompt_meaning.proofs.Agreement.{settled_acts, AgreeIn, effect_agree, within_of, total_rises}

-- what an action reaches in a state, it reaches in one that agrees
module _ (rooms : List Room) (y z : model.Device) (h : Agrees rooms y z) where
  same_slow : y.state.slow ≡ z.state.slow
  same_slow = ap (λ (d : model.Device). d.state.slow) (sym h.rest)

  half_along : (number half : ℕ) → HalfIn rooms y.halves number half → HalfIn rooms z.halves number half
  half_along number half i = record { there = i.there; half_there = i.half_there; long = ap length (sym (h.halves number half i.there i.half_there i.long)) ∙ i.long }

  place_along : (place : Place) → PlaceIn rooms y place → PlaceIn rooms z place
  place_along (Slow place) i = subst (λ (l : List ℤ). place < length l) same_slow i
  place_along (Fast number half cell) i = (half_along number half i.0, i.1)
  place_along Outside i = tt

  pub reaches_along : (a : Action) → Reaches rooms a y → Reaches rooms a z
  reaches_along Known i = i
  reaches_along (Sets r v) i = i
  reaches_along (Loads r place) i = place_along place i
  reaches_along (Stores x place) i = place_along place i
  reaches_along (RawLoads r home sizes subscripts) i = i
  reaches_along (RawStores x home sizes subscripts) i = i
  reaches_along (Operates r op bits a b) i = i
  reaches_along (Converts r kind from to x) i = i
  reaches_along (Allocates number element sizes) i = i
  reaches_along (Releases number element sizes) i = i
  reaches_along (AllocatesTags first count) i = i
  reaches_along (ReleasesTags first count) i = i
  reaches_along (Starts t) i = record {
    half = half_along t.fast t.half i.half;
    inside = i.inside;
    tag_fits = i.tag_fits;
    some = i.some;
    some_chunk = i.some_chunk;
    apart = i.apart;
    places = λ e below. subst (λ (l : List ℤ). slow_place t e < length l) same_slow (i.places e below);
    places_fit = i.places_fit;
  }
  reaches_along (Waits tag count) i = i
  reaches_along (Faults k) i = i
  reaches_along Returns i = i

place_counted : (rooms : List Room) (y : model.Device) (n : ℕ) (place : Place) → PlaceIn rooms y place → PlaceIn rooms (record y { actions = n }) place
place_counted rooms y n (Slow place) i = i
place_counted rooms y n (Fast number half cell) i = i
place_counted rooms y n Outside i = i

-- the count of actions is reached by none
pub counted : (rooms : List Room) (y : model.Device) (n : ℕ) (b : Action) → Reaches rooms b y → Reaches rooms b (record y { actions = n })
counted rooms y n Known i = i
counted rooms y n (Sets r v) i = i
counted rooms y n (Loads r place) i = place_counted rooms y n place i
counted rooms y n (Stores v place) i = place_counted rooms y n place i
counted rooms y n (RawLoads r home sizes subscripts) i = i
counted rooms y n (RawStores v home sizes subscripts) i = i
counted rooms y n (Operates r op bits p q) i = i
counted rooms y n (Converts r kind from to v) i = i
counted rooms y n (Allocates number element sizes) i = i
counted rooms y n (Releases number element sizes) i = i
counted rooms y n (AllocatesTags first count) i = i
counted rooms y n (ReleasesTags first count) i = i
counted rooms y n (Starts t) i = record { half = i.half; inside = i.inside; tag_fits = i.tag_fits; some = i.some; some_chunk = i.some_chunk; apart = i.apart; places = i.places; places_fit = i.places_fit }
counted rooms y n (Waits tag count) i = i
counted rooms y n (Faults k) i = i
counted rooms y n Returns i = i

settled_cost : (values : Name → ℤ) (a : Action) → cost (settled values a) ≤ cost a
settled_cost values Known = omega arith
settled_cost values (Sets r v) = omega arith
settled_cost values (Loads r place) = omega arith
settled_cost values (Stores x place) = omega arith
settled_cost values (RawLoads r home sizes subscripts) = omega arith
settled_cost values (RawStores x home sizes subscripts) = omega arith
settled_cost values (Operates r op bits a b) = by (operation op bits (read values a) (read values b))
  where
    by : (o : Option ℤ) → cost (settled_result r o) ≤ 1
    by (Some v) = omega arith
    by None = omega arith
settled_cost values (Converts r kind from to x) = omega arith
settled_cost values (Allocates number element sizes) = omega arith
settled_cost values (Releases number element sizes) = omega arith
settled_cost values (AllocatesTags first count) = omega arith
settled_cost values (ReleasesTags first count) = omega arith
settled_cost values (Starts t) = omega arith
settled_cost values (Waits tag count) = omega arith
settled_cost values (Faults k) = omega arith
settled_cost values Returns = omega arith

-- an outcome within what the code answers
module _ (rooms : List Room) where
  pub ok_is : (o : Outcome model.Device) (done : Unit {0}) (z : model.Device) → TakesWithin rooms (Ok done) o z → (y : model.Device) × (o ≡ End y) × Agrees rooms y z
  ok_is (End y) done z h = (y, refl, h)
  ok_is (Fault k y) done z h = absurd h

  pub err_is : (o : Outcome model.Device) (kind : FaultKind) (z : model.Device) → TakesWithin rooms (Err kind) o z → (y : model.Device) × (o ≡ Fault kind y) × Agrees rooms y z
  err_is (End y) kind z h = absurd h
  err_is (Fault k y) kind z h = (y, ap (λ j. Fault j y) h.0, h.1)

module _ (rooms : List Room) (y : model.Device) (left more : List Action) (a : Action) (d : Device) (x : Effect) (taken : left ≡ a ∷ more) (st : StandsAt rooms y left d) where
  here : Along (prompt_step d.filler d.capacity) (CanAct rooms d.capacity) (a ∷ more) y
  here = subst (λ xs. Along (prompt_step d.filler d.capacity) (CanAct rooms d.capacity) xs y) taken st.along

  same_values : y.state.registers ≡ values_of d.registers
  same_values = ap (λ (d : model.Device). d.state.registers) (sym st.agrees.rest)

  pub settles_here : CanSettle a (values_of d.registers)
  settles_here = subst (CanSettle a) same_values here.0.settles

  cost_here : y.actions + y.engine_steps + (cost a + costs more) ≤ 2 ^ 60
  cost_here = subst (λ xs. y.actions + y.engine_steps + costs xs ≤ 2 ^ 60) taken st.steps

  module _ (is : effect_meant d.registers.names x ≡ settled (values_of d.registers) a) where
    reached_in : Reaches rooms (effect_meant d.registers.names x) y
    reached_in = subst (λ b. Reaches rooms b y) (ap (λ v. settled v a) same_values ∙ sym is) here.0.reaches

    pub few_here : d.actions + d.engine_steps + cost (effect_meant d.registers.names x) ≤ 2 ^ 60
    few_here =
        let c = settled_cost (values_of d.registers) a in
        let e = ap cost is in
        let p = ap (λ (z : model.Device). z.actions) st.agrees.rest in
        let q = ap (λ (z : model.Device). z.engine_steps) st.agrees.rest in
        let k = cost_here in
        omega (arith, c, e, p, q, k)

    pub reached : Reached d (effect_meant d.registers.names x)
    reached = record {
      rooms = rooms;
      are = st.are;
      reaches = reaches_along rooms y (device_at d) st.agrees (effect_meant d.registers.names x) reached_in;
      live = subst (λ n. n ≤ d.capacity) (ap (λ (z : model.Device). z.live) (sym st.agrees.rest)) here.0.live;
      flights = subst (λ z. z) (λ i. FlightsFit (length (same_slow rooms y (device_at d) st.agrees i)) (sym st.agrees.rest i).outstanding) here.0.flights;
      steps = let k = few_here in omega (arith, k);
      records = st.records;
    }

    pub reaches_here : Reaches rooms (effect_meant d.registers.names x) (device_at d)
    reaches_here = reaches_along rooms y (device_at d) st.agrees (effect_meant d.registers.names x) reached_in

    -- the step on the state, as the code takes it
    step_agrees : AgreeIn rooms (prompt_step d.filler d.capacity (effect_meant d.registers.names x) y) (prompt_step d.filler d.capacity (effect_meant d.registers.names x) (device_at d))
    unfolding prompt_step
    step_agrees = subst (λ z. AgreeIn rooms (acts d.filler d.capacity (effect_meant d.registers.names x) (record y { actions = suc y.actions })) (acts d.filler d.capacity (effect_meant d.registers.names x) (record z { actions = suc z.actions }))) (sym st.agrees.rest)
        (effect_agree rooms (record y { actions = suc y.actions }) (device_at d).halves st.agrees.halves d.filler d.capacity d.registers.names x (counted rooms y (suc y.actions) (effect_meant d.registers.names x) reached_in))

    same_step : prompt_step d.filler d.capacity (effect_meant d.registers.names x) y ≡ prompt_step d.filler d.capacity a y
    unfolding prompt_step
    same_step =
        ap (λ b. acts d.filler d.capacity b (record y { actions = suc y.actions })) (is ∙ ap (λ v. settled v a) (sym same_values))
        ∙ settled_acts d.filler d.capacity a (record y { actions = suc y.actions })

    module _ (result : Result (Unit {0}) FaultKind) (z : model.Device) (takes : TakesWithin rooms result (prompt_step d.filler d.capacity (effect_meant d.registers.names x) (device_at d)) z) where
      pub within : TakesWithin rooms result (prompt_step d.filler d.capacity a y) z
      within = subst (λ o. TakesWithin rooms result o z) same_step (within_of rooms (prompt_step d.filler d.capacity (effect_meant d.registers.names x) y) (prompt_step d.filler d.capacity (effect_meant d.registers.names x) (device_at d)) result z step_agrees takes)

    pub stands_next : (after : Device) (w : model.Device) → prompt_step d.filler d.capacity a y ≡ End w → Agrees rooms w (device_at after) → AreRooms rooms after.fasts.items → Same d after → StandsAt rooms w more after
    stands_next after w e agrees are same = record {
      agrees = agrees;
      along = subst (λ (fc : ℤ × ℕ). Along (prompt_step fc.0 fc.1) (CanAct rooms fc.1) more w) (λ i. (sym same.filler i, sym same.capacity i)) (here.1 w e);
      are = are;
      steps =
          let r = total_rises d.filler d.capacity a y in
          let p = ap (λ (o : Outcome model.Device). (state_of {S = model.Device} o).actions + (state_of {S = model.Device} o).engine_steps) e in
          let k = cost_here in
          omega (arith, r, p, k);
      records = subst (λ n. 65536 ≤ n) (sym same.records) st.records;
    }

  pub folds : (o : Outcome model.Device) → prompt_step d.filler d.capacity a y ≡ o → folded (prompt_step d.filler d.capacity) left y ≡ then_do o (folded (prompt_step d.filler d.capacity) more)
  folds o e = ap (λ xs. folded (prompt_step d.filler d.capacity) xs y) taken ∙ folded-cons (prompt_step d.filler d.capacity) a more y ∙ ap (λ o. then_do o (folded (prompt_step d.filler d.capacity) more)) e

pub ended : (rooms : List Room) (whole : Outcome model.Device) (y z : model.Device) → whole ≡ End y → Agrees rooms y z → EndsWithin rooms verdict.End whole z
ended rooms whole y z e h = subst (λ o. EndsWithin rooms verdict.End o z) (sym e) (record { verdict_is = refl; state_is = h })

pub faulted : (rooms : List Room) (whole : Outcome model.Device) (kind : FaultKind) (y z : model.Device) → whole ≡ Fault kind y → Agrees rooms y z → EndsWithin rooms (verdict.Fault kind) whole z
faulted rooms whole kind y z e h = subst (λ o. EndsWithin rooms (verdict.Fault kind) o z) (sym e) (record { verdict_is = refl; state_is = h })

pub same_twice : (a b c : Device) → Same a b → Same b c → Same a c
same_twice a b c s t = record { names = t.names ∙ s.names; slow = t.slow ∙ s.slow; filler = t.filler ∙ s.filler; capacity = t.capacity ∙ s.capacity; records = t.records ∙ s.records }

-- ---- an action by number, and the effect that is left of it

module _ (names : List Name) (d next : Device) (action : numbered.Action) (subscripts read : List Operand) (named : d.registers.names ≡ names) (same_subscripts : read ≡ subscripts) where
  pub settles : CanSettle (meant names subscripts action) (values_of d.registers) → CanSettle (meant d.registers.names read action) (values_of d.registers)
  settles h = subst (λ a. CanSettle a (values_of d.registers)) (λ i. meant (sym named i) (sym same_subscripts i) action) h

  pub effect_is : (x : Effect) → next ≡ d → effect_meant d.registers.names x ≡ settled (values_of d.registers) (meant d.registers.names read action) → effect_meant next.registers.names x ≡ settled (values_of next.registers) (meant names subscripts action)
  effect_is x back is = ap (λ (e : Device). effect_meant e.registers.names x) back ∙ is ∙ (λ i. settled (values_of (sym back i).registers) (meant (named i) (same_subscripts i) action))

-- the fold with other names for its numbers
pub fold_with : (f g : ℤ) (c e : ℕ) (xs ys : List Action) (y z : model.Device) → f ≡ g → c ≡ e → folded (prompt_step f c) xs y ≡ folded (prompt_step f c) ys z → folded (prompt_step g e) xs y ≡ folded (prompt_step g e) ys z
fold_with f g c e xs ys y z p q h = subst (λ (fc : ℤ × ℕ). folded (prompt_step fc.0 fc.1) xs y ≡ folded (prompt_step fc.0 fc.1) ys z) (λ i. (p i, q i)) h

pub fold_is : (f g : ℤ) (c e : ℕ) (xs : List Action) (y : model.Device) (o : Outcome model.Device) → f ≡ g → c ≡ e → folded (prompt_step f c) xs y ≡ o → folded (prompt_step g e) xs y ≡ o
fold_is f g c e xs y o p q h = subst (λ (fc : ℤ × ℕ). folded (prompt_step fc.0 fc.1) xs y ≡ o) (λ i. (p i, q i)) h

pub none_left : (f : ℤ) (c : ℕ) (xs : List Action) (y : model.Device) → xs ≡ [] → folded (prompt_step f c) xs y ≡ End y
none_left f c xs y e = ap (λ xs. folded (prompt_step f c) xs y) e ∙ folded-nil (prompt_step f c) y
