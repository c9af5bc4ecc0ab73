-- One action of a run, taken by the code.
use Rattle.std.proofs.Common.{◌≡◌, ℕ, suc, ℤ, Bool, true, false, List, ◌∷◌, refl, sym, ap, ◌∙◌, subst, arith, Ok, Err}
use Rattle.std.specs.Prelude.{Option, Some, None, nat_eq, if◌then◌else◌}
use Rattle.affine_ast.specs.declared.name.Name.{Name}
use Rattle.int_ops.specs.Operation.{operation}
use Rattle.bus_model.specs.declared.step.FaultKind.{FaultKind}
use Rattle.bus_model.specs.declared.step.Verdict.TheVariants as verdict
use Rattle.direct_meaning.specs.Action.{Action, Known, Sets, Loads, Stores, RawLoads, RawStores, Operates, Converts, Allocates, Releases, AllocatesTags, ReleasesTags, Starts, Waits, Faults, Returns}
use Rattle.direct_meaning.specs.Direct.{Outcome, End, Fault, then_do, folded, read}
use Rattle.direct_meaning.proofs.Laws.{folded-cons}
use Rattle.prompt_semantics.specs.Device as model
use Rattle.prompt_semantics.specs.Prompt.{acts, prompt_step}
use Rattle.walk_actions.specs.declared.action.Action as numbered
use Rattle.walk_actions.specs.declared.action.Operand.{Operand}
use Rattle.walk_actions.specs.Meant.{meant}
use Rattle.run_parts.specs.declared.effect.Effect.{Effect}
use Rattle.run_parts.specs.Effects.{effect_meant}
use Rattle.run_parts.specs.Registered.{values_of}
use Rattle.run_parts.specs.Settled.{settled_result, settled, CanSettle}
use Rattle.prompt_laws.specs.Along.{Along}
use Rattle.prompt_laws.specs.Reaches.{Reaches, CanAct}
use Rattle.prompt_laws.specs.Rooms.{Room}
use Rattle.prompt_meaning.proofs.Agreement.{settled_acts}
use Rattle.prompt_meaning.proofs.Loop.{counted}
use Rattle.order_meaning.specs.Orderly.{with_room, rooms_after, IsOrdered, IsOrderly}
use Rattle.order_meaning.proofs.Flights.{none_some}
use Rattle.tag_table.specs.Shapes.{BusShape}
use Rattle.overlap_memory.specs.Tied.{FastShape}
use Rattle.transfer_laws.specs.Law.{StartsWithin, AllWithin}
use Rattle.overlap_runner.specs.declared.device.Device.{Device}
use Rattle.overlap_runner.specs.Follow.{Follows, Same}
use Rattle.overlap_runner.specs.Held.{At, IsRoomed, Ready, shape_after}
use Rattle.overlap_runner.specs.Rooms.{AreRooms}
use Rattle.overlap_runner.specs.Runs.{StandsAt, Comes}
use Rattle.overlap_runner.proofs.Ties.{retied}

same_some : (a b : ℕ) → Some a ≡ Some b → a ≡ b
same_some a b e = cc

-- ---- what is allocated

module _ (shape : FastShape) (values : Name → ℤ) where
  shape_result : (r : Name) (o : Option ℤ) → shape_after shape (settled_result r o) ≡ shape
  shape_result r (Some z) = refl
  shape_result r None = refl

  -- reading the operands changes nothing of it
  pub shape_settled : (a : Action) → shape_after shape (settled values a) ≡ shape_after shape a
  shape_settled Known = refl
  shape_settled (Sets r z) = refl
  shape_settled (Loads r place) = refl
  shape_settled (Stores x place) = refl
  shape_settled (RawLoads r home sizes subscripts) = refl
  shape_settled (RawStores x home sizes subscripts) = refl
  shape_settled (Operates r op bits a b) = shape_result r (operation op bits (read values a) (read values b))
  shape_settled (Converts r kind from to x) = refl
  shape_settled (Allocates number element sizes) = refl
  shape_settled (Releases number element sizes) = refl
  shape_settled (AllocatesTags first count) = refl
  shape_settled (ReleasesTags first count) = refl
  shape_settled (Starts t) = refl
  shape_settled (Waits tag count) = refl
  shape_settled (Faults k) = refl
  shape_settled Returns = refl

module _ (bus : BusShape) (rooms : List Room) (shape : FastShape) (are : AreRooms rooms shape) (values : Name → ℤ) where
  roomed_result : (r : Name) (o : Option ℤ) → IsRoomed bus shape (settled_result r o)
  roomed_result r (Some z) = tt
  roomed_result r None = tt

  pub roomed_of : (a : Action) (more : List Action) → IsOrdered bus.words shape.rooms a more → StartsWithin bus.tags a → IsRoomed bus shape (settled values a)
  roomed_of Known more h k = tt
  roomed_of (Sets r z) more h k = tt
  roomed_of (Loads r place) more h k = tt
  roomed_of (Stores x place) more h k = tt
  roomed_of (RawLoads r home sizes subscripts) more h k = tt
  roomed_of (RawStores x home sizes subscripts) more h k = tt
  roomed_of (Operates r op bits a b) more h k = roomed_result r (operation op bits (read values a) (read values b))
  roomed_of (Converts r kind from to x) more h k = tt
  roomed_of (Allocates number element sizes) more h k = h
  roomed_of (Releases number element sizes) more h k = tt
  roomed_of (AllocatesTags first count) more h k = tt
  roomed_of (ReleasesTags first count) more h k = tt
  roomed_of (Starts t) more h k = (h.0.allocated ∙ ap Some (are.known t.fast h.0.cells h.0.allocated), k)
  roomed_of (Waits tag count) more h k = tt
  roomed_of (Faults f) more h k = tt
  roomed_of Returns more h k = tt

  module _ (y : model.Device) where
    -- the rooms of an allocation are those of its sizes
    pub rooms_same : (a : Action) → Reaches rooms (settled values a) y → (shape_after shape a).rooms ≡ rooms_after shape.rooms a
    rooms_same Known h = refl
    rooms_same (Sets r z) h = refl
    rooms_same (Loads r place) h = refl
    rooms_same (Stores x place) h = refl
    rooms_same (RawLoads r home sizes subscripts) h = refl
    rooms_same (RawStores x home sizes subscripts) h = refl
    rooms_same (Operates r op bits a b) h = refl
    rooms_same (Converts r kind from to x) h = refl
    rooms_same (Allocates number element sizes) h = ap (λ c. with_room shape.rooms number (Some c)) (are.cells number ∙ ap (λ (r : Room). r.cells) h.room)
    rooms_same (Releases number element sizes) h = refl
    rooms_same (AllocatesTags first count) h = refl
    rooms_same (ReleasesTags first count) h = refl
    rooms_same (Starts t) h = refl
    rooms_same (Waits tag count) h = refl
    rooms_same (Faults f) h = refl
    rooms_same Returns h = refl

  known_with : (number n : ℕ) (room : Option ℕ) (c : ℕ) → ((c : ℕ) → room ≡ Some c → c ≡ shape.cells number) → with_room shape.rooms number room n ≡ Some c → c ≡ shape.cells n
  known_with number n room c h e = by (nat_eq number n) refl e
    where
      by : (t : Bool) → nat_eq number n ≡ t → (if t then room else shape.rooms n) ≡ Some c → c ≡ shape.cells n
      by true t e = let q : number ≡ n = grind (arith, t) in h c e ∙ ap shape.cells q
      by false t e = are.known n c e

  pub are_next : (a : Action) → AreRooms rooms (shape_after shape a)
  are_next (Allocates number element sizes) = record { count = are.count; cells = are.cells; halves = are.halves; known = λ n c e. known_with number n (Some (shape.cells number)) c (λ c e. sym (same_some (shape.cells number) c e)) e }
  are_next (Releases number element sizes) = record { count = are.count; cells = are.cells; halves = are.halves; known = λ n c e. known_with number n None c (λ c e. absurd (none_some None c refl e)) e }
  are_next Known = are
  are_next (Sets r z) = are
  are_next (Loads r place) = are
  are_next (Stores x place) = are
  are_next (RawLoads r home sizes subscripts) = are
  are_next (RawStores x home sizes subscripts) = are
  are_next (Operates r op bits a b) = are
  are_next (Converts r kind from to x) = are
  are_next (AllocatesTags first count) = are
  are_next (ReleasesTags first count) = are
  are_next (Starts t) = are
  are_next (Waits tag count) = are
  are_next (Faults f) = are
  are_next Returns = are

-- ---- an action

module _ (bus : BusShape) (rooms : List Room) (shape : FastShape) (y : model.Device) (left more : List Action) (a : Action) (d : Device) (x : Effect) (taken : left ≡ a ∷ more) (st : StandsAt bus rooms shape y left d) where
  here : Along (prompt_step d.filler d.capacity) (CanAct rooms d.capacity) (a ∷ more) y
  here = subst (λ xs. Along (prompt_step d.filler d.capacity) (CanAct rooms d.capacity) xs y) taken st.along

  ordered : IsOrderly bus.words shape.rooms (a ∷ more)
  ordered = subst (IsOrderly bus.words shape.rooms) taken st.orderly

  within : AllWithin bus.tags (a ∷ more)
  within = subst (AllWithin bus.tags) taken st.within

  pub settles_here : CanSettle a (values_of d.registers)
  settles_here = subst (CanSettle a) (sym st.at.registers) here.0.settles

  abbrev now : model.Device
  now = record y { actions = suc y.actions }

  module _ (is : effect_meant d.registers.names x ≡ settled (values_of d.registers) a) where
    same : effect_meant d.registers.names x ≡ settled y.state.registers a
    same = is ∙ ap (λ v. settled v a) st.at.registers

    pub ready : Ready bus rooms shape d now (effect_meant d.registers.names x)
    ready = record {
      at = record { tied = retied bus shape d.memory y y.state.registers (suc y.actions) st.at.tied; registers = st.at.registers };
      are = st.are;
      reaches = counted rooms y (suc y.actions) (effect_meant d.registers.names x) (subst (λ b. Reaches rooms b y) (sym same) here.0.reaches);
      roomed = subst (IsRoomed bus shape) (sym same) (roomed_of bus rooms shape st.are y.state.registers a more ordered.0 within.0);
    }

    -- the step of the meaning is what the effect does
    same_step : prompt_step d.filler d.capacity a y ≡ acts d.filler d.capacity (effect_meant d.registers.names x) now
    unfolding prompt_step
    same_step = sym (settled_acts d.filler d.capacity a now) ∙ ap (λ b. acts d.filler d.capacity b now) (sym same)

    abbrev after : FastShape
    after = shape_after shape (effect_meant d.registers.names x)

    shape_is : after ≡ shape_after shape a
    shape_is = ap (shape_after shape) same ∙ shape_settled shape y.state.registers a

    pub done : (e : Device) → Follows bus shape after (Ok tt) (acts d.filler d.capacity (effect_meant d.registers.names x) now) e → (w : model.Device) × (prompt_step d.filler d.capacity a y ≡ End w) × At bus (shape_after shape a) e w
    done e h = (h.0, same_step ∙ h.1, subst (λ s. At bus s e h.0) shape_is h.2)

    pub faulted_here : (kind : FaultKind) (e : Device) → Follows bus shape after (Err kind) (acts d.filler d.capacity (effect_meant d.registers.names x) now) e → (w : model.Device) × (prompt_step d.filler d.capacity a y ≡ Fault kind w) × At bus shape e w
    faulted_here kind e h = (h.0, same_step ∙ h.1, h.2)

  pub stands_next : (e : Device) (w : model.Device) → prompt_step d.filler d.capacity a y ≡ End w → At bus (shape_after shape a) e w → Same d e → StandsAt bus rooms (shape_after shape a) w more e
  stands_next e w step at same = record {
    at = at;
    are = are_next bus rooms shape st.are y.state.registers a;
    along = subst (λ (fc : ℤ × ℕ). Along (prompt_step fc.0 fc.1) (CanAct rooms fc.1) more w) (λ i. (sym same.filler i, sym same.capacity i)) (here.1 w step);
    orderly = subst (λ r. IsOrderly bus.words r more) (sym (rooms_same bus rooms shape st.are y.state.registers y a here.0.reaches)) ordered.1;
    within = within.1;
  }

  pub folds : (o : Outcome model.Device) → prompt_step d.filler d.capacity a y ≡ o → folded (prompt_step d.filler d.capacity) left y ≡ then_do o (folded (prompt_step d.filler d.capacity) more)
  folds o e = ap (λ xs. folded (prompt_step d.filler d.capacity) xs y) taken ∙ folded-cons (prompt_step d.filler d.capacity) a more y ∙ ap (λ o. then_do o (folded (prompt_step d.filler d.capacity) more)) e

-- ---- ends

module _ (bus : BusShape) (shape : FastShape) (d : Device) (y : model.Device) (at : At bus shape d y) (whole : Outcome model.Device) where
  pub ended : whole ≡ End y → Comes bus verdict.End whole d
  ended e = subst (λ o. Comes bus verdict.End o d) (sym e) (record { verdict_is = refl; shape = shape; at = at })

  pub stopped : (kind : FaultKind) → whole ≡ Fault kind y → Comes bus (verdict.Fault kind) whole d
  stopped kind e = subst (λ o. Comes bus (verdict.Fault kind) o d) (sym e) (record { verdict_is = refl; shape = shape; at = at })

pub same_twice : (a b c : Device) → Same a b → Same b c → Same a c
same_twice a b c s t = record { names = t.names ∙ s.names; filler = t.filler ∙ s.filler; capacity = t.capacity ∙ s.capacity }

-- ---- an action by number, and the effect that is left of it

module _ (names : List Name) (d next : Device) (action : numbered.Action) (subscripts read : List Operand) (named : d.registers.names ≡ names) (same_subscripts : read ≡ subscripts) where
  pub settles : CanSettle (meant names subscripts action) (values_of d.registers) → CanSettle (meant d.registers.names read action) (values_of d.registers)
  settles h = subst (λ a. CanSettle a (values_of d.registers)) (λ i. meant (sym named i) (sym same_subscripts i) action) h

  pub effect_is : (x : Effect) → next ≡ d → effect_meant d.registers.names x ≡ settled (values_of d.registers) (meant d.registers.names read action) → effect_meant next.registers.names x ≡ settled (values_of next.registers) (meant names subscripts action)
  effect_is x back is = ap (λ (e : Device). effect_meant e.registers.names x) back ∙ is ∙ (λ i. settled (values_of (sym back i).registers) (meant (named i) (same_subscripts i) action))
