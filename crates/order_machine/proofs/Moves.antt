-- A step made.
use Rattle.std.proofs.Common.{◌≡◌, ℕ, ◌+◌, ◌<◌, ◌^◌, Bool, true, false, List, [], ◌∷◌, ◌++◌, length, sym, refl, ap, ◌∙◌, subst, arith, Ok, Err}
use Rattle.std.specs.Prelude.{Some, None}
use Rattle.std.specs.Bool.{MatchBool}
use Rattle.bus_model.specs.declared.step.FaultKind.{FaultKind}
use Rattle.bus_model.specs.declared.step.Step.{Step}
use Rattle.bus_model.specs.declared.step.Step.TheVariants.{Compute, Take, Move, Finish}
use Rattle.bus_model.specs.declared.step.Verdict.TheVariants as verdict
use Rattle.direct_meaning.specs.Action.{Action as Meaning}
use Rattle.direct_meaning.specs.Direct.{End, Fault}
use Rattle.prompt_laws.specs.Rooms.{module_rooms}
use Rattle.order_meaning.specs.Machine.{Machine as Model, Enabled, Permitted, CanCompute, engine_step, end_of, settled, act_on, compute_step, after_step}
use Rattle.order_memory.specs.Tied.{Tied, Follows, TakesOrNot, MovesOrNot, FinishesOrNot}
use Rattle.order_machine.specs.declared.machine.Machine.{Machine}
use Rattle.std.proofs.lemmas.List.{length-append}
use Rattle.walk_actions.specs.declared.action.Action.{Action}
use Rattle.walk_actions.specs.Meant.{meant, NamesIn}
use Rattle.order_engines.specs.Flying.{flights_of}
use Rattle.order_memory.specs.Reaches.{CanTake}
use Rattle.order_machine.specs.Standing.{Setting, IsRunOf, IsAt, Stood, Makes, NextIn, stuck, left_of, after}
use Rattle.order_machine.proofs.Along.{run_on, after_both}
use Rattle.order_machine.proofs.Derived.{engines_are, few_steps, can_take}
use Rattle.order_machine.proofs.Lists.{can_compute, cannot}

module _ (s : Setting) (steps : List Step) (m : Machine) (at : Stood s steps m) where
  -- a step that is enabled leads to this state, for which another machine of the code stands
  module _ (step : Step) (enabled : Enabled step (after s steps)) (x : Model) (is : after_step s.filler s.capacity step (after s steps) ≡ x) where
    next_is : after s (steps ++ step ∷ []) ≡ x
    next_is = after_both s.filler s.capacity steps (step ∷ []) _ ∙ is

    next_run : IsRunOf s (steps ++ step ∷ [])
    next_run = run_on s.filler s.capacity steps (step ∷ []) _ at.run (enabled, tt)

    pub stood_next : (m' : Machine) → m'.filler ≡ m.filler → m'.capacity ≡ m.capacity → m'.engines ≡ m.engines → m'.image ≡ m.image → m'.memrefs.items ≡ m.memrefs.items
        → x.verdict ≡ m'.verdict → (x.verdict ≡ None → x.rest ≡ left_of m'.next m'.walk) → m'.memory.registers.names ≡ m'.walk.names → NextIn m'.next m'.walk → Tied (module_rooms s.module_) x.core m'.memory
        → Stood s (steps ++ step ∷ []) m'
    stood_next m' filler capacity engines image memrefs verdict rest names inside tied = record {
      sound = at.sound;
      run = next_run;
      filler = filler ∙ at.filler;
      capacity = capacity ∙ at.capacity;
      engines = engines ∙ at.engines;
      image = image ∙ at.image;
      memrefs = memrefs ∙ at.memrefs;
      verdict = ap (λ (x : Model). x.verdict) next_is ∙ verdict;
      rest = λ e. ap (λ (x : Model). x.rest) next_is ∙ rest (sym (ap (λ (x : Model). x.verdict) next_is) ∙ e);
      names = names;
      inside = inside;
      tied = subst (λ (x : Model). Tied (module_rooms s.module_) x.core m'.memory) (sym next_is) tied;
    }

  -- the same steps, for which a machine with another memory stands
  pub stood_still : (m' : Machine) → m'.filler ≡ m.filler → m'.capacity ≡ m.capacity → m'.engines ≡ m.engines → m'.image ≡ m.image → m'.memrefs.items ≡ m.memrefs.items → m'.verdict ≡ m.verdict → m'.next ≡ m.next → m'.walk ≡ m.walk
      → m'.memory.registers ≡ m.memory.registers → Tied (module_rooms s.module_) (after s steps).core m'.memory → Stood s steps m'
  stood_still m' filler capacity engines image memrefs verdict next walk registers tied = record {
    sound = at.sound;
    run = at.run;
    filler = filler ∙ at.filler;
    capacity = capacity ∙ at.capacity;
    engines = engines ∙ at.engines;
    image = image ∙ at.image;
    memrefs = memrefs ∙ at.memrefs;
    verdict = at.verdict ∙ sym verdict;
    rest = λ e. at.rest e ∙ (λ k. left_of (sym next k) (sym walk k));
    names = ap (λ r. r.names) registers ∙ at.names ∙ ap (λ w. w.names) (sym walk);
    inside = subst (λ z. z) (λ k. NextIn (sym next k) (sym walk k)) at.inside;
    tied = tied;
  }

  module _ (going : m.verdict ≡ None) where
    here : (after s steps).verdict ≡ None
    here = at.verdict ∙ going

    engines_here : (after s steps).engines ≡ m.engines
    engines_here = engines_are s steps at.sound at.run ∙ sym at.engines

    module _ (m' : Machine) (filler : m'.filler ≡ m.filler) (capacity : m'.capacity ≡ m.capacity) (engines : m'.engines ≡ m.engines) (image : m'.image ≡ m.image) (memrefs : m'.memrefs.items ≡ m.memrefs.items)
        (same_verdict : m'.verdict ≡ m.verdict) (next : m'.next ≡ m.next) (walk : m'.walk ≡ m.walk) (registers : m'.memory.registers ≡ m.memory.registers) where
      -- a step of an engine
      by_engine : (step : Step) (done : Bool) (Holds : Type 0) → (Holds → Permitted step (after s steps)) → (Permitted step (after s steps) → Holds)
          → after_step s.filler s.capacity step (after s steps) ≡ record (after s steps) { core = engine_step step (after s steps).core }
          → MatchBool done (Holds × Tied (module_rooms s.module_) (engine_step step (after s steps).core) m'.memory) ((Holds → ⊥) × Tied (module_rooms s.module_) (after s steps).core m'.memory)
          → Makes s steps step done m'
      by_engine step true Holds to from is h =
          let en : Enabled step (after s steps) = record { going = here; permitted = to h.0 } in (
            en,
            stood_next step en (record (after s steps) { core = engine_step step (after s steps).core }) is m' filler capacity engines image memrefs
                (at.verdict ∙ sym same_verdict) (λ e. at.rest e ∙ (λ k. left_of (sym next k) (sym walk k)))
                (ap (λ r. r.names) registers ∙ at.names ∙ ap (λ w. w.names) (sym walk)) (subst (λ z. z) (λ k. NextIn (sym next k) (sym walk k)) at.inside) h.1,
          )
      by_engine step false Holds to from is h = (
        (λ en. h.0 (from en.permitted)),
        stood_still m' filler capacity engines image memrefs same_verdict next walk registers h.1,
      )

      less : (e : ℕ) → e < m.engines → e < (after s steps).engines
      less e l = subst (λ n. e < n) (sym engines_here) l

      more : (e : ℕ) → e < (after s steps).engines → e < m.engines
      more e l = subst (λ n. e < n) engines_here l

      pub take_made : (e t : ℕ) (done : Bool) → TakesOrNot (module_rooms s.module_) m.engines e t done (after s steps).core m'.memory → Makes s steps (Take e t) done m'
      unfolding after_step
      take_made e t done h = by_engine (Take e t) done _ (λ k. (less e k.0, k.1, k.2)) (λ k. (more e k.0, k.1, k.2)) refl h

      pub move_made : (e : ℕ) (done : Bool) → MovesOrNot (module_rooms s.module_) m.engines e done (after s steps).core m'.memory → Makes s steps (Move e) done m'
      unfolding after_step
      move_made e done h = by_engine (Move e) done _ (λ k. (less e k.0, k.1)) (λ k. (more e k.0, k.1)) refl h

      pub finish_made : (e : ℕ) (done : Bool) → FinishesOrNot (module_rooms s.module_) m.engines e done (after s steps).core m'.memory → Makes s steps (Finish e) done m'
      unfolding after_step
      finish_made e done h = by_engine (Finish e) done _ (λ k. (less e k.0, k.1)) (λ k. (more e k.0, k.1)) refl h

    -- ---- the next action

    pub is_free : stuck (left_of m.next m.walk) (after s steps).core.flights ≡ false → CanCompute (after s steps).rest (after s steps).core.flights
    is_free e = subst (λ r. CanCompute r (after s steps).core.flights) (sym (at.rest here)) (can_compute (left_of m.next m.walk) (after s steps).core.flights e)

    pub is_stuck : stuck (left_of m.next m.walk) (after s steps).core.flights ≡ true → Enabled Compute (after s steps) → ⊥
    is_stuck e en = cannot (left_of m.next m.walk) (after s steps).core.flights e (subst (λ r. CanCompute r (after s steps).core.flights) (at.rest here) en.permitted)

    module _ (a : Meaning) (more : List Meaning) (is : left_of m.next m.walk ≡ a ∷ more) (free : stuck (left_of m.next m.walk) (after s steps).core.flights ≡ false) where
      enabled : Enabled Compute (after s steps)
      enabled = record { going = here; permitted = is_free free }

      settles_to : after_step s.filler s.capacity Compute (after s steps) ≡ settled (after s steps).engines more (act_on s.filler s.capacity a (after s steps).core)
      unfolding after_step
      settles_to = ap (λ r. compute_step s.filler s.capacity r (after s steps)) (at.rest here ∙ is)

      module _ (m' : Machine) (filler : m'.filler ≡ m.filler) (capacity : m'.capacity ≡ m.capacity) (engines : m'.engines ≡ m.engines) (image : m'.image ≡ m.image) (memrefs : m'.memrefs.items ≡ m.memrefs.items)
          (names : m'.memory.registers.names ≡ m'.walk.names) (inside : NextIn m'.next m'.walk) where
        pub compute_ends : Follows (module_rooms s.module_) (Ok tt) (act_on s.filler s.capacity a (after s steps).core) m'.memory → m'.verdict ≡ end_of more → more ≡ left_of m'.next m'.walk → Makes s steps Compute true m'
        compute_ends f v left =
            (enabled, stood_next Compute enabled (settled (after s steps).engines more (End f.0)) (settles_to ∙ ap (settled (after s steps).engines more) f.1) m' filler capacity engines image memrefs (sym v) (λ _. left) names inside f.2)

        no_verdict : (k : FaultKind) → Some (verdict.Fault k) ≡ None → ⊥
        no_verdict k e = cc

        pub compute_faults : (kind : FaultKind) → Follows (module_rooms s.module_) (Err kind) (act_on s.filler s.capacity a (after s steps).core) m'.memory → m'.verdict ≡ Some (verdict.Fault kind) → Makes s steps Compute true m'
        compute_faults kind f v =
            (enabled, stood_next Compute enabled (settled (after s steps).engines more (Fault kind f.0)) (settles_to ∙ ap (settled (after s steps).engines more) f.1) m' filler capacity engines image memrefs (sym v) (λ e. absurd (no_verdict kind e)) names inside f.2)

-- ---- a step counted

module _ (s : Setting) (steps : List Step) (m : Machine) (at : IsAt s steps m) (step : Step) where
  pub stayed : (m' : Machine) → m'.steps ≡ m.steps → (Enabled step (after s steps) → ⊥) × Stood s steps m' → (Enabled step (after s steps) → ⊥) × IsAt s steps m'
  stayed m' count h = (h.0, record { stood = h.1; count = count ∙ at.count })

  -- the count of the steps alone is another
  counted : (more : List Step) (m' : Machine) (n : ℕ) → Stood s more m' → n ≡ length more → IsAt s more (record m' { steps = n })
  counted more m' n h e = record {
    stood = record { sound = h.sound; run = h.run; filler = h.filler; capacity = h.capacity; engines = h.engines; image = h.image; memrefs = h.memrefs; verdict = h.verdict; rest = h.rest; names = h.names; inside = h.inside; tied = h.tied };
    count = e;
  }

  pub went : (m' : Machine) (n : ℕ) → m'.steps ≡ m.steps → (m'.steps + 1 < 2 ^ 64 → n ≡ m'.steps + 1) → Enabled step (after s steps) × Stood s (steps ++ step ∷ []) m' → Enabled step (after s steps) × IsAt s (steps ++ step ∷ []) (record m' { steps = n })
  went m' n count sum h =
      let few = few_steps s steps at.stood.sound at.stood.run in
      let here = count ∙ at.count in
      let long = length-append steps (step ∷ []) in
      let e = sum (omega (arith, few, here)) in
      (h.0, counted (steps ++ step ∷ []) m' n h.1 (omega (arith, e, here, long)))

-- ---- the next action of a machine

module _ (s : Setting) (steps : List Step) (m : Machine) (at : Stood s steps m) (going : m.verdict ≡ None) (a : Action) (next : m.next ≡ Some a) (free : stuck (left_of m.next m.walk) (flights_of m.memory.flights.flying.items) ≡ false) where
  abbrev pub next_meant : Meaning
  next_meant = meant m.walk.names m.walk.subscripts a

  left_is : left_of m.next m.walk ≡ next_meant ∷ m.walk.left
  left_is = ap (λ o. left_of o m.walk) next

  free_here : stuck (left_of m.next m.walk) (after s steps).core.flights ≡ false
  free_here = ap (stuck (left_of m.next m.walk)) at.tied.flights ∙ free

  pub next_in : NamesIn (length m.memory.registers.names) m.walk.subscripts a
  next_in = subst (λ ns. NamesIn (length ns) m.walk.subscripts a) (sym at.names) (subst (λ o. NextIn o m.walk) next at.inside)

  can : CanTake (module_rooms s.module_) s.capacity next_meant (after s steps).core
  can = can_take s steps at.sound at.run (at.verdict ∙ going) next_meant m.walk.left (at.rest (at.verdict ∙ going) ∙ left_is)
      (sym (ap (λ l. stuck l (after s steps).core.flights) left_is) ∙ free_here)

  -- by the names and the capacity of the code
  pub next_can : CanTake (module_rooms s.module_) m.capacity (meant m.memory.registers.names m.walk.subscripts a) (after s steps).core
  next_can = subst (λ z. z) (λ k. CanTake (module_rooms s.module_) (sym at.capacity k) (meant (sym at.names k) m.walk.subscripts a) (after s steps).core) can

  same_act : act_on m.filler m.capacity (meant m.memory.registers.names m.walk.subscripts a) (after s steps).core ≡ act_on s.filler s.capacity next_meant (after s steps).core
  same_act = λ k. act_on (at.filler k) (at.capacity k) (meant (at.names k) m.walk.subscripts a) (after s steps).core

  module _ (m' : Machine) (filler : m'.filler ≡ m.filler) (capacity : m'.capacity ≡ m.capacity) (engines : m'.engines ≡ m.engines) (image : m'.image ≡ m.image) (memrefs : m'.memrefs.items ≡ m.memrefs.items)
      (names : m'.memory.registers.names ≡ m'.walk.names) (inside : NextIn m'.next m'.walk) where
    pub next_ends : Follows (module_rooms s.module_) (Ok tt) (act_on m.filler m.capacity (meant m.memory.registers.names m.walk.subscripts a) (after s steps).core) m'.memory → m'.verdict ≡ end_of m.walk.left → m.walk.left ≡ left_of m'.next m'.walk → Makes s steps Compute true m'
    next_ends f v left = compute_ends s steps m at going next_meant m.walk.left left_is free_here m' filler capacity engines image memrefs names inside (subst (λ o. Follows (module_rooms s.module_) (Ok tt) o m'.memory) same_act f) v left

    pub next_faults : (kind : FaultKind) → Follows (module_rooms s.module_) (Err kind) (act_on m.filler m.capacity (meant m.memory.registers.names m.walk.subscripts a) (after s steps).core) m'.memory → m'.verdict ≡ Some (verdict.Fault kind) → Makes s steps Compute true m'
    next_faults kind f v = compute_faults s steps m at going next_meant m.walk.left left_is free_here m' filler capacity engines image memrefs names inside kind (subst (λ o. Follows (module_rooms s.module_) (Err kind) o m'.memory) same_act f) v

-- ---- no action

module _ (s : Setting) (steps : List Step) (m : Machine) (at : Stood s steps m) (going : m.verdict ≡ None) where
  pub held_still : stuck (left_of m.next m.walk) (flights_of m.memory.flights.flying.items) ≡ true → Makes s steps Compute false m
  held_still e = (is_stuck s steps m at going (ap (stuck (left_of m.next m.walk)) at.tied.flights ∙ e), at)

  pub none_left : m.next ≡ None → Makes s steps Compute false m
  none_left e = held_still (ap (λ o. stuck (left_of o m.walk) (flights_of m.memory.flights.flying.items)) e)
