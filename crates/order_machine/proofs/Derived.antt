-- What is known of a state of a run of a valid module's machine.
use Rattle.std.proofs.Common.{◌≡◌, ℕ, ℤ, ◌+◌, ◌<◌, ◌≤◌, ◌^◌, false, List, [], ◌∷◌, length, sym, ap, ◌∙◌, subst, arith}
use Rattle.std.specs.Prelude.{Option, Some, None}
use Rattle.bus_model.specs.declared.step.Step.{Step}
use Rattle.direct_meaning.specs.Action.{Action}
use Rattle.direct_meaning.specs.Direct.{Outcome, End, Fault, then_do, folded, first_state, state_of}
use Rattle.bus_model.specs.declared.step.Verdict.{Verdict}
use Rattle.bus_model.specs.declared.step.Verdict.TheVariants as verdict
use Rattle.direct_meaning.specs.Memory.{module_actions, slow_list}
use Rattle.direct_meaning.specs.Work.{work}
use Rattle.prompt_semantics.specs.Device.{Device}
use Rattle.prompt_semantics.specs.Prompt.{prompt_step, first_device, prompt, prompt_slow}
use Rattle.run_laws.specs.StaysFitting.{refilled}
use Rattle.run_parts.specs.Settled.{CanSettle}
use Rattle.prompt_laws.specs.Along.{Along}
use Rattle.prompt_laws.specs.Costs.{cost, costs}
use Rattle.prompt_laws.specs.Law.{RunsPromptly}
use Rattle.prompt_laws.specs.Reaches.{CanAct, FlightsFit}
use Rattle.prompt_laws.specs.Rooms.{Room, module_rooms}
use Rattle.prompt_laws.proofs.Conclusions.{runs_promptly}
use Rattle.prompt_meaning.proofs.Agreement.{total_rises}
use Rattle.run_laws.proofs.Memories.{memory_cells}
use Rattle.order_laws.proofs.Valid.{valid_orderly}
use Rattle.order_meaning.specs.Machine.{transfers_of, is_held_up}
use Rattle.order_meaning.specs.Run.{all_left}
use Rattle.order_meaning.specs.Law.{promptly}
use Rattle.order_meaning.proofs.Numbers.{total}
use Rattle.order_meaning.proofs.Runs.{Going, Goes, IsSomeAction, Possible, possible, not_past}
use Rattle.order_memory.specs.Reaches.{CanTake}
use Rattle.order_machine.specs.Standing.{Setting, IsSound, IsRunOf, first_of, after}
use Rattle.order_machine.proofs.Along.{Derived, derive, starts}
use Rattle.order_machine.proofs.Reaching.{can_do}

-- a list of actions takes no more steps than its costs
module _ (filler : ℤ) (capacity : ℕ) where
  all_rise : (xs : List Action) (y : Device) → total (state_of (folded (prompt_step filler capacity) xs y)) ≤ total y + costs xs
  unfolding folded
  all_rise [] y = omega arith
  all_rise (a ∷ xs) y = by (prompt_step filler capacity a y) (total_rises filler capacity a y) (λ z. all_rise xs z)
    where
      by : (p : Outcome Device) → (state_of p).actions + (state_of p).engine_steps ≤ y.actions + y.engine_steps + cost a
          → ((z : Device) → total (state_of (folded (prompt_step filler capacity) xs z)) ≤ total z + costs xs)
          → total (state_of (then_do p (folded (prompt_step filler capacity) xs))) ≤ total y + (cost a + costs xs)
      by (End z) l more = let k = more z in sum z.actions z.engine_steps y.actions y.engine_steps (cost a) (costs xs) (total (state_of (folded (prompt_step filler capacity) xs z))) l k
        where
          sum : (za ze ya ye c cs t : ℕ) → za + ze ≤ ya + ye + c → t ≤ za + ze + cs → t ≤ ya + ye + (c + cs)
          sum za ze ya ye c cs t p q = omega (arith, p, q)
      by (Fault k z) l more = sum z.actions z.engine_steps y.actions y.engine_steps (cost a) (costs xs) l
        where
          sum : (za ze ya ye c cs : ℕ) → za + ze ≤ ya + ye + c → za + ze ≤ ya + ye + (c + cs)
          sum za ze ya ye c cs p = omega (arith, p)

module _ (s : Setting) (steps : List Step) (sound : IsSound s) (run : IsRunOf s steps) where
  abbrev actions : List Action
  actions = module_actions s.module_ s.memory.symbols

  abbrev slow : ℕ
  slow = length (first_state s.memory).slow

  abbrev outcome : Outcome Device
  outcome = promptly s.filler s.capacity actions s.memory

  abbrev rooms : List Room
  rooms = module_rooms s.module_

  law : RunsPromptly s.module_ s.memory s.filler s.capacity
  law = runs_promptly s.module_ sound.valid s.memory sound.fits s.filler s.capacity

  pub derived : Derived s.filler s.capacity slow outcome rooms (first_of s) (after s steps) (first_device s.memory) (length steps)
  derived = derive s.filler s.capacity slow outcome rooms steps (first_of s) (first_device s.memory)
      (starts s.filler s.capacity actions s.memory s.engines sound.some_engine (valid_orderly s.module_ sound.valid s.memory sound.fits)) (λ _. law.runs) run

  pub engines_are : (after s steps).engines ≡ s.engines
  engines_are = derived.engines

  -- so many steps are counted exactly
  pub few_steps : length steps ≤ 2 ^ 48
  few_steps =
      let d = derived in
      let c = d.counted in
      let p = not_past s.filler s.capacity slow outcome (after s steps) d.device d.stands in
      let k = all_rise s.filler s.capacity actions (first_device s.memory) in
      let w = sound.work in
      let f = law.costs_fit (below (work s.module_) w) in
      sum (length steps) (all_left (after s steps).core.flights) (total d.device) (total (state_of outcome)) (costs actions) (work s.module_) c p k f w
    where
      below : (w : ℕ) → w ≤ 2 ^ 48 → w < 2 ^ 127
      below w l = omega (arith, l)

      sum : (n l t u c w : ℕ) → n + l + (0 + 0) ≡ 0 + t → t ≤ u → u ≤ 0 + 0 + c → c ≤ w → w ≤ 2 ^ 48 → n ≤ 2 ^ 48
      sum n l t u c w p q r f g = omega (arith, p, q, r, f, g)

  module _ (going : (after s steps).verdict ≡ None) where
    goes : Going s.filler s.capacity slow outcome (after s steps).rest derived.device
    goes = subst (λ v. Goes s.filler s.capacity slow outcome v (after s steps).rest derived.device) going derived.stands.goes

    along : Along (prompt_step s.filler s.capacity) (CanAct rooms s.capacity) (after s steps).rest derived.device
    along = derived.onward going

    -- the outstanding transfers fit
    pub flights_fit : FlightsFit (length (after s steps).core.state.slow) (transfers_of (after s steps).core.flights)
    flights_fit = by (after s steps).rest goes.some along
      where
        by : (rest : List Action) → IsSomeAction rest → Along (prompt_step s.filler s.capacity) (CanAct rooms s.capacity) rest derived.device → FlightsFit (length (after s steps).core.state.slow) (transfers_of (after s steps).core.flights)
        by [] some a = absurd some
        by (b ∷ more) some a = subst (λ z. z) (λ k. FlightsFit (sym derived.stands.agree.bus.long k) (sym derived.stands.agree.records k)) a.0.flights

    -- the next action, unless it is held up, can be taken
    pub can_take : (a : Action) (more : List Action) → (after s steps).rest ≡ a ∷ more → is_held_up a (after s steps).core.flights ≡ false → CanTake rooms s.capacity a (after s steps).core
    can_take a more e may =
        let g = subst (λ r. Going s.filler s.capacity slow outcome r derived.device) e goes in
        let c = (subst (λ r. Along (prompt_step s.filler s.capacity) (CanAct rooms s.capacity) r derived.device) e along).0 in
        record {
          settles = subst (λ v. CanSettle a v) (sym derived.stands.agree.registers) c.settles;
          can = can_do (after s steps).engines (after s steps).core derived.device derived.stands.agree rooms slow g.rooms a more g.roomy may s.capacity c;
        }

    -- some step is enabled
    pub some_step : Possible s.filler s.capacity slow outcome (after s steps)
    some_step = possible s.filler s.capacity slow outcome (after s steps) derived.device derived.stands going (subst (λ n. 1 ≤ n) (sym engines_are) sound.some_engine)

  -- the slow memory is as long as at the start
  after_long : (y : Device) → y ≡ state_of outcome → length y.state.slow ≡ length (slow_list s.memory.memrefs)
  unfolding prompt
  after_long y e =
      let fits = law.fits in
      let now = memory_cells s.module_.args (refilled s.memory.memrefs (prompt_slow outcome)) s.memory.symbols fits.fits.fits in
      let then = memory_cells s.module_.args s.memory.memrefs s.memory.symbols sound.fits.fits in
      ap (λ (y : Device). length y.state.slow) e ∙ ap (λ l. length l) (sym fits.is) ∙ now.long ∙ sym then.long

  pub long_is : length (after s steps).core.state.slow ≡ length (slow_list s.memory.memrefs)
  long_is = derived.stands.agree.bus.long ∙ by (after s steps).verdict derived.stands.goes
    where
      by : (v : Option Verdict) → Goes s.filler s.capacity slow outcome v (after s steps).rest derived.device → length derived.device.state.slow ≡ length (slow_list s.memory.memrefs)
      by None g = g.roomy.long
      by (Some verdict.End) g = after_long derived.device (ap state_of (sym g.run))
      by (Some (verdict.Fault k)) g = after_long derived.device (ap state_of (sym g))
