-- The law of all orders.
use Rattle.std.proofs.Common.{◌≡◌, ℕ, ℤ, pos, suc, ◌+◌, ◌≤◌, List, [], ◌∷◌, ◌++◌, length, sym, refl, ap, ◌∙◌, subst, arith}
use Rattle.std.specs.Prelude.{Option, Some, None}
use Rattle.std.proofs.lemmas.List.{ext_get_or}
use Rattle.affine_ast.specs.declared.image.Image.{Image}
use Rattle.bus_model.specs.declared.step.FaultKind.{FaultKind}
use Rattle.bus_model.specs.declared.step.Step.{Step}
use Rattle.bus_model.specs.declared.step.Verdict.{Verdict}
use Rattle.bus_model.specs.declared.step.Verdict.TheVariants as verdict
use Rattle.bus_model.specs.declared.transfer.Started.{Started}
use Rattle.bus_model.specs.Engines.{Flight, started_of}
use Rattle.direct_meaning.specs.Action.{Action}
use Rattle.direct_meaning.specs.Direct.{Outcome, End, Fault, folded, first_state, state_of}
use Rattle.prompt_semantics.specs.Device.{Device}
use Rattle.prompt_semantics.specs.Prompt.{prompt_step, first_device}
use Rattle.order_meaning.specs.Machine.{Machine, transfers_of, end_of, first_machine, after_step}
use Rattle.order_meaning.specs.Run.{after_steps, IsRun, IsMaximal, computes, all_left}
use Rattle.order_meaning.specs.Agree.{lists_of, Agree}
use Rattle.order_meaning.specs.Orderly.{Orderly}
use Rattle.order_meaning.specs.Law.{promptly, promptly_after, first, Ended, Faulted, AllOrdersAgree}
use Rattle.order_meaning.proofs.Flights.{none_some}
use Rattle.order_meaning.proofs.Numbers.{total}
use Rattle.order_meaning.proofs.Ordinary.{same_here}
use Rattle.order_meaning.proofs.Runs.{Goes, Stands, Ran, ran, possible, Onward, onward, not_past}

no_flight : (f : Flight) → None ≡ Some f → ⊥
no_flight f e = cc

no_started : (st : Started) → None ≡ Some st → ⊥
no_started st e = cc

no_number : (t : ℕ) → None ≡ Some t → ⊥
no_number t e = cc

-- the first states agree
first_agree : (engines : ℕ) (actions : List Action) (m : Image) → Agree engines (first_machine engines actions m).core (first_device m)
first_agree engines actions m = record {
  bus = record {
    long = refl;
    ledger = record {
      words_are = λ i lt np. refl;
      placed = λ t st h. absurd (no_started st h);
      copied = λ t st h. absurd (no_started st h);
      apart = λ t u a b ne h k. absurd (no_started a h);
    };
    same = λ t f h. absurd (no_flight f h);
  };
  flights = λ t f h. absurd (no_flight f h);
  engines_apart = λ t u e f g h k p q. absurd (no_flight f h);
  here = λ m h c e. sym (same_here [] c e);
  away = λ m h t. ((λ e. absurd (no_number t e)), (λ g. absurd (no_started g.0 g.1)));
  tags_apart = tt;
  registers = refl;
  live = refl;
  records = refl;
}

no_flights : (xs : List Flight) → transfers_of xs ≡ [] → xs ≡ []
no_flights [] e = refl
no_flights (x ∷ xs) e = absurd (cc)

module _ (filler : ℤ) (capacity : ℕ) where
  -- a run and then another
  run_on : (steps more : List Step) (x : Machine) → IsRun filler capacity x steps → IsRun filler capacity (after_steps filler capacity x steps) more → IsRun filler capacity x (steps ++ more)
  run_on [] more x run on = on
  run_on (s ∷ steps) more x run on = (run.0, run_on steps more (after_step filler capacity s x) run.1 on)

  after_both : (steps more : List Step) (x : Machine) → after_steps filler capacity x (steps ++ more) ≡ after_steps filler capacity (after_steps filler capacity x steps) more
  after_both [] more x = refl
  after_both (s ∷ steps) more x = after_both steps more (after_step filler capacity s x)

  module _ (actions : List Action) (m : Image) (engines : ℕ) (some : 1 ≤ engines) (orderly : Orderly (length (first_state m).slow) actions) where
    abbrev slow : ℕ
    slow = length (first_state m).slow

    abbrev outcome : Outcome Device
    outcome = promptly filler capacity actions m

    abbrev start : Machine
    start = first filler capacity actions m engines

    starts : Stands filler capacity slow outcome start (first_device m)
    unfolding folded
    starts = record { agree = first_agree engines actions m; goes = by actions orderly refl }
      where
        by : (xs : List Action) → Orderly slow xs → folded (prompt_step filler capacity) xs (first_device m) ≡ outcome → Goes filler capacity slow outcome (end_of xs) xs (first_device m)
        by [] o e = record { run = sym e; none = refl }
        by (a ∷ xs) o e = record { run = e; some = tt; rooms = λ n. None; roomy = record { long = refl; halves = λ m h c q. absurd (no_number c q); outstanding = λ tag t q. absurd (none_some None t refl q); orderly = o } }

    after : (steps : List Step) → IsRun filler capacity start steps → Ran filler capacity slow outcome start (first_device m) steps
    after steps run = ran filler capacity slow outcome steps start (first_device m) starts run

    agree : (steps : List Step) → IsRun filler capacity start steps → Agree engines (after_steps filler capacity start steps).core (promptly_after filler capacity actions m (computes steps))
    agree steps run =
        let r = after steps run in
        subst (λ y. Agree engines (after_steps filler capacity start steps).core y) r.is (subst (λ n. Agree n (after_steps filler capacity start steps).core r.device) r.engines r.stands.agree)

    goes_on : (steps : List Step) → IsRun filler capacity start steps → Onward filler capacity slow outcome (after_steps filler capacity start steps)
    goes_on steps run =
        let r = after steps run in
        onward filler capacity slow outcome (suc (all_left (after_steps filler capacity start steps).core.flights + total (state_of outcome))) (after_steps filler capacity start steps) r.device
        (subst (λ n. 1 ≤ n) (sym r.engines) some) r.stands (omega arith)

    maximal : (steps : List Step) → IsRun filler capacity start steps → (more : List Step) × IsMaximal filler capacity start (steps ++ more)
    maximal steps run =
        let on = goes_on steps run in (
          on.steps,
          record {
            run = run_on steps on.steps start run on.run;
            last = λ s e. none_some (after_steps filler capacity start (steps ++ on.steps)).verdict on.verdict e.going (ap (λ (x : Machine). x.verdict) (after_both steps on.steps start) ∙ on.is);
          },
        )

    bounded : (steps : List Step) → IsRun filler capacity start steps → length steps ≤ (state_of outcome).actions + (state_of outcome).engine_steps
    bounded steps run =
        let r = after steps run in
        let p = not_past filler capacity slow outcome (after_steps filler capacity start steps) r.device r.stands in
        let c = r.counted in
        sum (length steps) (all_left (after_steps filler capacity start steps).core.flights) (total r.device) (total (state_of outcome)) c p
      where
        sum : (n l t u : ℕ) → n + l + (0 + 0) ≡ 0 + t → t ≤ u → n ≤ u
        sum n l t u p q = omega (arith, p, q)

    -- after a maximal run there is a verdict
    abbrev Settled : List Step → Option Verdict → Type 0
    Settled steps None = ⊥
    Settled steps (Some v) = (after_steps filler capacity start steps).verdict ≡ Some v

    ended : (steps : List Step) → IsMaximal filler capacity start steps → (y : Device) → outcome ≡ End y → Ended filler capacity actions m engines steps y
    ended steps most y is = by (after_steps filler capacity start steps).verdict refl r.stands.goes
      where
        r : Ran filler capacity slow outcome start (first_device m) steps
        r = after steps most.run

        same_end : (a b : Device) → End a ≡ End b → a ≡ b
        same_end a b e = cc

        apart : (k : FaultKind) (a b : Device) → Fault k a ≡ End b → ⊥
        apart k a b e = cc

        by : (v : Option Verdict) → (after_steps filler capacity start steps).verdict ≡ v → Goes filler capacity slow outcome v (after_steps filler capacity start steps).rest r.device → Ended filler capacity actions m engines steps y
        by None e g = let p = possible filler capacity slow outcome (after_steps filler capacity start steps) r.device r.stands e (subst (λ n. 1 ≤ n) (sym r.engines) some) in absurd (most.last p.step p.enabled)
        by (Some (verdict.Fault k)) e g = absurd (apart k r.device y (sym g ∙ is))
        by (Some verdict.End) e g =
            let same : r.device ≡ y = same_end r.device y (sym g.run ∙ is) in
            let a = r.stands.agree in
            let none : (after_steps filler capacity start steps).core.flights ≡ [] = no_flights (after_steps filler capacity start steps).core.flights (a.records ∙ g.none) in
            record {
              verdict = e;
              slow = ext_get_or (pos 0) (after_steps filler capacity start steps).core.state.slow r.device.state.slow a.bus.long
                  (λ i lt. a.bus.ledger.words_are i (let l = a.bus.long in omega (arith, l, lt)) (λ t e st h. absurd (no_started st (ap (λ ts. started_of (lists_of r.device.halves ts) t) (sym g.none) ∙ h))))
                  ∙ ap (λ (y : Device). y.state.slow) same;
              count = sum (length steps) (all_left (after_steps filler capacity start steps).core.flights) (total r.device) (ap all_left none) r.counted ∙ ap total same;
            }
          where
            sum : (n l t : ℕ) → l ≡ 0 → n + l + (0 + 0) ≡ 0 + t → n ≡ t
            sum n l t p q = omega (arith, p, q)

    faulted : (steps : List Step) → IsMaximal filler capacity start steps → (k : FaultKind) (y : Device) → outcome ≡ Fault k y → Faulted filler capacity actions m engines steps k y
    faulted steps most k y is = by (after_steps filler capacity start steps).verdict refl r.stands.goes
      where
        r : Ran filler capacity slow outcome start (first_device m) steps
        r = after steps most.run

        same_kind : (k l : FaultKind) (a b : Device) → Fault k a ≡ Fault l b → k ≡ l
        same_kind k l a b e = cc

        apart : (a b : Device) → End a ≡ Fault k b → ⊥
        apart a b e = cc

        by : (v : Option Verdict) → (after_steps filler capacity start steps).verdict ≡ v → Goes filler capacity slow outcome v (after_steps filler capacity start steps).rest r.device → Faulted filler capacity actions m engines steps k y
        by None e g = let p = possible filler capacity slow outcome (after_steps filler capacity start steps) r.device r.stands e (subst (λ n. 1 ≤ n) (sym r.engines) some) in absurd (most.last p.step p.enabled)
        by (Some verdict.End) e g = absurd (apart r.device y (sym g.run ∙ is))
        by (Some (verdict.Fault l)) e g = record {
          verdict = e ∙ ap (λ k. Some (verdict.Fault k)) (same_kind l k r.device y (sym g ∙ is));
          count = subst (λ (o : Outcome Device). length steps ≤ (state_of o).actions + (state_of o).engine_steps) is (bounded steps most.run);
        }

pub all_orders : AllOrdersAgree
all_orders filler capacity actions m engines some orderly = record {
  agree = agree filler capacity actions m engines some orderly;
  onward = maximal filler capacity actions m engines some orderly;
  bounded = bounded filler capacity actions m engines some orderly;
  ended = ended filler capacity actions m engines some orderly;
  faulted = faulted filler capacity actions m engines some orderly;
}
