-- Runs: each state of one agrees with the prompt state after as many actions, and none is stuck without a verdict.
use Rattle.std.proofs.Common.{◌≡◌, inl, inr, ℕ, ℤ, zero, suc, ◌+◌, ◌<◌, ◌≤◌, Bool, true, false, List, [], ◌∷◌, length, take, sym, refl, ap, ◌∙◌, subst, arith, eq-eqb}
use Rattle.std.specs.Prelude.{◌&&◌, Option, Some, None, nat_eq, not}
use native.Mathlib.Decide.{dec_le}
use Rattle.bus_model.specs.declared.step.FaultKind.{FaultKind}
use Rattle.bus_model.specs.declared.step.Step.{Step}
use Rattle.bus_model.specs.declared.step.Step.TheVariants.{Compute, Take, Move, Finish}
use Rattle.bus_model.specs.declared.step.Verdict.{Verdict}
use Rattle.bus_model.specs.declared.step.Verdict.TheVariants as verdict
use Rattle.bus_model.specs.declared.transfer.Transfer.{Transfer}
use Rattle.bus_model.specs.Engines.{Flight, flight_of}
use Rattle.direct_meaning.specs.Action.{Action, Waits}
use Rattle.direct_meaning.specs.Direct.{Outcome, End, Fault, then_do, folded, verdict_of, state_of}
use Rattle.prompt_semantics.specs.Device.{Device, record_of}
use Rattle.prompt_semantics.specs.Prompt.{acts, prompt_step}
use Rattle.prompt_semantics.proofs.Laws.{count_step}
use Rattle.order_meaning.specs.Machine.{Core, Machine, transfers_of, is_free, is_finished, holds_up, is_held_up, CanCompute, held_by, CanBeTaken, HasMore, HasAll, Enabled, with_next, with_finished, engine_step, end_of, settled, act_on, compute_step, after_step}
use Rattle.order_meaning.specs.Run.{after_steps, IsRun, computes, all_left}
use Rattle.order_meaning.specs.Agree.{TagsApart, IsSteady, FlightOk, Agree}
use Rattle.order_meaning.specs.Orderly.{Rooms, rooms_after}
use Rattle.order_meaning.proofs.Flights.{none_some, both_ways, if_true, record_of_flight, held_flight, none_held}
use Rattle.order_meaning.proofs.EngineSteps.{Stepped, taken, moved, finished}
use Rattle.order_meaning.proofs.Roomy.{Roomy, Kept, kept}
use Rattle.order_meaning.proofs.Actions.{same_act}
use Rattle.order_meaning.proofs.Numbers.{total, total_rises}

abbrev pub IsSomeAction : List Action → Type 0
IsSomeAction [] = ⊥
IsSomeAction (a ∷ more) = Unit {0}

module _ (filler : ℤ) (capacity slow : ℕ) (o : Outcome Device) where
  -- what is left to do on the prompt side comes to the outcome o
  pub record Going (rest : List Action) (y : Device) : Type 0 where
    pub run : folded (prompt_step filler capacity) rest y ≡ o
    pub some : IsSomeAction rest
    pub rooms : Rooms
    pub roomy : Roomy slow rooms rest y

  pub record Gone (y : Device) : Type 0 where
    pub run : o ≡ End y
    pub none : y.outstanding ≡ []

  abbrev pub Goes : Option Verdict → List Action → Device → Type 0
  Goes None rest y = Going rest y
  Goes (Some verdict.End) rest y = Gone y
  Goes (Some (verdict.Fault k)) rest y = o ≡ Fault k y

  pub record Stands (x : Machine) (y : Device) : Type 0 where
    pub agree : Agree x.engines x.core y
    pub goes : Goes x.verdict x.rest y

  abbrev with_compute : Step → ℕ → ℕ
  with_compute Compute k = suc k
  with_compute (Take e t) k = k
  with_compute (Move e) k = k
  with_compute (Finish e) k = k

  -- one step on
  record Advanced (s : Step) (x x' : Machine) (y : Device) : Type 0 where
    device : Device
    stands : Stands x' device
    engines : x'.engines ≡ x.engines
    counted : suc (all_left x'.core.flights) + total y ≡ all_left x.core.flights + total device
    is : (k : ℕ) → ((v : Verdict) → x'.verdict ≡ Some v → k ≡ 0) → state_of (folded (prompt_step filler capacity) (take k x'.rest) device) ≡ state_of (folded (prompt_step filler capacity) (take (with_compute s k) x.rest) y)

  -- ---- an action

  recounted : (n : ℕ) (x : Core) (y : Device) (k : ℕ) → Agree n x y → Agree n x (record y { actions = k })
  recounted n x y k a = record { bus = a.bus; flights = a.flights; engines_apart = a.engines_apart; here = a.here; away = a.away; tags_apart = a.tags_apart; registers = a.registers; live = a.live; records = a.records }

  recounted_room : (rooms : Rooms) (rest : List Action) (y : Device) (k : ℕ) → Roomy slow rooms rest y → Roomy slow rooms rest (record y { actions = k })
  recounted_room rooms rest y k r = record { long = r.long; halves = r.halves; outstanding = r.outstanding; orderly = r.orderly }

  none_left : (rooms : Rooms) (y : Device) → Roomy slow rooms [] y → y.outstanding ≡ []
  none_left rooms y r = by y.outstanding refl
    where
      by : (ts : List Transfer) → y.outstanding ≡ ts → y.outstanding ≡ []
      by [] e = e
      by (t ∷ ts) e =
          let s = r.outstanding t.tag t (ap (record_of t.tag) e ∙ if_true (nat_eq t.tag t.tag) (Some t) (record_of t.tag ts) (eq-eqb t.tag t.tag refl)) in
          let no : false ≡ true = s.released in absurd (cc)

  module _ (n : ℕ) (a : Action) (more : List Action) (c : Core) (y : Device) where
    abbrev before : Machine
    before = record { engines = n; rest = a ∷ more; core = c; verdict = None }

    settle : (oc : Outcome Core) (p : Outcome Device) (rooms : Rooms) → prompt_step filler capacity a y ≡ p → (verdict_of oc ≡ verdict_of p) → Agree n (state_of oc) (state_of p)
        → all_left (state_of oc).flights + y.engine_steps ≡ all_left c.flights + (state_of p).engine_steps
        → (state_of p).actions ≡ suc y.actions → Kept slow rooms more p → then_do p (folded (prompt_step filler capacity) more) ≡ o → Advanced Compute before (settled n more oc) y
    unfolding folded
    settle (End c') (End y') rooms step v agree counted acted kept run = record {
      device = y';
      stands = record { agree = agree; goes = by more kept run };
      engines = refl;
      counted = sum (all_left c'.flights) (all_left c.flights) y.actions y.engine_steps y'.actions y'.engine_steps counted acted;
      is = λ k _. sym (ap (λ p. state_of (then_do p (folded (prompt_step filler capacity) (take k more)))) step);
    }
      where
        sum : (l' l ya ys ya' ys' : ℕ) → l' + ys ≡ l + ys' → ya' ≡ suc ya → suc l' + (ya + ys) ≡ l + (ya' + ys')
        sum l' l ya ys ya' ys' p q = omega (arith, p, q)

        by : (rest : List Action) → Roomy slow rooms rest y' → folded (prompt_step filler capacity) rest y' ≡ o → Goes (end_of rest) rest y'
        by [] r run = record { run = sym run; none = none_left rooms y' r }
        by (b ∷ rest) r run = record { run = run; some = tt; rooms = rooms; roomy = r }
    settle (Fault k c') (Fault l y') rooms step v agree counted acted kept run = record {
      device = y';
      stands = record { agree = agree; goes = sym (ap (λ k. Fault k y') (kind k l v) ∙ run) };
      engines = refl;
      counted = sum (all_left c'.flights) (all_left c.flights) y.actions y.engine_steps y'.actions y'.engine_steps counted acted;
      is = λ i z. ap (λ i. state_of (folded (prompt_step filler capacity) (take i more) y')) (z (verdict.Fault k) refl) ∙ sym (ap (λ p. state_of (then_do p (folded (prompt_step filler capacity) (take i more)))) step);
    }
      where
        sum : (l' l ya ys ya' ys' : ℕ) → l' + ys ≡ l + ys' → ya' ≡ suc ya → suc l' + (ya + ys) ≡ l + (ya' + ys')
        sum l' l ya ys ya' ys' p q = omega (arith, p, q)

        kind : (k l : FaultKind) → verdict.Fault k ≡ verdict.Fault l → k ≡ l
        kind k l e = cc
    settle (End c') (Fault l y') rooms step v agree counted acted kept run = absurd (cc)
    settle (Fault k c') (End y') rooms step v agree counted acted kept run = absurd (cc)

    acted : Agree n c y → Going (a ∷ more) y → is_held_up a c.flights ≡ false → Advanced Compute before (settled n more (act_on filler capacity a c)) y
    unfolding prompt_step folded
    acted agree going may =
        let y1 : Device = record y { actions = suc y.actions } in
        let roomy1 = recounted_room going.rooms (a ∷ more) y (suc y.actions) going.roomy in
        let same = same_act n c y1 (recounted n c y (suc y.actions) agree) slow going.rooms more filler capacity a roomy1 may in
        settle (act_on filler capacity a c) (acts filler capacity a y1) (rooms_after going.rooms a) refl same.verdict same.agree same.counted (count_step filler capacity a y)
        (kept slow going.rooms more y1 filler capacity a roomy1 agree.tags_apart) going.run

  -- ---- any step

  stepped : (s : Step) (x : Machine) (x' : Core) (y : Device) → (with_compute s ≡ (λ k. k)) → Stands x y → Stepped x.engines x.core x' y → x.verdict ≡ None → Advanced s x (record x { core = x' }) y
  stepped s x x' y idle st d going = record {
    device = y;
    stands = record { agree = d.agree; goes = st.goes };
    engines = refl;
    counted = ap (λ k. k + total y) d.one_less;
    is = λ k _. ap (λ f. state_of (folded (prompt_step filler capacity) (take (f k) x.rest) y)) (sym idle);
  }

  -- of each outstanding transfer there is an element to move
  some_element : (x : Machine) (y : Device) → Stands x y → x.verdict ≡ None → (tag : ℕ) (f : Flight) → flight_of x.core.flights tag ≡ Some f → 1 ≤ f.transfer.count
  some_element x y st going tag f here =
      let g : Going x.rest y = subst (λ v. Goes v x.rest y) going st.goes in
      (g.roomy.outstanding tag f.transfer (ap (record_of tag) (sym st.agree.records) ∙ record_of_flight x.core.flights tag f here)).fits.some_element

  after_one : (s : Step) (x : Machine) (y : Device) → Stands x y → Enabled s x → Advanced s x (after_step filler capacity s x) y
  unfolding after_step
  after_one Compute x y st en =
      let g : Going x.rest y = subst (λ v. Goes v x.rest y) en.going st.goes in by x.rest refl g en.permitted
    where
      by : (rest : List Action) → x.rest ≡ rest → Going rest y → CanCompute rest x.core.flights → Advanced Compute x (compute_step filler capacity x.rest x) y
      by [] e g may = absurd may
      by (a ∷ more) e g may =
          let x0 : Machine = before x.engines a more x.core y in
          let same : x0 ≡ x = λ i. record { engines = x.engines; rest = sym e i; core = x.core; verdict = sym en.going i } in
          subst (λ z. Advanced Compute z (compute_step filler capacity z.rest z) y) same (acted x.engines a more x.core y st.agree g may)
  after_one (Take e t) x y st en = by (flight_of x.core.flights t) refl en.permitted.2
    where
      by : (o : Option Flight) → flight_of x.core.flights t ≡ o → CanBeTaken o → Advanced (Take e t) x (record x { core = engine_step (Take e t) x.core }) y
      by None q can = absurd can
      by (Some f) q can = stepped (Take e t) x _ y refl st (taken x.engines x.core y st.agree e t f en.permitted.0 en.permitted.1 q can.0 can.1) en.going
  after_one (Move e) x y st en = by (held_by x.core.flights e) refl en.permitted.1
    where
      by : (o : Option Flight) → held_by x.core.flights e ≡ o → HasMore o → Advanced (Move e) x (record x { core = with_next (held_by x.core.flights e) x.core }) y
      by None q can = absurd can
      by (Some f) q can = subst (λ o. Advanced (Move e) x (record x { core = with_next o x.core }) y) (sym q) (stepped (Move e) x _ y refl st (moved x.engines x.core y st.agree e f en.permitted.0 q can) en.going)
  after_one (Finish e) x y st en = by (held_by x.core.flights e) refl en.permitted.1
    where
      by : (o : Option Flight) → held_by x.core.flights e ≡ o → HasAll o → Advanced (Finish e) x (record x { core = with_finished (held_by x.core.flights e) x.core }) y
      by None q can = absurd can
      by (Some f) q can =
          let own = held_flight x.core.flights e f (subst TagsApart (sym st.agree.records) st.agree.tags_apart) q in
          subst (λ o. Advanced (Finish e) x (record x { core = with_finished o x.core }) y) (sym q)
          (stepped (Finish e) x _ y refl st (finished x.engines x.core y st.agree e f q can (some_element x y st en.going f.transfer.tag f own.1)) en.going)

  -- ---- a run

  pub record Ran (x : Machine) (y : Device) (steps : List Step) : Type 0 where
    pub device : Device
    pub stands : Stands (after_steps filler capacity x steps) device
    pub engines : (after_steps filler capacity x steps).engines ≡ x.engines
    pub counted : length steps + all_left (after_steps filler capacity x steps).core.flights + total y ≡ all_left x.core.flights + total device
    pub is : device ≡ state_of (folded (prompt_step filler capacity) (take (computes steps) x.rest) y)

  computes_more : (s : Step) (steps : List Step) → with_compute s (computes steps) ≡ computes (s ∷ steps)
  computes_more Compute steps = refl
  computes_more (Take e t) steps = refl
  computes_more (Move e) steps = refl
  computes_more (Finish e) steps = refl

  -- behind a verdict there is no step
  no_more : (x : Machine) (v : Verdict) → x.verdict ≡ Some v → (steps : List Step) → IsRun filler capacity x steps → computes steps ≡ 0
  no_more x v e [] run = refl
  no_more x v e (s ∷ steps) run = absurd (none_some x.verdict v run.0.going e)

  pub ran : (steps : List Step) (x : Machine) (y : Device) → Stands x y → IsRun filler capacity x steps → Ran x y steps
  unfolding folded
  ran [] x y st run = record { device = y; stands = st; engines = refl; counted = none (all_left x.core.flights) (total y); is = refl }
    where
      none : (l t : ℕ) → 0 + l + t ≡ l + t
      none l t = omega arith
  ran (s ∷ steps) x y st run =
      let one = after_one s x y st run.0 in
      let x' : Machine = after_step filler capacity s x in
      let rest = ran steps x' one.device one.stands run.1 in
      record {
        device = rest.device;
        stands = rest.stands;
        engines = rest.engines ∙ one.engines;
        counted = sum (length steps) (all_left (after_steps filler capacity x' steps).core.flights) (all_left x'.core.flights) (all_left x.core.flights) (total y) (total one.device) (total rest.device) one.counted rest.counted;
        is = rest.is ∙ one.is (computes steps) (λ v e. no_more x' v e steps run.1) ∙ ap (λ k. state_of (folded (prompt_step filler capacity) (take k x.rest) y)) (computes_more s steps);
      }
    where
      sum : (n le l' l y y' y'' : ℕ) → suc l' + y ≡ l + y' → n + le + y' ≡ l' + y'' → suc n + le + y ≡ l + y''
      sum n le l' l y y' y'' p q = omega (arith, p, q)

  -- ---- no state without a verdict is stuck

  pub record Possible (x : Machine) : Type 0 where
    pub step : Step
    pub enabled : Enabled step x

  module _ (x : Machine) (y : Device) (st : Stands x y) (going : x.verdict ≡ None) where
    apart : TagsApart (transfers_of x.core.flights)
    apart = subst TagsApart (sym st.agree.records) st.agree.tags_apart

    -- an engine that holds a transfer has a step
    busy : (e : ℕ) (f : Flight) → e < x.engines → held_by x.core.flights e ≡ Some f → Possible x
    busy e f less held = elim (dec_le f.transfer.count f.moved) [
      | yes h ↦ record { step = Finish e; enabled = record { going = going; permitted = (less, subst HasAll (sym held) (let p = ok.not_past in omega (arith, h, p))) } }
      | no h ↦ record { step = Move e; enabled = record { going = going; permitted = (less, subst HasMore (sym held) (omega (arith, h))) } }
    ]
      where
        ok : FlightOk x.engines f
        ok = st.agree.flights f.transfer.tag f (held_flight x.core.flights e f apart held).1

    -- a transfer that isn't finished has a step, or an engine's other transfer has
    unfinished : 1 ≤ x.engines → (tag : ℕ) (f : Flight) → flight_of x.core.flights tag ≡ Some f → is_finished f ≡ false → Possible x
    unfinished some tag f here unmoved = by f.engine refl (st.agree.flights tag f here).steady
      where
        any_engine : (e : ℕ) → e < x.engines → (held_by x.core.flights e ≡ None → Possible x) → Possible x
        any_engine e less idle = at (held_by x.core.flights e) refl
          where
            at : (o : Option Flight) → held_by x.core.flights e ≡ o → Possible x
            at None q = idle q
            at (Some g) q = busy e g less q

        by : (o : Option ℕ) → f.engine ≡ o → IsSteady x.engines o f → Possible x
        by (Some e) q less = any_engine e less (λ none. absurd (none_held x.core.flights e none tag f here q))
        by None q (inl zero_) = any_engine 0 (omega (arith, some)) (λ none. record { step = Take 0 tag; enabled = record { going = going; permitted = (omega (arith, some), none, subst CanBeTaken (sym here) (q, zero_)) } })
        by None q (inr all) = absurd (both_ways (is_finished f) both unmoved)
          where
            both : is_finished f ≡ true
            both = λ i. (eq-eqb f.moved f.transfer.count all) i && (ap is_free q) i

    pub possible : 1 ≤ x.engines → Possible x
    possible some =
        let g : Going x.rest y = subst (λ v. Goes v x.rest y) going st.goes in by x.rest refl g.some
      where
        waiting : (o : Option Flight) (count : ℕ) → holds_up o count ≡ true → (f : Flight) × (o ≡ Some f) × (is_finished f ≡ false)
        waiting None count e = absurd (cc)
        waiting (Some f) count e = (f, refl, right (nat_eq f.transfer.count count) (is_finished f) e)
          where
            right : (b c : Bool) → (b && not c) ≡ true → c ≡ false
            right true true e = absurd (cc)
            right true false e = refl
            right false c e = absurd (cc)

        held : (a : Action) → is_held_up a x.core.flights ≡ true → Possible x
        held (Waits tag count) e = let w = waiting (flight_of x.core.flights tag) count e in unfinished some tag w.0 w.1 w.2
        held a e = absurd (cc)

        by : (rest : List Action) → x.rest ≡ rest → IsSomeAction rest → Possible x
        by [] e s = absurd s
        by (a ∷ more) e s = at (is_held_up a x.core.flights) refl
          where
            at : (b : Bool) → is_held_up a x.core.flights ≡ b → Possible x
            at true h = held a h
            at false h = record { step = Compute; enabled = record { going = going; permitted = subst (λ r. CanCompute r x.core.flights) (sym e) h } }

  -- ---- each run goes on to a verdict

  pub record Onward (x : Machine) : Type 0 where
    pub steps : List Step
    pub run : IsRun filler capacity x steps
    pub verdict : Verdict
    pub is : (after_steps filler capacity x steps).verdict ≡ Some verdict

  pub not_past : (x : Machine) (y : Device) → Stands x y → total y ≤ total (state_of o)
  not_past x y st = by x.verdict st.goes
    where
      by : (v : Option Verdict) → Goes v x.rest y → total y ≤ total (state_of o)
      by None g = subst (λ o. total y ≤ total (state_of o)) g.run (total_rises filler capacity x.rest y)
      by (Some verdict.End) g = let e = ap (λ o. total (state_of o)) g.run in omega (arith, e)
      by (Some (verdict.Fault k)) g = let e = ap (λ o. total (state_of o)) g in omega (arith, e)

  pub onward : (fuel : ℕ) (x : Machine) (y : Device) → 1 ≤ x.engines → Stands x y → all_left x.core.flights + total (state_of o) < fuel + total y → Onward x
  onward zero x y some st less = absurd (let p = not_past x y st in omega (arith, less, p))
  onward (suc fuel) x y some st less = at x.verdict refl (λ going.
      let p = possible x y st going some in
      let one = after_one p.step x y st p.enabled in
      let x' : Machine = after_step filler capacity p.step x in
      let rest = onward fuel x' one.device (subst (λ n. 1 ≤ n) (sym one.engines) some) one.stands (sum (all_left x'.core.flights) (all_left x.core.flights) (total (state_of o)) (total y) (total one.device) one.counted less) in
      record { steps = p.step ∷ rest.steps; run = (p.enabled, rest.run); verdict = rest.verdict; is = rest.is })
    where
      sum : (l' l t y y' : ℕ) → suc l' + y ≡ l + y' → l + t < suc fuel + y → l' + t < fuel + y'
      sum l' l t y y' p q = omega (arith, p, q)

      at : (v : Option Verdict) → x.verdict ≡ v → (x.verdict ≡ None → Onward x) → Onward x
      at None e go = go e
      at (Some v) e go = record { steps = []; run = tt; verdict = v; is = e }
