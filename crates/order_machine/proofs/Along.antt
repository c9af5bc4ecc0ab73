-- Along a run of the machine there is a state of the prompt meaning that it agrees with, from which each action reaches what there is.
use Rattle.std.proofs.Common.{◌≡◌, ℕ, ℤ, suc, ◌+◌, ◌≤◌, List, [], ◌∷◌, ◌++◌, length, take, sym, refl, ap, ◌∙◌, subst, arith}
use Rattle.std.specs.Prelude.{Some, None}
use Rattle.affine_ast.specs.declared.image.Image.{Image}
use Rattle.bus_model.specs.declared.step.FaultKind.{FaultKind}
use Rattle.bus_model.specs.declared.step.Step.{Step}
use Rattle.bus_model.specs.declared.step.Step.TheVariants.{Compute, Take, Move, Finish}
use Rattle.bus_model.specs.declared.step.Verdict.{Verdict}
use Rattle.bus_model.specs.declared.step.Verdict.TheVariants as verdict
use Rattle.direct_meaning.specs.Action.{Action}
use Rattle.direct_meaning.specs.Direct.{Outcome, End, Fault, then_do, folded, first_state, verdict_of, state_of}
use Rattle.prompt_semantics.specs.Device.{Device}
use Rattle.prompt_semantics.specs.Prompt.{acts, prompt_step, first_device}
use Rattle.prompt_laws.specs.Along.{Along}
use Rattle.prompt_laws.specs.Reaches.{CanAct}
use Rattle.prompt_laws.specs.Rooms.{Room}
use Rattle.order_meaning.specs.Machine.{Core, Machine, CanCompute, Enabled, first_machine, end_of, settled, act_on, compute_step, after_step}
use Rattle.order_meaning.specs.Run.{after_steps, IsRun, computes, all_left}
use Rattle.order_meaning.specs.Agree.{Agree}
use Rattle.order_meaning.specs.Orderly.{Orderly}
use Rattle.order_meaning.specs.Law.{promptly}
use Rattle.order_meaning.proofs.Flights.{none_some}
use Rattle.order_meaning.proofs.Actions.{same_act}
use Rattle.order_meaning.proofs.AllOrders.{all_orders}
use Rattle.order_meaning.proofs.Numbers.{total}
use Rattle.order_meaning.proofs.Roomy.{Roomy}
use Rattle.order_meaning.proofs.Runs.{Going, Goes, Stands, ran}

module _ (filler : ℤ) (capacity slow : ℕ) (o : Outcome Device) (rooms : List Room) where
  -- what is left reaches what there is, where there is no verdict
  abbrev pub Onward : Machine → Device → Type 0
  Onward x y = x.verdict ≡ None → Along (prompt_step filler capacity) (CanAct rooms capacity) x.rest y

  pub record Derived (x x' : Machine) (y : Device) (n : ℕ) : Type 0 where
    pub device : Device
    pub stands : Stands filler capacity slow o x' device
    pub onward : Onward x' device
    pub engines : x'.engines ≡ x.engines
    pub counted : n + all_left x'.core.flights + total y ≡ all_left x.core.flights + total device

  no_fault : (k : FaultKind) (v : Verdict) → Some (verdict.Fault k) ≡ None → ⊥
  no_fault k v e = none_some (Some (verdict.Fault k)) (verdict.Fault k) e refl

  ended : (k : FaultKind) → verdict.End ≡ verdict.Fault k → ⊥
  ended k e = absurd (cc)

  -- behind an action that the machine does without a fault, the prompt side is one on
  module _ (n : ℕ) (a : Action) (more : List Action) (y : Device) where
    behind : (p : Outcome Device) (oc : Outcome Core) (y' : Device) → prompt_step filler capacity a y ≡ p → verdict_of oc ≡ verdict_of p → Along (prompt_step filler capacity) (CanAct rooms capacity) (a ∷ more) y
        → y' ≡ state_of (folded (prompt_step filler capacity) (a ∷ []) y) → (settled n more oc).verdict ≡ None → Along (prompt_step filler capacity) (CanAct rooms capacity) (settled n more oc).rest y'
    unfolding folded
    behind (End z) (End c) y' step v along is going =
        let same : y' ≡ z = is ∙ ap (λ p. state_of (then_do p (folded (prompt_step filler capacity) []))) step in
        subst (Along (prompt_step filler capacity) (CanAct rooms capacity) more) (sym same) (along.1 z step)
    behind (Fault k z) (End c) y' step v along is going = absurd (ended k v)
    behind p (Fault k c) y' step v along is going = absurd (no_fault k (verdict.Fault k) going)

  on_compute : (rest : List Action) (x : Machine) (y y' : Device) → x.rest ≡ rest → CanCompute rest x.core.flights → Going filler capacity slow o rest y → Agree x.engines x.core y → Along (prompt_step filler capacity) (CanAct rooms capacity) rest y
      → y' ≡ state_of (folded (prompt_step filler capacity) (take (computes (Compute ∷ [])) rest) y) → (compute_step filler capacity rest x).verdict ≡ None → Along (prompt_step filler capacity) (CanAct rooms capacity) (compute_step filler capacity rest x).rest y'
  unfolding prompt_step
  on_compute [] x y y' e may g agree along is going = absurd may
  on_compute (a ∷ more) x y y' e may g agree along is going =
      let y1 : Device = record y { actions = suc y.actions } in
      let a1 : Agree x.engines x.core y1 = record { bus = agree.bus; flights = agree.flights; engines_apart = agree.engines_apart; here = agree.here; away = agree.away; tags_apart = agree.tags_apart; registers = agree.registers; live = agree.live; records = agree.records } in
      let r = g.roomy in
      let r1 : Roomy slow g.rooms (a ∷ more) y1 = record { long = r.long; halves = r.halves; outstanding = r.outstanding; orderly = r.orderly } in
      let same = same_act x.engines x.core y1 a1 slow g.rooms more filler capacity a r1 may in
      behind x.engines a more y (acts filler capacity a y1) (act_on filler capacity a x.core) y' refl same.verdict along is going

  onward_next : (s : Step) (x : Machine) (y y' : Device) → Stands filler capacity slow o x y → Onward x y → y' ≡ state_of (folded (prompt_step filler capacity) (take (computes (s ∷ [])) x.rest) y) → Enabled s x → Onward (after_step filler capacity s x) y'
  unfolding after_step folded
  onward_next Compute x y y' st on is en = λ going. on_compute x.rest x y y' refl en.permitted (subst (λ v. Goes filler capacity slow o v x.rest y) en.going st.goes) st.agree (on en.going) is going
  onward_next (Take e t) x y y' st on is en = λ going. subst (Along (prompt_step filler capacity) (CanAct rooms capacity) x.rest) (sym is) (on en.going)
  onward_next (Move e) x y y' st on is en = λ going. subst (Along (prompt_step filler capacity) (CanAct rooms capacity) x.rest) (sym is) (on en.going)
  onward_next (Finish e) x y y' st on is en = λ going. subst (Along (prompt_step filler capacity) (CanAct rooms capacity) x.rest) (sym is) (on en.going)

  step_on : (s : Step) (x : Machine) (y : Device) → Stands filler capacity slow o x y → Onward x y → Enabled s x → Derived x (after_step filler capacity s x) y 1
  step_on s x y st on en =
      let r = ran filler capacity slow o (s ∷ []) x y st (en, tt) in
      record { device = r.device; stands = r.stands; onward = onward_next s x y r.device st on r.is en; engines = r.engines; counted = r.counted }

  pub derive : (steps : List Step) (x : Machine) (y : Device) → Stands filler capacity slow o x y → Onward x y → IsRun filler capacity x steps → Derived x (after_steps filler capacity x steps) y (length steps)
  derive [] x y st on run = record { device = y; stands = st; onward = on; engines = refl; counted = none (all_left x.core.flights) (total y) }
    where
      none : (l t : ℕ) → 0 + l + t ≡ l + t
      none l t = omega arith
  derive (s ∷ steps) x y st on run =
      let x' : Machine = after_step filler capacity s x in
      let one = step_on s x y st on run.0 in
      let rest = derive steps x' one.device one.stands one.onward run.1 in
      record {
        device = rest.device;
        stands = rest.stands;
        onward = rest.onward;
        engines = rest.engines ∙ one.engines;
        counted = sum (length steps) (all_left (after_steps filler capacity x' steps).core.flights) (all_left x'.core.flights) (all_left x.core.flights) (total y) (total one.device) (total rest.device) one.counted rest.counted;
      }
    where
      sum : (n le l' l y y' y'' : ℕ) → 1 + l' + y ≡ l + y' → n + le + y' ≡ l' + y'' → suc n + le + y ≡ l + y''
      sum n le l' l y y' y'' p q = omega (arith, p, q)

module _ (filler : ℤ) (capacity : ℕ) where
  -- a run and then another
  pub run_on : (steps more : List Step) (x : Machine) → IsRun filler capacity x steps → IsRun filler capacity (after_steps filler capacity x steps) more → IsRun filler capacity x (steps ++ more)
  run_on [] more x run on = on
  run_on (s ∷ steps) more x run on = (run.0, run_on steps more (after_step filler capacity s x) run.1 on)

  pub after_both : (steps more : List Step) (x : Machine) → after_steps filler capacity x (steps ++ more) ≡ after_steps filler capacity (after_steps filler capacity x steps) more
  after_both [] more x = refl
  after_both (s ∷ steps) more x = after_both steps more (after_step filler capacity s x)

-- the first states
module _ (filler : ℤ) (capacity : ℕ) (actions : List Action) (m : Image) (engines : ℕ) (some : 1 ≤ engines) (orderly : Orderly (length (first_state m).slow) actions) where
  abbrev slow : ℕ
  slow = length (first_state m).slow

  no_number : (t : ℕ) → None ≡ Some t → ⊥
  no_number t e = cc

  pub starts : Stands filler capacity slow (promptly filler capacity actions m) (first_machine engines actions m) (first_device m)
  unfolding folded
  starts = record { agree = (all_orders filler capacity actions m engines some orderly).agree [] tt; goes = by actions orderly refl }
    where
      by : (xs : List Action) → Orderly slow xs → folded (prompt_step filler capacity) xs (first_device m) ≡ promptly filler capacity actions m → Goes filler capacity slow (promptly filler capacity actions m) (end_of xs) xs (first_device m)
      by [] o e = record { run = sym e; none = refl }
      by (a ∷ xs) o e = record { run = e; some = tt; rooms = λ n. None; roomy = record { long = refl; halves = λ m h c q. absurd (no_number c q); outstanding = λ tag t q. absurd (none_some None t refl q); orderly = o } }
