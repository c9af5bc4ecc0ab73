-- Runs whose steps are chosen by numbers.
use Rattle.std.proofs.Common.{◌≡◌, ℕ, ℤ, ◌+◌, ◌*◌, ◌/◌, ◌%◌, ◌-◌, ◌<◌, ◌≤◌, ◌^◌, List, [], ◌∷◌, ◌++◌, length, sym, refl, ap, ◌∙◌, subst, arith, Result, Ok, Err}
use Rattle.std.specs.Prelude.{Some, None, slice_get}
use Rattle.std.proofs.Math.Nat.{mod-add-mod, mod-lt}
use Rattle.std.proofs.lemmas.List.{length-append}
use Rattle.bus_model.specs.declared.step.FaultKind.{FaultKind}
use Rattle.bus_model.specs.declared.step.Step.{Step}
use Rattle.bus_model.specs.declared.step.Verdict.{Verdict}
use Rattle.bus_model.specs.declared.step.Verdict.TheVariants as verdict
use Rattle.direct_meaning.specs.Direct.{Outcome, End, Fault, verdict_of}
use Rattle.direct_meaning.specs.Memory.{Fits, module_actions}
use Rattle.affine_ast.specs.declared.image.Image.{Image}
use Rattle.prompt_semantics.specs.Device.{Device}
use Rattle.prompt_semantics.specs.Prompt.{prompt, prompt_verdict, prompt_slow}
use Rattle.prompt_laws.proofs.Conclusions.{runs_promptly}
use Rattle.run_laws.specs.StaysFitting.{with_slow}
use Rattle.order_laws.proofs.Valid.{valid_orders}
use Rattle.order_meaning.specs.Machine.{Machine, Enabled, after_step}
use Rattle.order_meaning.specs.Run.{after_steps, IsMaximal}
use Rattle.order_meaning.specs.Law.{promptly, OrdersAgree}
use Rattle.order_meaning.specs.Listed.{IsListed}
use Rattle.order_meaning.proofs.Flights.{none_some, same_some}
use Rattle.order_meaning.proofs.Listed.{lists_enabled}
use Rattle.order_machine.specs.declared.machine.Machine.{Machine as Code}
use Rattle.order_machine.specs.Standing.{Setting, IsAt, Steps, first_of, after}
use Rattle.order_machine.specs.Orders.{next_number, number_after, total, Chosen, Picks, Picked, Chooses, RunBy, RunsOrder}
use Rattle.order_machine.proofs.Derived.{derived, few_steps, some_step}

-- ---- numbers

pub next_is : (x a b : ℕ) → a ≡ (x * 6364136223846793005) % 2 ^ 64 → b ≡ (a + 1442695040888963407) % 2 ^ 64 → b ≡ next_number x
next_is x a b p q = q ∙ ap (λ n. (n + 1442695040888963407) % 2 ^ 64) p ∙ mod-add-mod (x * 6364136223846793005) (2 ^ 64) 1442695040888963407

pub number_more : (x : ℕ) (steps : List Step) (s : Step) → number_after x (steps ++ s ∷ []) ≡ next_number (number_after x steps)
number_more x [] s = refl
number_more x (t ∷ steps) s = number_more (next_number x) steps s

sum_more : (ks : List ℕ) (k : ℕ) → total (ks ++ k ∷ []) ≡ total ks + k
sum_more [] k = omega arith
sum_more (j ∷ ks) k = let m = sum_more ks k in omega (arith, m)

pub trace_more : (ks : List ℕ) (k t u : ℕ) → t ≡ total ks % 2 ^ 64 → u ≡ (t + k) % 2 ^ 64 → u ≡ total (ks ++ k ∷ []) % 2 ^ 64
trace_more ks k t u p q = q ∙ ap (λ n. (n + k) % 2 ^ 64) p ∙ mod-add-mod (total ks) (2 ^ 64) k ∙ ap (λ n. n % 2 ^ 64) (sym (sum_more ks k))

-- ---- one step more

module _ (filler : ℤ) (capacity : ℕ) where
  picks_more : (x : ℕ) (m : Machine) (steps : List Step) (ks : List ℕ) (s : Step) (k : ℕ) → Picks filler capacity x m steps ks → Chosen (next_number (number_after x steps)) (after_steps filler capacity m steps) s k
      → Picks filler capacity x m (steps ++ s ∷ []) (ks ++ k ∷ [])
  picks_more x m [] [] s k p c = (c, tt)
  picks_more x m [] (j ∷ ks) s k p c = absurd p
  picks_more x m (t ∷ steps) [] s k p c = absurd p
  picks_more x m (t ∷ steps) (j ∷ ks) s k p c = (p.0, picks_more (next_number x) (after_step filler capacity t m) steps ks s k p.1 c)

pub picked_none : (s : Setting) (pick : ℕ) → Picked s pick [] 0
picked_none s pick = record { numbers = []; picks = tt; trace_is = refl }

pub picked_more : (s : Setting) (pick : ℕ) (steps : List Step) (x y k t u : ℕ) (m : Code) → Picked s pick steps t → x ≡ number_after pick steps → y ≡ next_number x → (c : Chooses s steps y k m) → u ≡ (t + k) % 2 ^ 64 → Picked s pick (steps ++ c.step ∷ []) u
picked_more s pick steps x y k t u m p e f c q = record {
  numbers = p.numbers ++ k ∷ [];
  picks = picks_more s.filler s.capacity pick (first_of s) steps p.numbers c.step k p.picks (subst (λ n. Chosen n (after s steps) c.step k) (f ∙ ap next_number e) c.chosen);
  trace_is = trace_more p.numbers k t u p.trace_is q;
}

-- ---- one step

module _ (s : Setting) (steps : List Step) (m : Code) (at : IsAt s steps m) (going : m.verdict ≡ None) where
  here : (after s steps).verdict ≡ None
  here = at.stood.verdict ∙ going

  -- a list of the enabled steps isn't empty
  pub some_number : (enabled : List Step) → IsListed (after s steps) enabled → 1 ≤ length enabled
  some_number enabled is =
      let p = some_step s steps at.stood.sound at.stood.run here in
      let d = derived s steps at.stood.sound at.stood.run in
      let h = (lists_enabled (after s steps) d.device d.stands.agree enabled is p.step).0 p.enabled in long enabled h.0 p.step h.1
    where
      long : (l : List Step) (k : ℕ) (t : Step) → slice_get l k ≡ Some t → 1 ≤ length l
      long [] k t e = absurd (cc)
      long (u ∷ l) k t e = omega arith

  -- one of them is enabled
  pub is_enabled : (enabled : List Step) → IsListed (after s steps) enabled → (k : ℕ) (step : Step) → slice_get enabled k ≡ Some step → Enabled step (after s steps)
  is_enabled enabled is k step e =
      let d = derived s steps at.stood.sound at.stood.run in
      (lists_enabled (after s steps) d.device d.stands.agree enabled is step).1 (k, e)

  pub chooses : (E : Type 0) (enabled : List Step) → IsListed (after s steps) enabled → (x k n : ℕ) → n ≡ length enabled → k ≡ x / 2 ^ 33 % n → (step : Step) → slice_get enabled k ≡ Some step
      → (r : Result (Unit {0}) E) (m' : Code) → Steps s steps step r m' → Chooses s steps x k m'
  chooses E enabled is x k n e f step g (Ok done) m' h = record { step = step; chosen = record { enabled = enabled; listed = is; number = f ∙ ap (λ n. x / 2 ^ 33 % n) e; chosen = g }; at = h.1 }
  chooses E enabled is x k n e f step g (Err err) m' h = absurd (h.0 (is_enabled enabled is k step g))

-- ---- the whole run

-- a run that ended
module _ (s : Setting) (steps : List Step) (v : Verdict) (m : Code) (at : IsAt s steps m) (is : (after s steps).verdict ≡ Some v) where
  most : IsMaximal s.filler s.capacity (first_of s) steps
  most = record { run = at.stood.run; last = λ step en. none_some (after s steps).verdict v en.going is }

  agree : OrdersAgree s.filler s.capacity (module_actions s.module_ s.memory.symbols) s.memory s.engines
  agree = let sound = at.stood.sound in valid_orders s.module_ sound.valid s.memory sound.fits s.filler s.capacity s.engines sound.some_engine

  abbrev whole : Outcome Device
  whole = promptly s.filler s.capacity (module_actions s.module_ s.memory.symbols) s.memory

  whole_is : whole ≡ prompt s.module_ s.memory s.filler s.capacity
  unfolding prompt
  whole_is = refl

  -- its verdict is the prompt meaning's
  pub ends_as : v ≡ prompt_verdict (prompt s.module_ s.memory s.filler s.capacity)
  ends_as = by whole refl ∙ ap verdict_of whole_is
    where
      by : (o : Outcome Device) → whole ≡ o → v ≡ verdict_of whole
      by (End y) e = same_some v verdict.End (sym is ∙ (agree.ended steps most y e).verdict) ∙ ap verdict_of (sym e)
      by (Fault k y) e = same_some v (verdict.Fault k) (sym is ∙ (agree.faulted steps most k y e).verdict) ∙ ap verdict_of (sym e)

  slow_is : v ≡ verdict.End → (after s steps).core.state.slow ≡ prompt_slow (prompt s.module_ s.memory s.filler s.capacity)
  slow_is q = by whole refl ∙ ap prompt_slow whole_is
    where
      apart : (k : FaultKind) → verdict.End ≡ verdict.Fault k → ⊥
      apart k e = absurd (cc)

      by : (o : Outcome Device) → whole ≡ o → (after s steps).core.state.slow ≡ prompt_slow whole
      by (End y) e = (agree.ended steps most y e).slow ∙ ap prompt_slow (sym e)
      by (Fault k y) e = absurd (apart k (sym q ∙ same_some v (verdict.Fault k) (sym is ∙ (agree.faulted steps most k y e).verdict)))

  -- the memory of a run to the end fits the module
  pub fits_at_end : (image : Image) → image ≡ with_slow s.memory (after s steps).core.state.slow → v ≡ verdict.End → Fits s.module_ image
  fits_at_end image i q =
      let sound = at.stood.sound in
      let law = runs_promptly s.module_ sound.valid s.memory sound.fits s.filler s.capacity in
      subst (Fits s.module_) (sym (i ∙ ap (with_slow s.memory) (slow_is q))) law.fits.fits

pub runs_order : (s : Setting) (pick : ℕ) (v : Verdict) (trace : ℕ) (m : Code) (r : RunBy s pick v trace m) (image : Image) (count : ℕ) → image ≡ with_slow s.memory (after s r.steps).core.state.slow → count ≡ length r.steps
    → RunsOrder s pick (record { verdict = v; image = image; steps = count; trace = trace })
runs_order s pick v trace m r image count i n = record { steps = r.steps; maximal = most s r.steps v m r.at r.verdict_is; picked = r.picked; verdict_is = r.verdict_is; image_is = i; steps_are = n; prompt_is = ends_as s r.steps v m r.at r.verdict_is }

-- ---- the loop

pub record Ran (s : Setting) (pick x trace : ℕ) (m : Code) : Type 0 where
  pub steps : List Step
  pub at : IsAt s steps m
  pub picked : Picked s pick steps trace
  pub number : x ≡ number_after pick steps

pub ran_none : (s : Setting) (pick : ℕ) (m : Code) → IsAt s [] m → Ran s pick pick 0 m
ran_none s pick m at = record { steps = []; at = at; picked = picked_none s pick; number = refl }

pub ran_more : (s : Setting) (pick x y k t u : ℕ) (m m' : Code) → (r : Ran s pick x t m) → y ≡ next_number x → Chooses s r.steps y k m' → u ≡ (t + k) % 2 ^ 64 → Ran s pick y u m'
ran_more s pick x y k t u m m' r f c q = record {
  steps = r.steps ++ c.step ∷ [];
  at = c.at;
  picked = picked_more s pick r.steps x y k t u m' r.picked r.number f c q;
  number = f ∙ ap next_number r.number ∙ sym (number_more pick r.steps c.step);
}

-- one step more is one fewer to come
pub fewer : (s : Setting) (steps : List Step) (step : Step) (m m' : Code) → IsAt s steps m → IsAt s (steps ++ step ∷ []) m' → 2 ^ 48 - m'.steps < 2 ^ 48 - m.steps
fewer s steps step m m' at next =
    let few = few_steps s (steps ++ step ∷ []) next.stood.sound next.stood.run in
    let long = length-append steps (step ∷ []) in
    below m.steps m'.steps (length steps) (length (steps ++ step ∷ [])) at.count next.count long few
  where
    below : (a b n k : ℕ) → a ≡ n → b ≡ k → k ≡ n + 1 → k ≤ 2 ^ 48 → 2 ^ 48 - b < 2 ^ 48 - a
    below a b n k p q r l = omega (arith, p, q, r, l)

pub halts : (s : Setting) (pick x t : ℕ) (m : Code) (v : Verdict) → Ran s pick x t m → m.verdict ≡ Some v → RunBy s pick v t m
halts s pick x t m v r e = record { steps = r.steps; picked = r.picked; at = r.at; verdict_is = r.at.stood.verdict ∙ e }

-- a number taken by how many there are is one of theirs
pub number_below : (x n : ℕ) (l : List Step) → 1 ≤ length l → n ≡ length l → x % n < length l
number_below x n l some e = subst (λ k. x % n < k) e (mod-lt x (omega (arith, some, e)))
