-- Runs whose steps a policy chooses.
use Rattle.std.proofs.Common.{◌≡◌, ℕ, ℤ, zero, suc, ◌+◌, ◌-◌, ◌<◌, ◌≤◌, ◌^◌, Bool, true, false, List, [], ◌∷◌, ◌++◌, length, drop, sym, refl, ap, ◌∙◌, subst, arith, Result, Ok, Err}
use Rattle.std.specs.Prelude.{Option, Some, None, if◌then◌else◌, slice_get}
use Rattle.bus_model.specs.declared.step.Step.{Step}
use Rattle.bus_model.specs.declared.step.Verdict.{Verdict}
use Rattle.bus_model.specs.declared.step.Verdict.TheVariants as verdict
use Rattle.direct_meaning.specs.Memory.{Fits}
use Rattle.affine_ast.specs.declared.image.Image.{Image}
use Rattle.run_laws.specs.StaysFitting.{with_slow}
use Rattle.order_meaning.specs.Machine.{Machine, after_step}
use Rattle.order_meaning.specs.Run.{after_steps}
use Rattle.order_meaning.specs.Listed.{Has}
use Rattle.order_meaning.proofs.Flights.{none_some, same_some, if_true, if_false}
use Rattle.order_meaning.proofs.Listed.{lists_enabled}
use Rattle.order_machine.specs.declared.machine.Machine.{Machine as Code}
use Rattle.order_machine.specs.declared.policies.Policy.{Policy}
use Rattle.order_machine.specs.declared.policies.Policy.TheVariants.{Late, Early, Hold}
use Rattle.order_machine.specs.Standing.{Setting, IsAt, Steps, first_of, after}
use Rattle.order_machine.specs.Policies.{is_of, last_of, other_than, choice, moved_by, moved_after, Choice, Obeys, Obeying, Obeyed, OnlyHeld, RunsPolicy}
use Rattle.order_machine.proofs.Derived.{derived, some_step}
use Rattle.order_machine.proofs.Lists.{going_of}
use Rattle.order_machine.proofs.Chosen.{some_number, is_enabled, fewer, ends_as, fits_at_end}

-- ---- lists

pub last_get : (l : List Step) (k : ℕ) (t : Step) → length l ≡ suc k → slice_get l k ≡ Some t → last_of l ≡ Some t
last_get [] k t e h = absurd (omega (arith, e))
last_get (s ∷ []) zero t e h = h
last_get (s ∷ []) (suc k) t e h = absurd (omega (arith, e))
last_get (s ∷ u ∷ l) zero t e h = absurd (omega (arith, e))
last_get (s ∷ u ∷ l) (suc k) t e h = last_get (u ∷ l) k t (omega (arith, e)) h

pub no_step : (l : List Step) → length l ≡ 0 → l ≡ []
no_step [] e = refl
no_step (s ∷ l) e = absurd (omega (arith, e))

pub other_here : (e : ℕ) (l : List Step) (n : ℕ) (t : Step) → slice_get l n ≡ Some t → is_of e t ≡ false → other_than e (drop n l) ≡ Some t
other_here e [] n t h f = absurd (cc)
other_here e (s ∷ l) zero t h f =
    let q : s ≡ t = same_some s t h in
    if_false (is_of e s) (other_than e l) (Some s) (ap (is_of e) q ∙ f) ∙ ap (λ s. Some s) q
other_here e (s ∷ l) (suc n) t h f = other_here e l n t h f

other_next : (e : ℕ) (l : List Step) (n : ℕ) (t : Step) → slice_get l n ≡ Some t → is_of e t ≡ true → other_than e (drop n l) ≡ other_than e (drop (suc n) l)
other_next e [] n t h f = absurd (cc)
other_next e (s ∷ l) zero t h f = if_true (is_of e s) (other_than e l) (Some s) (ap (is_of e) (same_some s t h) ∙ f)
other_next e (s ∷ l) (suc n) t h f = other_next e l n t h f

pub other_on : (e : ℕ) (l : List Step) (n : ℕ) (t : Step) (o : Option Step) → slice_get l n ≡ Some t → is_of e t ≡ true → other_than e (drop n l) ≡ o → other_than e (drop (n + 1) l) ≡ o
other_on e l n t o h f q =
    let k : suc n ≡ n + 1 = omega arith in
    ap (λ j. other_than e (drop j l)) (sym k) ∙ sym (other_next e l n t h f) ∙ q

pub other_end : (e : ℕ) (l : List Step) (n : ℕ) → length l ≤ n → other_than e (drop n l) ≡ None
other_end e [] zero le = refl
other_end e [] (suc n) le = refl
other_end e (s ∷ l) zero le = absurd (omega (arith, le))
other_end e (s ∷ l) (suc n) le = other_end e l n (omega (arith, le))

-- ---- a choice is one of the enabled steps

last_has : (l : List Step) (t : Step) → last_of l ≡ Some t → Has l t
last_has [] t h = absurd (cc)
last_has (s ∷ []) t h = (0, h)
last_has (s ∷ u ∷ l) t h = let k = last_has (u ∷ l) t h in (suc k.0, k.1)

other_has : (e : ℕ) (l : List Step) (t : Step) → other_than e l ≡ Some t → Has l t
other_has e [] t h = absurd (cc)
other_has e (s ∷ l) t h = by (is_of e s) h (λ q. other_has e l t q)
  where
    by : (b : Bool) → (if b then other_than e l else Some s) ≡ Some t → (other_than e l ≡ Some t → Has l t) → Has (s ∷ l) t
    by true q more = let k = more q in (suc k.0, k.1)
    by false q more = (0, q)

pub choice_has : (p : Policy) (moved : Bool) (l : List Step) (t : Step) → choice p moved l ≡ Some t → Has l t
choice_has Late moved l t h = (0, h)
choice_has Early moved l t h = last_has l t h
choice_has (Hold e) true l t h = other_has e l t h
choice_has (Hold e) false l t h = last_has l t h

-- ---- no choice

last_some : (l : List Step) → 1 ≤ length l → last_of l ≡ None → ⊥
last_some [] some h = omega (arith, some)
last_some (s ∷ []) some h = none_some (Some s) s h refl
last_some (s ∷ u ∷ l) some h = last_some (u ∷ l) (omega arith) h

none_other : (e : ℕ) (l : List Step) → other_than e l ≡ None → (k : ℕ) (t : Step) → slice_get l k ≡ Some t → is_of e t ≡ true
none_other e [] h k t at = absurd (cc)
none_other e (s ∷ l) h k t at = by (is_of e s) refl h k at (λ q k at. none_other e l q k t at)
  where
    by : (b : Bool) → is_of e s ≡ b → (if b then other_than e l else Some s) ≡ None → (k : ℕ) → slice_get (s ∷ l) k ≡ Some t → (other_than e l ≡ None → (k : ℕ) → slice_get l k ≡ Some t → is_of e t ≡ true) → is_of e t ≡ true
    by true q h zero at more = ap (is_of e) (sym (same_some s t at)) ∙ q
    by true q h (suc k) at more = more h k at
    by false q h k at more = absurd (none_some (Some s) s h refl)

pub none_chosen : (p : Policy) (moved : Bool) (l : List Step) → 1 ≤ length l → choice p moved l ≡ None → (e : ℕ) × (p ≡ Hold e) × ((k : ℕ) (t : Step) → slice_get l k ≡ Some t → is_of e t ≡ true)
none_chosen Late moved [] some h = absurd (omega (arith, some))
none_chosen Late moved (s ∷ l) some h = absurd (none_some (Some s) s h refl)
none_chosen Early moved l some h = absurd (last_some l some h)
none_chosen (Hold e) true l some h = (e, refl, none_other e l h)
none_chosen (Hold e) false l some h = absurd (last_some l some h)

-- ---- one step more

module _ (filler : ℤ) (capacity : ℕ) (p : Policy) where
  obeys_more : (moved : Bool) (m : Machine) (steps : List Step) (t : Step) → Obeys filler capacity p moved m steps → Choice p (moved_after p moved steps) (after_steps filler capacity m steps) (Some t) → Obeys filler capacity p moved m (steps ++ t ∷ [])
  obeys_more moved m [] t o c = (c, tt)
  obeys_more moved m (s ∷ steps) t o c = (o.0, obeys_more (moved_by p moved s) (after_step filler capacity s m) steps t o.1 c)

  moved_more : (moved : Bool) (steps : List Step) (t : Step) → moved_after p moved (steps ++ t ∷ []) ≡ moved_by p (moved_after p moved steps) t
  moved_more moved [] t = refl
  moved_more moved (s ∷ steps) t = moved_more (moved_by p moved s) steps t

pub obeying_none : (s : Setting) (p : Policy) (m : Code) → IsAt s [] m → Obeying s p false m
obeying_none s p m at = record { steps = []; at = at; obeys = tt; moved_is = refl }

-- a place in a list that has something
below_of : (l : List Step) (k : ℕ) (t : Step) → slice_get l k ≡ Some t → k < length l
below_of [] k t e = absurd (cc)
below_of (s ∷ l) zero t e = omega arith
below_of (s ∷ l) (suc k) t e = let b = below_of l k t e in omega (arith, b)

module _ (s : Setting) (p : Policy) (moved : Bool) (m : Code) (o : Obeying s p moved m) (t : Step) (c : Choice p moved (after s o.steps) (Some t)) where
  here : Has c.0 t
  here = choice_has p moved c.0 t (sym c.2)

  pub chosen_going : m.verdict ≡ None
  chosen_going = going_of s o.steps m o.at c.0 c.1 here.0 (below_of c.0 here.0 t here.1)

  pub made_at : (E : Type 0) (r : Result (Unit {0}) E) (m' : Code) → Steps s o.steps t r m' → IsAt s (o.steps ++ t ∷ []) m'
  made_at E (Ok done) m' h = h.1
  made_at E (Err err) m' h = absurd (h.0 (is_enabled s o.steps m o.at chosen_going c.0 c.1 here.0 t here.1))

  pub obeying_more : (E : Type 0) (r : Result (Unit {0}) E) (m' : Code) → Steps s o.steps t r m' → (now : Bool) → now ≡ moved_by p moved t → Obeying s p now m'
  obeying_more E r m' h now q = record {
    steps = o.steps ++ t ∷ [];
    at = made_at E r m' h;
    obeys = obeys_more s.filler s.capacity p false (first_of s) o.steps t o.obeys (subst (λ b. Choice p b (after s o.steps) (Some t)) o.moved_is c);
    moved_is = q ∙ ap (λ b. moved_by p b t) o.moved_is ∙ sym (moved_more s.filler s.capacity p false o.steps t);
  }

  pub obeying_fewer : (E : Type 0) (r : Result (Unit {0}) E) (m' : Code) → Steps s o.steps t r m' → 2 ^ 48 - m'.steps < 2 ^ 48 - m.steps
  obeying_fewer E r m' h = fewer s o.steps t m m' o.at (made_at E r m' h)

pub obeyed : (s : Setting) (p : Policy) (moved : Bool) (m : Code) (o : Obeying s p moved m) → Choice p moved (after s o.steps) None → Obeyed s p m
obeyed s p moved m o c = record { steps = o.steps; at = o.at; obeys = o.obeys; halts = subst (λ b. Choice p b (after s o.steps) None) o.moved_is c }

-- ---- the whole run

module _ (s : Setting) (p : Policy) (m : Code) (o : Obeyed s p m) where
  only : (after s o.steps).verdict ≡ None → OnlyHeld p (after s o.steps)
  only here =
      let c = o.halts in
      let n = none_chosen p (moved_after p false o.steps) c.0 (some_number s o.steps m o.at (sym o.at.stood.verdict ∙ here) c.0 c.1) (sym c.2) in
      let d = derived s o.steps o.at.stood.sound o.at.stood.run in
      let some = some_step s o.steps o.at.stood.sound o.at.stood.run here in
      record {
        engine = n.0;
        holds = n.1;
        step = some.step;
        enabled = some.enabled;
        own = λ t en. (let h = (lists_enabled (after s o.steps) d.device d.stands.agree c.0 c.1 t).0 en in n.2 h.0 t h.1);
      }

  pub runs_policy : (v : Option Verdict) (image : Image) (count : ℕ) → v ≡ (after s o.steps).verdict → image ≡ with_slow s.memory (after s o.steps).core.state.slow → count ≡ length o.steps → RunsPolicy s p (record { verdict = v; image = image; steps = count })
  runs_policy v image count is i n = record {
    steps = o.steps;
    run = o.at.stood.run;
    obeys = o.obeys;
    halts = o.halts;
    verdict_is = is;
    held = (λ e. only (sym is ∙ e), λ held. is ∙ held.enabled.going);
    image_is = i;
    steps_are = n;
    prompt_is = λ v e. ends_as s o.steps v m o.at (sym is ∙ e);
  }

  pub fits_after : (v : Option Verdict) (image : Image) → v ≡ (after s o.steps).verdict → image ≡ with_slow s.memory (after s o.steps).core.state.slow → v ≡ Some verdict.End → Fits s.module_ image
  fits_after v image is i e = fits_at_end s o.steps verdict.End m o.at (sym is ∙ e) image i refl
