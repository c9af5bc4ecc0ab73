-- The enabled steps as the code lists them.
use Rattle.std.proofs.Common.{◌≡◌, ℕ, zero, suc, ◌+◌, ◌*◌, ◌-◌, ◌<◌, ◌≤◌, ◌^◌, true, false, List, [], ◌∷◌, ◌++◌, length, sym, refl, ap, ◌∙◌, subst, arith}
use Rattle.std.specs.Prelude.{Option, Some, None, slice_get, if◌then◌else◌}
use Rattle.bus_model.specs.declared.step.Step.{Step}
use Rattle.bus_model.specs.declared.step.Step.TheVariants.{Compute}
use Rattle.bus_model.specs.declared.step.Verdict.{Verdict}
use Rattle.bus_model.specs.Engines.{Flight}
use Rattle.direct_meaning.specs.Action.{Action as Meaning}
use Rattle.walk_actions.specs.declared.action.Action.{Action}
use Rattle.walk_actions.specs.declared.action.Action.TheVariants as code
use Rattle.walk_actions.specs.declared.action.Operand.{Operand}
use Rattle.walk_actions.specs.Meant.{meant}
use Rattle.affine_ast.specs.declared.name.Name.{Name}
use Rattle.order_meaning.specs.Machine.{is_held_up, held_by, CanCompute}
use Rattle.order_meaning.specs.Listed.{IsWaiting, compute_steps, engine_steps, steps_from, listed, IsListed}
use Rattle.order_meaning.proofs.Flights.{both_ways}
use Rattle.order_meaning.proofs.Listed.{lists_one}
use Rattle.order_engines.specs.Flying.{flights_of}
use Rattle.order_engines.proofs.Waits.{length_both, few_steps}
use Rattle.order_memory.proofs.Starts.{few_waiting}
use Rattle.order_machine.specs.declared.machine.Machine.{Machine}
use Rattle.order_machine.specs.Standing.{Setting, IsAt, stuck, left_of, after}
use Rattle.order_machine.proofs.Derived.{engines_are, flights_fit}

-- what isn't a wait isn't held up
pub no_wait : (names : List Name) (subscripts : List Operand) (a : Action) (flights : List Flight) → ((tag count : ℕ) → a ≡ code.Waits tag count → ⊥) → is_held_up (meant names subscripts a) flights ≡ false
unfolding meant
no_wait names subscripts code.Known flights ne = refl
no_wait names subscripts (code.Sets into value) flights ne = refl
no_wait names subscripts (code.Loads into place) flights ne = refl
no_wait names subscripts (code.Stores value place) flights ne = refl
no_wait names subscripts (code.RawLoads into home sizes) flights ne = refl
no_wait names subscripts (code.RawStores value home sizes) flights ne = refl
no_wait names subscripts (code.Operates into op ty left right) flights ne = refl
no_wait names subscripts (code.Converts into kind from to value) flights ne = refl
no_wait names subscripts (code.Allocates number element sizes) flights ne = refl
no_wait names subscripts (code.Releases number element sizes) flights ne = refl
no_wait names subscripts (code.AllocatesTags first count) flights ne = refl
no_wait names subscripts (code.ReleasesTags first count) flights ne = refl
no_wait names subscripts (code.Starts t) flights ne = refl
no_wait names subscripts (code.Waits tag count) flights ne = absurd (ne tag count refl)
no_wait names subscripts (code.Faults kind) flights ne = refl
no_wait names subscripts code.Returns flights ne = refl

-- the step of the next action
own_stuck : (rest : List Meaning) (flights : List Flight) → stuck rest flights ≡ true → compute_steps rest flights ≡ []
own_stuck [] flights e = refl
own_stuck (a ∷ more) flights e = ap (λ b. if b then [] else Compute ∷ []) e

own_free : (rest : List Meaning) (flights : List Flight) → stuck rest flights ≡ false → compute_steps rest flights ≡ Compute ∷ []
own_free [] flights e = absurd (cc)
own_free (a ∷ more) flights e = ap (λ b. if b then [] else Compute ∷ []) e

pub can_compute : (rest : List Meaning) (flights : List Flight) → stuck rest flights ≡ false → CanCompute rest flights
can_compute [] flights e = absurd (cc)
can_compute (a ∷ more) flights e = e

pub cannot : (rest : List Meaning) (flights : List Flight) → stuck rest flights ≡ true → CanCompute rest flights → ⊥
cannot [] flights e k = k
cannot (a ∷ more) flights e k = absurd (both_ways (is_held_up a flights) e k)

-- so many engines have few steps
pub few_from : (flights : List Flight) (tags : List ℕ) → length tags < 2 ^ 31 → (e n : ℕ) → length (steps_from flights tags e n) ≤ n * (2 ^ 31)
few_from flights tags few e zero = omega arith
few_from flights tags few e (suc n) =
    let own = few_steps flights tags e few in
    let rest = few_from flights tags few (suc e) n in
    let both = length_both (engine_steps tags e (held_by flights e)) (steps_from flights tags (suc e) n) in
    omega (arith, own, rest, both)

module _ (s : Setting) (steps : List Step) (m : Machine) (at : IsAt s steps m) where
  abbrev flights : List Flight
  flights = flights_of m.memory.flights.flying.items

  abbrev tags : List ℕ
  tags = m.memory.flights.waiting.items

  waits : IsWaiting (after s steps).core.flights tags
  waits = subst (λ fs. IsWaiting fs tags) (sym at.stood.tied.flights) at.stood.tied.fly.waiting

  pub none_listed : (v : Verdict) → m.verdict ≡ Some v → IsListed (after s steps) []
  none_listed v e = record { tags = tags; waiting = waits; is = ap (λ v. listed v (after s steps) tags) (sym (at.stood.verdict ∙ e)) }

  module _ (going : m.verdict ≡ None) where
    here : (after s steps).verdict ≡ None
    here = at.stood.verdict ∙ going

    abbrev of_engines : List Step
    of_engines = steps_from flights tags 0 m.engines

    abbrev all : List Step
    all = compute_steps (left_of m.next m.walk) flights ++ of_engines

    pub all_listed : IsListed (after s steps) all
    all_listed =
        let x = after s steps in
        record {
          tags = tags;
          waiting = waits;
          is = (λ k. compute_steps (sym (at.stood.rest here) k) (sym at.stood.tied.flights k) ++ steps_from (sym at.stood.tied.flights k) tags 0 ((at.stood.engines ∙ sym (engines_are s steps at.stood.sound at.stood.run)) k)) ∙ ap (λ v. listed v x tags) (sym here);
        }

    pub few_tags : length tags < 2 ^ 31
    few_tags =
        let k = few_waiting _ (after s steps).core.flights tags (flights_fit s steps at.stood.sound at.stood.run here) waits in omega (arith, k)

    pub counted_stuck : stuck (left_of m.next m.walk) flights ≡ true → length of_engines ≡ length all
    counted_stuck e = sym (ap (λ l. length (l ++ of_engines)) (own_stuck (left_of m.next m.walk) flights e))

    pub counted_free : stuck (left_of m.next m.walk) flights ≡ false → length of_engines + 1 ≡ length all
    counted_free e = plus (length of_engines) ∙ sym (ap (λ l. length (l ++ of_engines)) (own_free (left_of m.next m.walk) flights e))
      where
        plus : (n : ℕ) → n + 1 ≡ suc n
        plus n = omega arith

    module _ (enabled : List Step) (is : IsListed (after s steps) enabled) where
      one : enabled ≡ all
      one = lists_one (after s steps) enabled all is all_listed

      pub stuck_below : (n : ℕ) → n < length enabled → stuck (left_of m.next m.walk) flights ≡ true → n < length of_engines
      stuck_below n lt e = let l = ap (λ l. length l) one ∙ sym (counted_stuck e) in omega (arith, lt, l)

      pub stuck_nth : (n : ℕ) (step : Step) → stuck (left_of m.next m.walk) flights ≡ true → slice_get of_engines n ≡ Some step → slice_get enabled n ≡ Some step
      stuck_nth n step e h = ap (λ l. slice_get l n) (one ∙ ap (λ l. l ++ of_engines) (own_stuck (left_of m.next m.walk) flights e)) ∙ h

      pub free_first : (n : ℕ) → n ≡ 0 → stuck (left_of m.next m.walk) flights ≡ false → slice_get enabled n ≡ Some Compute
      free_first n z e = (λ k. slice_get ((one ∙ ap (λ l. l ++ of_engines) (own_free (left_of m.next m.walk) flights e)) k) (z k))

      pub free_below : (n k : ℕ) → n < length enabled → (n ≡ 0 → ⊥) → k ≡ n - 1 → stuck (left_of m.next m.walk) flights ≡ false → k < length of_engines
      free_below n k lt ne is e = let l = ap (λ l. length l) one ∙ sym (counted_free e) in below n k (length enabled) (length of_engines) lt ne is l
        where
          below : (n k a b : ℕ) → n < a → (n ≡ 0 → ⊥) → k ≡ n - 1 → a ≡ b + 1 → k < b
          below zero k a b lt ne is e = absurd (ne refl)
          below (suc n) k a b lt ne is e = omega (arith, lt, is, e)

      pub free_nth : (n k : ℕ) (step : Step) → (n ≡ 0 → ⊥) → k ≡ n - 1 → stuck (left_of m.next m.walk) flights ≡ false → slice_get of_engines k ≡ Some step → slice_get enabled n ≡ Some step
      free_nth zero k step ne p e h = absurd (ne refl)
      free_nth (suc n) k step ne p e h =
          let q : k ≡ n = omega (arith, p) in
          ap (λ l. slice_get l (suc n)) (one ∙ ap (λ l. l ++ of_engines) (own_free (left_of m.next m.walk) flights e)) ∙ ap (slice_get of_engines) (sym q) ∙ h

-- there is a step by each number that isn't past the last
pub not_past : (l : List Step) (n : ℕ) → n < length l → slice_get l n ≡ None → ⊥
not_past [] n lt e = omega (arith, lt)
not_past (s ∷ l) zero lt e = absurd (cc)
not_past (s ∷ l) (suc n) lt e = not_past l n (omega (arith, lt)) e

-- a machine with a step has no verdict
pub going_of : (s : Setting) (steps : List Step) (m : Machine) → IsAt s steps m → (enabled : List Step) → IsListed (after s steps) enabled → (n : ℕ) → n < length enabled → m.verdict ≡ None
going_of s steps m at enabled is n lt = by m.verdict refl
  where
    by : (v : Option Verdict) → m.verdict ≡ v → m.verdict ≡ None
    by None e = e
    by (Some v) e =
        let one = lists_one (after s steps) enabled [] is (none_listed s steps m at v e) in
        let k = ap (λ l. length l) one in absurd (omega (arith, lt, k))
