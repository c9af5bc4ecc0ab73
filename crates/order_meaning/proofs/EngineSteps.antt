-- The engines' steps keep the agreement, and each is one step less to make.
use Rattle.std.proofs.Common.{◌≡◌, ◌≢◌, ◌⊎◌, inl, inr, ⊎_elim, ℕ, ℤ, suc, ◌+◌, ◌-◌, ◌<◌, ◌≤◌, Bool, true, false, List, sym, refl, ap, ◌∙◌, subst, arith, ne_eqb}
use Rattle.std.specs.Prelude.{Option, Some, None, if◌then◌else◌, nat_eq}
use native.Mathlib.Decide.{ℕ_discrete}
use Rattle.bus_model.specs.declared.transfer.Transfer.{Transfer}
use Rattle.bus_model.specs.Engines.{Flight, flight_of, with_flight, with_engine, next_in, next_out, slow_out, take, move_in, move_out, finish, Agree as BusAgrees}
use Rattle.bus_model.proofs.Orders.{with_here, with_else, step_keeps}
use Rattle.prompt_semantics.specs.Device.{Device}
use Rattle.order_meaning.specs.Machine.{Core, held_by, with_next, with_finished}
use Rattle.order_meaning.specs.Run.{steps_left, left_by, all_left}
use Rattle.order_meaning.specs.Agree.{bus_of, prompt_of, TagsApart, IsSteady, FlightOk, Agree}
use Rattle.order_meaning.proofs.Flights.{same_some, none_some, held_flight, none_held, transfers_with, left_with}

-- what a step of an engine leaves
pub record Stepped (n : ℕ) (x x' : Core) (y : Device) : Type 0 where
  pub agree : Agree n x' y
  pub one_less : suc (all_left x'.flights) ≡ all_left x.flights

module _ (n : ℕ) (x : Core) (y : Device) (a : Agree n x y) where
  module _ (t : ℕ) (f : Flight) (here : flight_of x.flights t ≡ Some f) (g : Flight → Flight) (keeps : (h : Flight) → (g h).transfer ≡ h.transfer) where
    -- a transfer after the step is the changed one, or one that was there
    whose : (u : ℕ) (h : Flight) → flight_of (with_flight x.flights t g) u ≡ Some h → ((u ≡ t) × (g f ≡ h)) ⊎ ((u ≢ t) × (flight_of x.flights u ≡ Some h))
    whose u h is = elim (ℕ_discrete u t) [
      | yes e ↦ inl (e, same_some (g f) h (sym (ap (flight_of (with_flight x.flights t g)) e ∙ with_here t g keeps x.flights f here) ∙ is))
      | no ne ↦ inr (ne, sym (with_else t g keeps x.flights u ne) ∙ is)
    ]

    changed : (slow' : List ℤ) → BusAgrees (record { slow = slow'; flights = with_flight x.flights t g }) (prompt_of y) → FlightOk n (g f)
        → ((e v : ℕ) (k : Flight) → v ≢ t → flight_of x.flights v ≡ Some k → (g f).engine ≡ Some e → k.engine ≡ Some e → ⊥)
        → suc (steps_left (g f)) ≡ steps_left f
        → Stepped n x (record x { state = record x.state { slow = slow' }; flights = with_flight x.flights t g }) y
    changed slow' bus ok alone less = record {
      agree = record {
        bus = bus;
        flights = λ u h is. ⊎_elim (λ (p : (u ≡ t) × (g f ≡ h)). subst (FlightOk n) p.1 ok) (λ (p : (u ≢ t) × (flight_of x.flights u ≡ Some h)). a.flights u h p.1) (whose u h is);
        engines_apart = λ u v e h k ih ik eh ek. ⊎_elim
            (λ (p : (u ≡ t) × (g f ≡ h)). ⊎_elim
            (λ (q : (v ≡ t) × (g f ≡ k)). p.0 ∙ sym q.0)
            (λ (q : (v ≢ t) × (flight_of x.flights v ≡ Some k)). absurd (alone e v k q.0 q.1 (ap (λ (z : Flight). z.engine) p.1 ∙ eh) ek))
            (whose v k ik))
            (λ (p : (u ≢ t) × (flight_of x.flights u ≡ Some h)). ⊎_elim
            (λ (q : (v ≡ t) × (g f ≡ k)). absurd (alone e u h p.0 p.1 (ap (λ (z : Flight). z.engine) q.1 ∙ ek) eh))
            (λ (q : (v ≢ t) × (flight_of x.flights v ≡ Some k)). a.engines_apart u v e h k p.1 q.1 eh ek)
            (whose v k ik))
            (whose u h ih);
        here = a.here;
        away = a.away;
        tags_apart = a.tags_apart;
        registers = a.registers;
        live = a.live;
        records = transfers_with t g keeps x.flights ∙ a.records;
      };
      one_less = sums (all_left (with_flight x.flights t g)) (steps_left f) (all_left x.flights) (steps_left (g f)) (left_with t g x.flights f here) less;
    }
      where
        sums : (w f xs gf : ℕ) → w + f ≡ xs + gf → suc gf ≡ f → suc w ≡ xs
        sums w f xs gf p q = omega (arith, p, q)

  -- Take
  pub taken : (e t : ℕ) (f : Flight) → e < n → held_by x.flights e ≡ None → flight_of x.flights t ≡ Some f → f.engine ≡ None → f.moved ≡ 0
      → Stepped n x (record x { flights = with_flight x.flights t (with_engine (Some e)) }) y
  taken e t f less idle here free none_yet =
      changed t f here (with_engine (Some e)) (λ _. refl) x.state.slow
      (step_keeps (bus_of x) _ (prompt_of y) a.bus (take (bus_of x) e t f (λ u h is. none_held x.flights e idle u h is) here free none_yet))
      (record { steady = less; not_past = (a.flights t f here).not_past })
      (λ d v k ne is p q. none_held x.flights e idle v k is (q ∙ sym p))
      (count f.moved none_yet ∙ sym (ap (λ o. left_by o f.moved f.transfer.count) free))
    where
      count : (m : ℕ) → m ≡ 0 → suc (f.transfer.count - m + 1) ≡ (if nat_eq m 0 then f.transfer.count + 2 else 0)
      count m z = ap (λ m. suc (f.transfer.count - m + 1)) z ∙ sum f.transfer.count ∙ sym (ap (λ m. if nat_eq m 0 then f.transfer.count + 2 else 0) z)
        where
          sum : (c : ℕ) → suc (c - 0 + 1) ≡ c + 2
          sum c = omega arith

  -- an engine that holds a transfer holds no other
  single : (e t : ℕ) (f : Flight) → flight_of x.flights t ≡ Some f → f.engine ≡ Some e → (d v : ℕ) (k : Flight) → v ≢ t → flight_of x.flights v ≡ Some k → f.engine ≡ Some d → k.engine ≡ Some d → ⊥
  single e t f here engine d v k ne is p q = ne (a.engines_apart v t d k f is here q p)

  -- Move
  pub moved : (e : ℕ) (f : Flight) → e < n → held_by x.flights e ≡ Some f → f.moved < f.transfer.count → Stepped n x (with_next (Some f) x) y
  moved e f less held more = by f.transfer.incoming refl
    where
      engine : f.engine ≡ Some e
      engine = (held_flight x.flights e f (subst TagsApart (sym a.records) a.tags_apart) held).0

      here : flight_of x.flights f.transfer.tag ≡ Some f
      here = (held_flight x.flights e f (subst TagsApart (sym a.records) a.tags_apart) held).1

      ok : (g : Flight) → g.engine ≡ f.engine → g.moved ≡ f.moved + 1 → g.transfer ≡ f.transfer → FlightOk n g
      ok g same one keeps = record {
        steady = subst (λ o. IsSteady n o g) (sym (same ∙ engine)) less;
        not_past = let c : g.transfer.count ≡ f.transfer.count = ap (λ (t : Transfer). t.count) keeps in bound g.moved f.moved g.transfer.count f.transfer.count one c more;
      }
        where
          bound : (gm fm gc fc : ℕ) → gm ≡ fm + 1 → gc ≡ fc → fm < fc → gm ≤ gc
          bound gm fm gc fc p q r = omega (arith, p, q, r)

      count : (o : Option ℕ) (m c : ℕ) → o ≡ Some e → m < c → suc (left_by o (m + 1) c) ≡ left_by o m c
      count o m c is lt = ap (λ o. suc (left_by o (m + 1) c)) is ∙ sum m c lt ∙ sym (ap (λ o. left_by o m c) is)
        where
          sum : (m c : ℕ) → m < c → suc (c - (m + 1) + 1) ≡ c - m + 1
          sum m c lt = omega (arith, lt)

      by : (b : Bool) → f.transfer.incoming ≡ b
          → Stepped n x (if b then record x { flights = with_flight x.flights f.transfer.tag (next_in x.state.slow) } else record x { state = record x.state { slow = slow_out x.state.slow f }; flights = with_flight x.flights f.transfer.tag next_out }) y
      by true inc = changed f.transfer.tag f here (next_in x.state.slow) (λ _. refl) x.state.slow
          (step_keeps (bus_of x) _ (prompt_of y) a.bus (move_in (bus_of x) e f.transfer.tag f here engine inc more))
          (ok (next_in x.state.slow f) refl refl refl)
          (single e f.transfer.tag f here engine)
          (count f.engine f.moved f.transfer.count engine more)
      by false out = changed f.transfer.tag f here next_out (λ _. refl) (slow_out x.state.slow f)
          (step_keeps (bus_of x) _ (prompt_of y) a.bus (move_out (bus_of x) e f.transfer.tag f here engine out more))
          (ok (next_out f) refl refl refl)
          (single e f.transfer.tag f here engine)
          (count f.engine f.moved f.transfer.count engine more)

  -- Finish
  pub finished : (e : ℕ) (f : Flight) → held_by x.flights e ≡ Some f → f.moved ≡ f.transfer.count → 1 ≤ f.transfer.count → Stepped n x (with_finished (Some f) x) y
  finished e f held all some =
      let own = held_flight x.flights e f (subst TagsApart (sym a.records) a.tags_apart) held in
      changed f.transfer.tag f own.1 (with_engine None) (λ _. refl) x.state.slow
      (step_keeps (bus_of x) _ (prompt_of y) a.bus (finish (bus_of x) e f.transfer.tag f own.1 own.0 all))
      (record { steady = inr all; not_past = (a.flights f.transfer.tag f own.1).not_past })
      (λ d v k ne is p q. none_some None d refl p)
      (count f.moved f.transfer.count all some ∙ sym (ap (λ o. left_by o f.moved f.transfer.count) own.0))
    where
      count : (m c : ℕ) → m ≡ c → 1 ≤ c → suc (if nat_eq m 0 then c + 2 else 0) ≡ c - m + 1
      count m c e some = ap (λ b. suc (if b then c + 2 else 0)) (ne_eqb m 0 (λ z. omega (arith, e, some, z))) ∙ sum m c e
        where
          sum : (m c : ℕ) → m ≡ c → suc 0 ≡ c - m + 1
          sum m c e = omega (arith, e)
