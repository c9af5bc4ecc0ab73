-- What the calls on the outstanding transfers keep.
use Rattle.std.proofs.Common.{◌≡◌, ℕ, ℤ, Bool, true, false, List, length, sym, refl, ap, ◌∙◌, subst, arith}
use Rattle.std.specs.Prelude.{Option, Some, None, if◌then◌else◌}
use Rattle.std.specs.Bool.{MatchBool}
use Rattle.std.specs.Vec.{with_items}
use Rattle.std.proofs.lemmas.List.{with_items_is}
use Rattle.std.specs.List.{filter}
use Rattle.bus_model.specs.Engines.{Flight, flight_of, with_flight, with_engine, next_in, next_out}
use Rattle.order_meaning.specs.Machine.{transfers_of, CanBeTaken, HasMore, HasAll}
use Rattle.order_meaning.specs.Agree.{TagsApart}
use Rattle.order_meaning.specs.Listed.{IsWaiting}
use Rattle.order_meaning.proofs.Flights.{none_some, held_flight}
use Rattle.order_engines.specs.declared.flying.Flying.{Flying}
use Rattle.order_engines.specs.declared.flights.Flights.{Flights}
use Rattle.order_engines.specs.Flying.{flights_of, MayTake, MayFinish, MayMove, FliesWithin, AllFlyWithin, Changed, IsMoved}
use Rattle.order_engines.specs.Waiting.{IsFlights, IsSame}
use Rattle.order_engines.proofs.Waits.{other_than, busy, taken, fly_on, found_has, engine_flies, moved_flies, apart_with}

-- the same transfers by other values
abbrev pub now_with : Flights → List Flying → Flights
now_with x ws = record { flying = with_items x.flying ws; waiting = x.waiting }

match_map : (b : Bool) (P P' Q Q' : Type 0) → (P → P') → (Q → Q') → MatchBool b P Q → MatchBool b P' Q'
match_map true P P' Q Q' f g m = f m
match_map false P P' Q Q' f g m = g m

pub kept_same : (slow : ℕ) (x now : Flights) → IsSame x now → IsFlights slow x → IsFlights slow now
kept_same slow x now s k = record {
  waiting = subst (λ l. IsWaiting (flights_of l) now.waiting.items) (sym s.flying) (subst (IsWaiting (flights_of x.flying.items)) (sym s.waiting) k.waiting);
  apart = subst (λ l. TagsApart (transfers_of (flights_of l))) (sym s.flying) k.apart;
  fly = subst (λ l. AllFlyWithin slow (flights_of l)) (sym s.flying) k.fly;
}

pub kept_with : (slow : ℕ) (x now : Flights) (t : ℕ) (g : Flight → Flight) → ((h : Flight) → (g h).transfer ≡ h.transfer)
    → flights_of now.flying.items ≡ with_flight (flights_of x.flying.items) t g
    → IsWaiting (with_flight (flights_of x.flying.items) t g) now.waiting.items
    → ((f : Flight) → flight_of (flights_of x.flying.items) t ≡ Some f → FliesWithin slow f → FliesWithin slow (g f))
    → IsFlights slow x → IsFlights slow now
kept_with slow x now t g keeps is waits flies k = record {
  waiting = subst (λ l. IsWaiting l now.waiting.items) (sym is) waits;
  apart = subst (λ l. TagsApart (transfers_of l)) (sym is) (apart_with t g keeps (flights_of x.flying.items) k.apart);
  fly = subst (AllFlyWithin slow) (sym is) (fly_on slow t g (flights_of x.flying.items) flies k.fly);
}

module _ (x : Flights) (old ws : List Flying) (value : old ≡ x.flying.items) (len : length ws ≡ length old) where
  pub items_now : (with_items x.flying ws).items ≡ ws
  items_now = with_items_is x.flying ws (len ∙ ap length value ∙ sym x.flying.ok.0)

  -- what is said of values is said of them where they stand
  told : (b : Bool) (P : List Flight → List Flying → List Flying → Type 0) (Q : List Flight → Type 0) (R : Type 0)
      → MatchBool b (P (flights_of old) old ws) (Q (flights_of old) × (ws ≡ old) × R)
      → MatchBool b (P (flights_of x.flying.items) x.flying.items (with_items x.flying ws).items) (Q (flights_of x.flying.items) × IsSame x (now_with x ws) × R)
  told b P Q R m =
      let first = subst (λ l. MatchBool b (P (flights_of l) l ws) (Q (flights_of l) × (ws ≡ l) × R)) value m in
      let second = subst (λ l. MatchBool b (P (flights_of x.flying.items) x.flying.items l) (Q (flights_of x.flying.items) × (l ≡ x.flying.items) × R)) (sym items_now) first in
      match_map b _ _ _ _ (λ (p : P (flights_of x.flying.items) x.flying.items (with_items x.flying ws).items). p) (λ (q : Q (flights_of x.flying.items) × ((with_items x.flying ws).items ≡ x.flying.items) × R). (q.0, record { flying = q.1; waiting = refl }, q.2)) second

  told_two : (b : Bool) (P : List Flight → List Flying → List Flying → Type 0) (Q : List Flight → Type 0)
      → MatchBool b (P (flights_of old) old ws) (Q (flights_of old) × (ws ≡ old))
      → MatchBool b (P (flights_of x.flying.items) x.flying.items (with_items x.flying ws).items) (Q (flights_of x.flying.items) × IsSame x (now_with x ws))
  told_two b P Q m = match_map b _ _ _ _ (λ (p : P (flights_of x.flying.items) x.flying.items (with_items x.flying ws).items). p) (λ (q : Q (flights_of x.flying.items) × IsSame x (now_with x ws) × Unit {0}). (q.0, q.1))
      (told b P Q (Unit {0}) (match_map b _ _ _ _ (λ (p : P (flights_of old) old ws). p) (λ (q : Q (flights_of old) × (ws ≡ old)). (q.0, q.1, tt)) m))

  pub finish_told : (b : Bool) (n e : ℕ)
      → MatchBool b (MayFinish n e (flights_of old) × Changed old (flights_of ws) e (with_engine None)) ((MayFinish n e (flights_of old) → ⊥) × (ws ≡ old))
      → MatchBool b (MayFinish n e (flights_of x.flying.items) × Changed x.flying.items (flights_of (with_items x.flying ws).items) e (with_engine None)) ((MayFinish n e (flights_of x.flying.items) → ⊥) × IsSame x (now_with x ws))
  finish_told b n e = told_two b (λ fs was now. MayFinish n e fs × Changed was (flights_of now) e (with_engine None)) (λ fs. MayFinish n e fs → ⊥)

  pub finish_kept : (b : Bool) (n e slow : ℕ)
      → MatchBool b (MayFinish n e (flights_of x.flying.items) × Changed x.flying.items (flights_of (with_items x.flying ws).items) e (with_engine None)) ((MayFinish n e (flights_of x.flying.items) → ⊥) × IsSame x (now_with x ws))
      → IsFlights slow x → IsFlights slow (now_with x ws)
  finish_kept true n e slow m k =
      let f = m.1.flight in
      let own = held_flight (flights_of x.flying.items) e f k.apart m.1.held in
      let all = subst HasAll m.1.held m.0.1 in
      let at = found_has (flights_of x.flying.items) f.transfer.tag f own.1 in
      let flies = k.fly at.0 f at.1 in
      kept_with slow x (now_with x ws) f.transfer.tag (with_engine None) (λ h. refl) m.1.changed
      (busy f.transfer.tag (with_engine None) (λ h. refl) (flights_of x.flying.items) f x.waiting.items own.1
      (λ c. none_some f.engine e c.0 own.0)
      (λ c. let some = flies.some_element in omega (arith, c.1, all, some))
      k.waiting)
      (λ h _ w. engine_flies slow None h w) k
  finish_kept false n e slow m k = kept_same slow x (now_with x ws) m.1 k

  pub move_told : (b : Bool) (n e : ℕ) (slow slow' : List ℤ)
      → MatchBool b (MayMove n e (flights_of old) × IsMoved slow old e slow' (flights_of ws)) ((MayMove n e (flights_of old) → ⊥) × (ws ≡ old) × (slow' ≡ slow))
      → MatchBool b (MayMove n e (flights_of x.flying.items) × IsMoved slow x.flying.items e slow' (flights_of (with_items x.flying ws).items)) ((MayMove n e (flights_of x.flying.items) → ⊥) × IsSame x (now_with x ws) × (slow' ≡ slow))
  move_told b n e slow slow' = told b (λ fs was now. MayMove n e fs × IsMoved slow was e slow' (flights_of now)) (λ fs. MayMove n e fs → ⊥) (slow' ≡ slow)

  pub move_kept : (b : Bool) (n e : ℕ) (slow slow' : List ℤ) → length slow' ≡ length slow
      → MatchBool b (MayMove n e (flights_of x.flying.items) × IsMoved slow x.flying.items e slow' (flights_of (with_items x.flying ws).items)) ((MayMove n e (flights_of x.flying.items) → ⊥) × IsSame x (now_with x ws) × (slow' ≡ slow))
      → IsFlights (length slow) x → IsFlights (length slow') (now_with x ws)
  move_kept true n e slow slow' long m k =
      let f = m.1.flight in
      let g : Flight → Flight = (if f.transfer.incoming then next_in slow else next_out) in
      let own = held_flight (flights_of x.flying.items) e f k.apart m.1.held in
      let more = subst HasMore m.1.held m.0.1 in
      let keeps = same_transfer f.transfer.incoming slow in
      subst (λ n. IsFlights n (now_with x ws)) (sym long) (kept_with (length slow) x (now_with x ws) f.transfer.tag g keeps m.1.changed
      (busy f.transfer.tag g keeps (flights_of x.flying.items) f x.waiting.items own.1
      (λ c. none_some f.engine e c.0 own.0)
      (λ c. none_some (g f).engine e c.0 (same_engine f.transfer.incoming slow f ∙ own.0))
      k.waiting)
      (λ h q w. subst (λ (z : Flight). FliesWithin (length slow) (g z)) (sym (same f h (sym q ∙ own.1))) (moved_flies (length slow) slow f more (subst (FliesWithin (length slow)) (same f h (sym q ∙ own.1)) w))) k)
    where
      same : (f h : Flight) → Some h ≡ Some f → h ≡ f
      same f h q = cc

      same_transfer : (b : Bool) (slow : List ℤ) (h : Flight) → ((if b then next_in slow else next_out) h).transfer ≡ h.transfer
      same_transfer true slow h = refl
      same_transfer false slow h = refl

      same_engine : (b : Bool) (slow : List ℤ) (h : Flight) → ((if b then next_in slow else next_out) h).engine ≡ h.engine
      same_engine true slow h = refl
      same_engine false slow h = refl
  move_kept false n e slow slow' long m k = subst (λ n. IsFlights n (now_with x ws)) (sym long) (kept_same (length slow) x (now_with x ws) m.1 k)

  pub take_refused : (n e t : ℕ) → (MayTake n e t (flights_of old) → ⊥) × (ws ≡ old) → (MayTake n e t (flights_of x.flying.items) → ⊥) × IsSame x (now_with x ws)
  take_refused n e t m = told_two false (λ fs was now. Unit {0}) (λ fs. MayTake n e t fs → ⊥) m

  pub take_told : (n e t : ℕ) → MayTake n e t (flights_of old) × (flights_of ws ≡ with_flight (flights_of old) t (with_engine (Some e)))
      → MayTake n e t (flights_of x.flying.items) × (flights_of (with_items x.flying ws).items ≡ with_flight (flights_of x.flying.items) t (with_engine (Some e)))
  take_told n e t m = told_two true (λ fs was now. MayTake n e t fs × (flights_of now ≡ with_flight fs t (with_engine (Some e)))) (λ fs. Unit {0}) m

-- an engine has taken a transfer, and its tag is no longer among those that can be taken
pub take_kept : (slow : ℕ) (x now : Flights) (n e t : ℕ) → MayTake n e t (flights_of x.flying.items) × (flights_of now.flying.items ≡ with_flight (flights_of x.flying.items) t (with_engine (Some e)))
    → now.waiting.items ≡ filter (other_than t) x.waiting.items → IsFlights slow x → IsFlights slow now
take_kept slow x now n e t m tags k = by (flight_of (flights_of x.flying.items) t) refl m.0.2
  where
    by : (o : Option Flight) → flight_of (flights_of x.flying.items) t ≡ o → CanBeTaken o → IsFlights slow now
    by None q c = absurd c
    by (Some f) q c = kept_with slow x now t (with_engine (Some e)) (λ h. refl) m.1
        (subst (IsWaiting (with_flight (flights_of x.flying.items) t (with_engine (Some e)))) (sym tags) (taken t e (flights_of x.flying.items) f x.waiting.items q k.waiting))
        (λ h _ w. engine_flies slow (Some e) h w) k
