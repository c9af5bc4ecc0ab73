-- A transfer that starts, and one that is collected.
use Rattle.std.proofs.Common.{◌≡◌, ⊎_elim, inl, inr, ℕ, suc, ℤ, List, [], ◌∷◌, ◌++◌, get_or, true, arith, sym, refl, ap, ◌∙◌, subst, eq-eqb, ne_eqb}
use Rattle.std.specs.Prelude.{Option, Some, None, nat_eq, slice_get}
use Rattle.std.specs.List.{remove}
use Rattle.std.proofs.lemmas.Bool.{and_parts}
use native.Mathlib.Decide.{ℕ_discrete}
use Rattle.bus_model.specs.declared.transfer.Transfer.{Transfer}
use Rattle.bus_model.specs.Engines.{Flight, flight_of}
use Rattle.order_meaning.specs.Machine.{transfers_of, CanBeTaken, sent, without_flight, is_free, is_finished}
use Rattle.order_meaning.specs.Agree.{TagsApart}
use Rattle.order_meaning.specs.Listed.{Has, IsWaiting}
use Rattle.order_meaning.proofs.Flights.{if_true, if_false, record_of_no_flight, no_flight_of_record, tags_behind, flight_behind, flight_before, transfers_behind, record_gone, tags_without, transfers_without, flight_without}
use Rattle.order_meaning.proofs.Listed.{has_either}
use Rattle.order_meaning.proofs.Sides.{same_number}
use Rattle.prompt_semantics.specs.Device.{record_of}
use Rattle.order_engines.specs.declared.flying.Flying.{Flying}
use Rattle.order_engines.specs.declared.flights.Flights.{Flights}
use Rattle.order_engines.specs.Flying.{flight, flights_of, IsPlaceOf, FliesWithin, AllFlyWithin}
use Rattle.order_engines.specs.Waiting.{IsFlights, IsPut}
use Rattle.order_engines.proofs.Waits.{cons_has, found_has}
use Rattle.order_engines.proofs.Places.{value_at}

-- a tag that isn't started isn't among those that can be taken
pub not_waiting : (fs : List Flight) (tags : List ℕ) (t : ℕ) → IsWaiting fs tags → flight_of fs t ≡ None → Has tags t → ⊥
not_waiting fs tags t w idle h = subst CanBeTaken idle ((w.members t).1 h)

pub flights_behind : (fs : List Flying) (f : Flying) → flights_of (fs ++ f ∷ []) ≡ flights_of fs ++ flight f ∷ []
flights_behind [] f = refl
flights_behind (x ∷ fs) f = ap (λ l. flight x ∷ l) (flights_behind fs f)

waits_behind : (fs : List Flight) (t : Transfer) (cells : List ℤ) (tags after : List ℕ) → flight_of fs t.tag ≡ None → IsWaiting fs tags → IsPut t.tag tags after → IsWaiting (fs ++ sent t cells ∷ []) after
waits_behind fs t cells tags after idle w put = record {
  ascending = put.ascending;
  members = λ u. elim (ℕ_discrete t.tag u) [
    | yes e ↦ (
      (λ c. (put.members u).1 (inl (sym e))),
      (λ h. subst CanBeTaken (sym (ap (flight_of (fs ++ sent t cells ∷ [])) (sym e) ∙ flight_behind fs (sent t cells) idle)) (refl, refl)),
    )
    | no ne ↦ (
      (λ c. (put.members u).1 (inr ((w.members u).0 (subst CanBeTaken (flight_before fs (sent t cells) u ne) c)))),
      (λ h. ⊎_elim
          (λ (e : u ≡ t.tag). absurd (ne (sym e)))
          (λ (m : Has tags u). subst CanBeTaken (sym (flight_before fs (sent t cells) u ne)) ((w.members u).1 m))
          ((put.members u).0 h)),
    )
  ];
}

pub started : (slow : ℕ) (x now : Flights) (t : Transfer) (cells : List ℤ) → flight_of (flights_of x.flying.items) t.tag ≡ None
    → flights_of now.flying.items ≡ flights_of x.flying.items ++ sent t cells ∷ [] → IsPut t.tag x.waiting.items now.waiting.items
    → FliesWithin slow (sent t cells) → IsFlights slow x → IsFlights slow now
started slow x now t cells idle is put flies k = record {
  waiting = subst (λ l. IsWaiting l now.waiting.items) (sym is) (waits_behind (flights_of x.flying.items) t cells x.waiting.items now.waiting.items idle k.waiting put);
  apart = subst (λ l. TagsApart (transfers_of l)) (sym is) (subst TagsApart (sym (transfers_behind (flights_of x.flying.items) (sent t cells))) (tags_behind (transfers_of (flights_of x.flying.items)) t k.apart (record_of_no_flight (flights_of x.flying.items) t.tag idle)));
  fly = subst (AllFlyWithin slow) (sym is) (λ j f h. ⊎_elim
      (λ (m : Has (flights_of x.flying.items) f). k.fly m.0 f m.1)
      (λ (m : Has (sent t cells ∷ []) f). ⊎_elim
      (λ (e : sent t cells ≡ f). subst (FliesWithin slow) e flies)
      (λ (r : Has [] f). absurd (let q = r.1 in cc))
      (cons_has (sent t cells) f [] m.0 m.1))
      (has_either (flights_of x.flying.items) (sent t cells ∷ []) f j h));
}

-- ---- collected

gone : (fs : List Flight) (t : ℕ) → TagsApart (transfers_of fs) → flight_of (without_flight t fs) t ≡ None
gone fs t apart = no_flight_of_record (without_flight t fs) t (ap (record_of t) (transfers_without fs t) ∙ record_gone (transfers_of fs) t apart)

without_has : (fs : List Flight) (t k : ℕ) (f : Flight) → slice_get (without_flight t fs) k ≡ Some f → Has fs f
without_has [] t k f h = absurd (cc)
without_has (x ∷ fs) t k f h = elim (ℕ_discrete x.transfer.tag t) [
  | yes e ↦ (suc k, ap (λ l. slice_get l k) (sym (if_true (nat_eq x.transfer.tag t) fs (x ∷ without_flight t fs) (eq-eqb x.transfer.tag t e))) ∙ h)
  | no ne ↦ ⊎_elim
      (λ (q : x ≡ f). (0, ap Some q))
      (λ (m : Has (without_flight t fs) f). let r = without_has fs t m.0 f m.1 in (suc r.0, r.1))
      (cons_has x f (without_flight t fs) k (ap (λ l. slice_get l k) (sym (if_false (nat_eq x.transfer.tag t) fs (x ∷ without_flight t fs) (ne_eqb x.transfer.tag t ne))) ∙ h))
]

pub collected : (slow : ℕ) (x now : Flights) (t : ℕ) → ((f : Flight) → flight_of (flights_of x.flying.items) t ≡ Some f → is_finished f ≡ true)
    → flights_of now.flying.items ≡ without_flight t (flights_of x.flying.items) → now.waiting.items ≡ x.waiting.items → IsFlights slow x → IsFlights slow now
collected slow x now t finished is tags k = record {
  waiting = subst (λ l. IsWaiting l now.waiting.items) (sym is) (subst (IsWaiting (without_flight t (flights_of x.flying.items))) (sym tags) waits);
  apart = subst (λ l. TagsApart (transfers_of l)) (sym is) (subst TagsApart (sym (transfers_without (flights_of x.flying.items) t)) (tags_without (transfers_of (flights_of x.flying.items)) t k.apart));
  fly = subst (AllFlyWithin slow) (sym is) (λ j f h. let m = without_has (flights_of x.flying.items) t j f h in k.fly m.0 f m.1);
}
  where
    not_taken : (o : Option Flight) → flight_of (flights_of x.flying.items) t ≡ o → CanBeTaken o → ⊥
    not_taken None q c = c
    not_taken (Some f) q c =
        let m = found_has (flights_of x.flying.items) t f q in
        let some = (k.fly m.0 f m.1).some_element in
        let all = same_number f.moved f.transfer.count (and_parts (nat_eq f.moved f.transfer.count) (is_free f.engine) (finished f q)).0 in
        omega (arith, some, all, c.1)

    waits : IsWaiting (without_flight t (flights_of x.flying.items)) x.waiting.items
    waits = record {
      ascending = k.waiting.ascending;
      members = λ u. elim (ℕ_discrete u t) [
        | yes e ↦ (
          (λ c. absurd (subst CanBeTaken (ap (flight_of (without_flight t (flights_of x.flying.items))) e ∙ gone (flights_of x.flying.items) t k.apart) c)),
          (λ h. absurd (not_taken (flight_of (flights_of x.flying.items) t) refl (subst (λ v. CanBeTaken (flight_of (flights_of x.flying.items) v)) e ((k.waiting.members u).1 h)))),
        )
        | no ne ↦ (
          (λ c. (k.waiting.members u).0 (subst CanBeTaken (flight_without (flights_of x.flying.items) t u ne) c)),
          (λ h. subst CanBeTaken (sym (flight_without (flights_of x.flying.items) t u ne)) ((k.waiting.members u).1 h)),
        )
      ];
    }

pub collected_at : (x : Flights) (old : List Flying) → old ≡ x.flying.items → (t k : ℕ) (f r : Flying) → IsPlaceOf old t k f → r ≡ get_or x.flying.items k r → (after : List Flying) → after ≡ remove x.flying.items k
    → (flight_of (flights_of x.flying.items) t ≡ Some (flight r)) × (flights_of after ≡ without_flight t (flights_of x.flying.items))
collected_at x old value t k f r p q after a =
    let place = subst (λ l. IsPlaceOf l t k f) value p in
    let e : r ≡ f = q ∙ value_at x.flying.items k f r place.at in
    (place.found ∙ ap (λ z. Some (flight z)) (sym e), ap flights_of a ∙ sym place.without)
