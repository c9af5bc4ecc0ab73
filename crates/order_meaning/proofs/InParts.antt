-- The agreement's parts.
use Rattle.std.proofs.Common.{◌≡◌, ◌≢◌, ◌⊎◌, inl, inr, ⊎_elim, ℕ, pos, ◌<◌, false, length, sym, refl, ap, ◌∙◌, subst, arith}
use Rattle.std.specs.Prelude.{Option, Some, None}
use Rattle.std.proofs.lemmas.List.{ext_get_or, get_or_past}
use native.Mathlib.Decide.{ℕ_discrete, dec_le}
use Rattle.bus_model.specs.declared.transfer.Transfer.{Transfer}
use Rattle.bus_model.specs.declared.transfer.Started.{Started}
use Rattle.bus_model.specs.Places.{slow_place}
use Rattle.bus_model.specs.Copies.{number_at}
use Rattle.bus_model.specs.Ledger.{Placed, Copied, NotPending}
use Rattle.bus_model.specs.Engines.{Flight, flight_of, started_of, progress, progress_of}
use Rattle.bus_model.proofs.Halves.{own_half}
use Rattle.prompt_semantics.specs.Device.{Device, record_of}
use Rattle.order_meaning.specs.Machine.{Half, Here, Away, Core, transfers_of}
use Rattle.order_meaning.specs.Agree.{with_list, lists_of, tag_of, Agree}
use Rattle.order_meaning.specs.Parts.{IsOutstanding, IsUnmoved, own_cell, prompt_half, Parts, AgreesInParts}
use Rattle.order_meaning.proofs.Flights.{same_some, none_some, both_ways, started_of_record, record_of_started, record_of_flight, record_of_no_flight, flight_has_tag}

module _ (n : ℕ) (x : Core) (y : Device) (a : Agree n x y) where
  abbrev has : ℕ → Option Started
  has = started_of (lists_of y.halves y.outstanding)

  has_of : (tag : ℕ) (f : Flight) → flight_of x.flights tag ≡ Some f → has tag ≡ Some (with_list y.halves f.transfer)
  has_of tag f h = started_of_record y.halves y.outstanding tag f.transfer (ap (record_of tag) (sym a.records) ∙ record_of_flight x.flights tag f h)

  -- a started transfer is outstanding
  flight_of_has : (tag : ℕ) (st : Started) → has tag ≡ Some st → (f : Flight) × (flight_of x.flights tag ≡ Some f) × (f.transfer ≡ st.transfer)
  flight_of_has tag st h = by (flight_of x.flights tag) refl
    where
      record_is : record_of tag (transfers_of x.flights) ≡ Some st.transfer
      record_is = ap (record_of tag) a.records ∙ record_of_started y.halves y.outstanding tag st h

      by : (o : Option Flight) → flight_of x.flights tag ≡ o → (f : Flight) × (flight_of x.flights tag ≡ Some f) × (f.transfer ≡ st.transfer)
      by (Some f) e = (f, e, same_some f.transfer st.transfer (sym (record_of_flight x.flights tag f e) ∙ record_is))
      by None e = absurd (none_some (record_of tag (transfers_of x.flights)) st.transfer (record_of_no_flight x.flights tag e) record_is)

  own : (tag : ℕ) (f : Flight) → flight_of x.flights tag ≡ Some f → IsOutstanding x f
  own tag f h = ap (flight_of x.flights) (flight_has_tag x.flights tag f h) ∙ h

  copied : (f : Flight) → IsOutstanding x f → Copied (number_at y.state.slow) (with_list y.halves f.transfer) (record { moved = f.moved; cells = f.cells })
  copied f h = subst (Copied (number_at y.state.slow) (with_list y.halves f.transfer)) (ap progress h) (a.bus.ledger.copied f.transfer.tag (with_list y.halves f.transfer) (has_of f.transfer.tag f h))

  placed : (f : Flight) → IsOutstanding x f → Placed (length y.state.slow) (with_list y.halves f.transfer)
  placed f h = a.bus.ledger.placed f.transfer.tag (with_list y.halves f.transfer) (has_of f.transfer.tag f h)

  -- a transfer is found by its tag
  same_flight : (f g : Flight) → IsOutstanding x f → IsOutstanding x g → f.transfer.tag ≡ g.transfer.tag → f ≡ g
  same_flight f g p q e = same_some f g (sym p ∙ ap (flight_of x.flights) e ∙ q)

  -- no unmoved element of an outgoing transfer is at a place
  not_pending : (i : ℕ) → ((f : Flight) (e : ℕ) → IsOutstanding x f → f.transfer.incoming ≡ false → IsUnmoved f e → slow_place f.transfer e ≢ i) → NotPending has (progress_of x.flights) i
  not_pending i clear t e st h out le lt meet =
      let f = flight_of_has t st h in
      let same : st.transfer ≡ f.0.transfer = sym f.2 in
      let moved : (progress_of x.flights t).moved ≡ f.0.moved = ap (λ o. (progress o).moved) f.1 in
      let count : st.transfer.count ≡ f.0.transfer.count = ap (λ (t : Transfer). t.count) same in
      clear f.0 e (own t f.0 f.1) (ap (λ (t : Transfer). t.incoming) f.2 ∙ out) (omega (arith, le, moved), omega (arith, lt, count)) (ap (λ t. slow_place t e) f.2 ∙ meet)

  apart_places : (f g : Flight) → IsOutstanding x f → IsOutstanding x g → f.transfer.tag ≢ g.transfer.tag → (f.transfer.incoming ≡ false) ⊎ (g.transfer.incoming ≡ false)
      → (d e : ℕ) → d < f.transfer.count → e < g.transfer.count → slow_place f.transfer d ≢ slow_place g.transfer e
  apart_places f g p q ne writes d e ld le = a.bus.ledger.apart f.transfer.tag g.transfer.tag (with_list y.halves f.transfer) (with_list y.halves g.transfer) ne (has_of f.transfer.tag f p) (has_of g.transfer.tag g q) writes d e ld le

  pub in_parts : Parts n x y
  in_parts = record {
    long = a.bus.long;
    slow = λ i clear. elim (dec_le (length y.state.slow) i) [
      | yes l ↦ get_or_past x.state.slow i (pos 0) (let k = a.bus.long in omega (arith, k, l)) ∙ sym (get_or_past y.state.slow i (pos 0) l)
      | no l ↦ a.bus.ledger.words_are i (omega (arith, l)) (not_pending i clear)
    ];
    outgoing = λ f e h out un. (copied f h).cells_are (own_cell f e) (λ inc. absurd (both_ways f.transfer.incoming inc out)) ∙ sym ((copied f h).prompt_is e un.1);
    moved_in = λ f e h inc lt. (copied f h).cells_are (own_cell f e) (λ _. inl (omega (arith, lt)));
    unmoved_in = λ f e h inc un.
        a.bus.ledger.words_are (slow_place f.transfer e) ((placed f h).within e un.1) (not_pending (slow_place f.transfer e) (λ g d q out ug. elim (ℕ_discrete g.transfer.tag f.transfer.tag) [
          | yes s ↦ absurd (both_ways f.transfer.incoming inc (sym (ap (λ (f : Flight). f.transfer.incoming) (same_flight g f q h s)) ∙ out))
          | no ne ↦ apart_places g f q h ne (inl out) d e ug.1 un.1
        ])) ∙ (copied f h).prompt_is e un.1;
    apart = apart_places;
    distinct = λ f h. (placed f h).distinct;
    flights = λ f h. a.flights f.transfer.tag f h;
    engines_apart = λ f g e p q ef eg. same_flight f g p q (a.engines_apart f.transfer.tag g.transfer.tag e f g p q ef eg);
    here = a.here;
    away = λ number half tag. (
      (λ is. let s = (a.away number half tag).0 (ap tag_of is) in let f = flight_of_has tag s.0 s.1 in (f.0, f.1, ap (λ (t : Transfer). t.fast) f.2 ∙ s.2, ap (λ (t : Transfer). t.half) f.2 ∙ s.3)),
      (λ f. away_is (x.halves number half) tag ((a.away number half tag).1 (with_list y.halves f.0.transfer, has_of tag f.0 f.1, f.2, f.3))),
    );
    halves_apart = λ f g p q ef eh. same_flight f g p q
        (own_half (λ m h. tag_of (x.halves m h)) (λ m h. tag_of (x.halves m h)) has has a.away f.transfer.tag g.transfer.tag (with_list y.halves f.transfer) (with_list y.halves g.transfer) (has_of f.transfer.tag f p) (has_of g.transfer.tag g q) ef eh);
    tags_apart = a.tags_apart;
    outgoing_list = λ f h out. ext_get_or (pos 0) f.cells (prompt_half y f) (copied f h).long (λ c lt. (copied f h).cells_are c (λ inc. absurd (both_ways f.transfer.incoming inc out)));
    incoming_list = λ f h inc c outside. (copied f h).cells_are c (λ _. ⊎_elim (λ (l : c < f.transfer.offset). inl (omega (arith, l))) (λ l. inr l) outside);
    registers = a.registers;
    live = a.live;
    records = a.records;
  }
    where
      away_is : (h : Half) (tag : ℕ) → tag_of h ≡ Some tag → h ≡ Away tag
      away_is (Here cells) tag e = absurd (none_some None tag refl e)
      away_is (Away t) tag e = ap Away (same_some t tag e)

pub agrees_in_parts : AgreesInParts
agrees_in_parts engines x y a = in_parts engines x y a
