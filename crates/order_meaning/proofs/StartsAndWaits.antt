-- A start and a wait keep the agreement, and fault alike on both sides.
use Rattle.std.proofs.Common.{◌≡◌, ◌≢◌, ◌⊎◌, inl, inr, ⊎_elim, ℕ, ℤ, pos, ◌+◌, ◌<◌, ◌≤◌, Bool, true, false, List, [], ◌∷◌, ◌++◌, length, sym, refl, ap, ◌∙◌, subst, arith, ne_eqb}
use Rattle.std.specs.Prelude.{◌&&◌, Option, Some, None, if◌then◌else◌, nat_eq, not}
use Rattle.std.proofs.lemmas.Bool.{and_parts}
use Rattle.std.proofs.lemmas.List.{ext_get_or}
use native.Mathlib.Decide.{ℕ_discrete, dec_le}
use Rattle.bus_model.specs.declared.step.FaultKind.TheVariants.{Touched, Race, Tag, Shape}
use Rattle.bus_model.specs.declared.transfer.Transfer.{Transfer}
use Rattle.bus_model.specs.declared.transfer.Started.{Started}
use Rattle.bus_model.specs.Places.{slow_place}
use Rattle.bus_model.specs.Copies.{number_at, moved_in, moved_out}
use Rattle.bus_model.specs.Ledger.{Progress, Copied, Ledger}
use Rattle.bus_model.specs.Engines.{Flight, flight_of, started_of, progress, progress_of}
use Rattle.bus_model.proofs.Copies.{length-first_in, first_in_else, first_in_here, length-first_out, first_out_else, first_out_here}
use Rattle.bus_model.proofs.Halves.{halves_start, halves_drop}
use Rattle.bus_model.proofs.Ledgers.{ledger_start, ledger_drop}
use Rattle.bus_model.proofs.Places.{places_are_distinct}
use Rattle.direct_meaning.specs.Direct.{End, Fault}
use Rattle.prompt_semantics.specs.Device.{Device, put_half, is_away, is_started, start_races, recorded, copied_in, copied_out, started, record_of, without}
use Rattle.prompt_semantics.specs.Prompt.{refused}
use Rattle.prompt_semantics.specs.Prompt as prompt
use Rattle.prompt_semantics.proofs.Laws.{half_same, half_other}
use Rattle.order_meaning.specs.Machine.{Half, Here, Away, Core, transfers_of, sent, start_half, start, without_flight, wait_on, is_free, is_finished, holds_up}
use Rattle.order_meaning.specs.Run.{steps_left, left_by, all_left}
use Rattle.order_meaning.specs.Agree.{with_list, lists_of, tag_of, FlightOk, Agree}
use Rattle.order_meaning.proofs.Flights.{same_some, none_some, if_false, started_in, started_by, started_of_record, record_of_flight, record_of_no_flight, no_flight_of_record, record_behind, record_before, tags_behind, flight_behind, flight_before, transfers_behind, record_without, record_gone, tags_without, transfers_without, flight_without, left_behind, left_without}
use Rattle.order_meaning.proofs.Sides.{same_number, is_half, half_is, is_own_half, put_half_same, put_half_other, here_changed, lists_other, half_here, half_away, not_started, start_apart}
use Rattle.order_meaning.proofs.Ordinary.{Same, same_fault, same_test, same_open, same_shut, same_here}

-- what is known of a started transfer before the run: its places lie in slow memory and are distinct, its cells in the half
pub record StartFits (y : Device) (t : Transfer) : Type 0 where
  pub within : (e : ℕ) → e < t.count → slow_place t e < length y.state.slow
  pub inside : t.offset + t.count ≤ length (y.halves t.fast t.half)
  pub some_chunk : 1 ≤ t.chunk
  pub strided : t.chunk ≤ t.stride

-- another half than this one
pub other_half : (number half m h : ℕ) → (m ≡ number → h ≡ half → ⊥) → is_half number half m h ≡ false
other_half number half m h ne = by (is_half number half m h) refl
  where
    by : (b : Bool) → is_half number half m h ≡ b → is_half number half m h ≡ false
    by false e = e
    by true e = let p = half_is number half m h e in absurd (ne (sym p.0) (sym p.1))

not_here : (tag : ℕ) (c : List ℤ) → Away tag ≡ Here c → ⊥
not_here tag c e = cc

module _ (n : ℕ) (x : Core) (y : Device) (a : Agree n x y) where
  -- ---- a start

  module _ (t : Transfer) (cells : List ℤ) (is : x.halves t.fast t.half ≡ Here cells) (idle : is_started y.outstanding t.tag ≡ false) (apart : start_races y.outstanding t ≡ false) (fits : StartFits y t) where
    abbrev half : List ℤ
    half = y.halves t.fast t.half

    cells_are : cells ≡ half
    cells_are = a.here t.fast t.half cells is

    abbrev behind : Core
    behind = record x { halves = put_half x.halves t.fast t.half (Away t.tag); flights = x.flights ++ sent t cells ∷ [] }

    no_record : record_of t.tag y.outstanding ≡ None
    no_record = not_started y.outstanding t.tag idle

    no_flight : flight_of x.flights t.tag ≡ None
    no_flight = no_flight_of_record x.flights t.tag (ap (record_of t.tag) a.records ∙ no_record)

    -- a transfer after the start is the new one, or one that was there
    whose : (u : ℕ) (f : Flight) → flight_of behind.flights u ≡ Some f → ((u ≡ t.tag) × (sent t cells ≡ f)) ⊎ ((u ≢ t.tag) × (flight_of x.flights u ≡ Some f))
    whose u f h = elim (ℕ_discrete u t.tag) [
      | yes e ↦ inl (e, same_some (sent t cells) f (sym (ap (flight_of behind.flights) e ∙ flight_behind x.flights (sent t cells) no_flight) ∙ h))
      | no ne ↦ inr (ne, sym (flight_before x.flights (sent t cells) u (λ q. ne (sym q))) ∙ h)
    ]

    -- the prompt side's slow list and halves after it
    module _ (slow' : List ℤ) (halves' : ℕ → ℕ → List ℤ) (long : length slow' ≡ length y.state.slow)
        (other : (m h : ℕ) → is_half t.fast t.half m h ≡ false → halves' m h ≡ y.halves m h)
        (long_half : length (halves' t.fast t.half) ≡ length half)
        (same_prompt : (i : ℕ) → (t.incoming ≡ false → (e : ℕ) → e < t.count → slow_place t e ≢ i) → number_at slow' i ≡ number_at y.state.slow i)
        (copied : Copied (number_at slow') (record { transfer = t; list = halves' t.fast t.half }) (record { moved = 0; cells = cells })) where
      abbrev new : Started
      new = record { transfer = t; list = halves' t.fast t.half }

      abbrev has : ℕ → Option Started
      has = started_of (lists_of y.halves y.outstanding)

      abbrev has' : ℕ → Option Started
      has' = started_of (lists_of halves' (y.outstanding ++ t ∷ []))

      lists : lists_of halves' y.outstanding ≡ lists_of y.halves y.outstanding
      lists = lists_other y.halves halves' t.fast t.half y.outstanding (half_here n x y a t.fast t.half cells is) other

      not_has : has t.tag ≡ None
      not_has = started_by y.halves y.outstanding t.tag ∙ ap (started_in y.halves) no_record

      has_now : has' t.tag ≡ Some new
      has_now = started_of_record halves' (y.outstanding ++ t ∷ []) t.tag t (record_behind y.outstanding t no_record)

      has_other : (u : ℕ) → u ≢ t.tag → has' u ≡ has u
      has_other u ne = started_by halves' (y.outstanding ++ t ∷ []) u ∙ ap (started_in halves') (record_before y.outstanding t u (λ q. ne (sym q))) ∙ sym (started_by halves' y.outstanding u) ∙ ap (λ l. started_of l u) lists

      at_now : progress_of behind.flights t.tag ≡ record { moved = 0; cells = cells }
      at_now = ap progress (flight_behind x.flights (sent t cells) no_flight)

      at_other : (u : ℕ) → u ≢ t.tag → progress_of behind.flights u ≡ progress_of x.flights u
      at_other u ne = ap progress (flight_before x.flights (sent t cells) u (λ q. ne (sym q)))

      ledger : Ledger (length slow') (number_at x.state.slow) (number_at slow') has' (progress_of behind.flights)
      ledger = subst (λ m. Ledger m (number_at x.state.slow) (number_at slow') has' (progress_of behind.flights)) (sym long)
          (ledger_start (length y.state.slow) (number_at x.state.slow) (number_at x.state.slow) (number_at y.state.slow) (number_at slow') has has' (progress_of x.flights) (progress_of behind.flights) a.bus.ledger t.tag new
          not_has has_now has_other (ap (λ (p : Progress). p.moved) at_now) at_other (λ i _. refl) same_prompt
          (record { within = fits.within; distinct = λ e f le lf q. places_are_distinct t fits.some_chunk fits.strided e f q; inside = subst (λ l. t.offset + t.count ≤ l) (sym long_half) fits.inside; some_chunk = fits.some_chunk })
          (subst (Copied (number_at slow') new) (sym at_now) copied)
          (start_apart n x y a t (halves' t.fast t.half) apart))

      away_now : put_half x.halves t.fast t.half (Away t.tag) t.fast t.half ≡ Away t.tag
      away_now = put_half_same x.halves t.fast t.half t.fast t.half (Away t.tag) (is_own_half t.fast t.half)

      pub begun : Agree n behind (record y { state = record y.state { slow = slow' }; halves = halves'; outstanding = y.outstanding ++ t ∷ []; engine_steps = y.engine_steps + (t.count + 2) })
      begun = record {
        bus = record {
          long = a.bus.long ∙ sym long;
          ledger = ledger;
          same = λ u f h. ⊎_elim
              (λ (p : (u ≡ t.tag) × (sent t cells ≡ f)). let r : (st : Started) × (has' u ≡ Some st) × (st.transfer ≡ f.transfer) = (new, ap has' p.0 ∙ has_now, ap (λ (f : Flight). f.transfer) p.1) in r)
              (λ (p : (u ≢ t.tag) × (flight_of x.flights u ≡ Some f)). let s = a.bus.same u f p.1 in let r : (st : Started) × (has' u ≡ Some st) × (st.transfer ≡ f.transfer) = (s.0, has_other u p.0 ∙ s.1, s.2) in r)
              (whose u f h);
        };
        flights = λ u f h. ⊎_elim
            (λ (p : (u ≡ t.tag) × (sent t cells ≡ f)). subst (FlightOk n) p.1 (record { steady = inl refl; not_past = omega arith }))
            (λ (p : (u ≢ t.tag) × (flight_of x.flights u ≡ Some f)). a.flights u f p.1)
            (whose u f h);
        engines_apart = λ u v e f g hf hg ef eg. ⊎_elim
            (λ (p : (u ≡ t.tag) × (sent t cells ≡ f)). absurd (none_some None e refl (ap (λ (f : Flight). f.engine) p.1 ∙ ef)))
            (λ (p : (u ≢ t.tag) × (flight_of x.flights u ≡ Some f)). ⊎_elim
            (λ (q : (v ≡ t.tag) × (sent t cells ≡ g)). absurd (none_some None e refl (ap (λ (f : Flight). f.engine) q.1 ∙ eg)))
            (λ (q : (v ≢ t.tag) × (flight_of x.flights v ≡ Some g)). a.engines_apart u v e f g p.1 q.1 ef eg)
            (whose v g hg))
            (whose u f hf);
        here = here_changed x.halves y.halves halves' t.fast t.half (Away t.tag) a.here other (λ m h c e q. absurd (not_here t.tag c q));
        away = halves_start (λ m h. tag_of (x.halves m h)) (λ m h. tag_of (put_half x.halves t.fast t.half (Away t.tag) m h)) has has' a.away t.tag new has_other
            (λ m h ne. ap tag_of (put_half_other x.halves t.fast t.half m h (Away t.tag) (other_half t.fast t.half m h ne)))
            not_has has_now (ap tag_of is) (ap tag_of away_now);
        tags_apart = tags_behind y.outstanding t a.tags_apart no_record;
        registers = a.registers;
        live = a.live;
        records = transfers_behind x.flights (sent t cells) ∙ ap (λ ts. ts ++ t ∷ []) a.records;
      }

    counted : all_left behind.flights + y.engine_steps ≡ all_left x.flights + (y.engine_steps + (t.count + 2))
    counted = sum (all_left behind.flights) (all_left x.flights) y.engine_steps t.count (left_behind x.flights (sent t cells))
      where
        sum : (w l s c : ℕ) → w ≡ l + (c + 2) → w + s ≡ l + (s + (c + 2))
        sum w l s c e = omega (arith, e)

    into_half : t.incoming ≡ true → Agree n behind (recorded t (copied_in t y))
    into_half inc = begun y.state.slow (put_half y.halves t.fast t.half new_half) refl (λ m h e. half_other y.halves t.fast t.half m h new_half e)
        (ap (λ l. length l) own ∙ length-first_in t y.state.slow half t.count) (λ i _. refl)
        (subst (λ l. Copied (number_at y.state.slow) (record { transfer = t; list = l }) (record { moved = 0; cells = cells })) (sym own) record {
          prompt_is = λ e lt. sym (first_in_here t y.state.slow half t.count e lt fits.inside);
          long = ap (λ l. length l) cells_are ∙ sym (length-first_in t y.state.slow half t.count);
          cells_are = λ k left. ap (λ l. number_at l k) cells_are ∙ sym (first_in_else t y.state.slow half t.count k (⊎_elim (λ (p : k < t.offset + 0). inl (omega (arith, p))) (λ q. inr q) (left inc)));
          not_past = omega arith;
        })
      where
        new_half : List ℤ
        new_half = moved_in t y.state.slow half

        own : put_half y.halves t.fast t.half new_half t.fast t.half ≡ new_half
        own = half_same y.halves t.fast t.half t.fast t.half new_half (is_own_half t.fast t.half)

    out_of_half : t.incoming ≡ false → Agree n behind (recorded t (copied_out t y))
    out_of_half out = begun (moved_out t half y.state.slow) y.halves (length-first_out t y.state.slow half t.count) (λ m h e. refl) refl
        (λ i clear. first_out_else t y.state.slow half t.count i (clear out))
        record {
          prompt_is = λ e lt. first_out_here t y.state.slow half t.count e lt fits.within (λ d f ld lf q. places_are_distinct t fits.some_chunk fits.strided d f q);
          long = ap (λ l. length l) cells_are;
          cells_are = λ k left. ap (λ l. number_at l k) cells_are;
          not_past = omega arith;
        }

    started_same : Same n x y (End behind) (End (started t y))
    unfolding started
    started_same = by t.incoming refl
      where
        by : (b : Bool) → t.incoming ≡ b → Same n x y (End behind) (End (recorded t (if b then copied_in t y else copied_out t y)))
        by true inc = record { verdict = refl; agree = into_half inc; counted = counted }
        by false out = record { verdict = refl; agree = out_of_half out; counted = counted }

  pub same_start : (t : Transfer) → StartFits y t → Same n x y (start t x) (prompt.prompt_start t y)
  same_start t fits = same_test n x y a (is_started (transfers_of x.flights) t.tag) (is_started y.outstanding t.tag) Tag _ _ (ap (λ ts. is_started ts t.tag) a.records) (λ idle. by idle (x.halves t.fast t.half) refl)
    where
      by : is_started y.outstanding t.tag ≡ false → (h : Half) → x.halves t.fast t.half ≡ h
          → Same n x y (start_half t h x) (refused (is_away y.outstanding t.fast t.half) Touched y (refused (start_races y.outstanding t) Race y (End (started t y))))
      by idle (Here cells) is = same_open n x y a (is_away y.outstanding t.fast t.half) Touched _ _ (half_here n x y a t.fast t.half cells is)
          (same_test n x y a (start_races (transfers_of x.flights) t) (start_races y.outstanding t) Race _ _ (ap (λ ts. start_races ts t) a.records) (λ apart. started_same t cells is idle apart fits))
      by idle (Away tag) is = same_shut n x y a (is_away y.outstanding t.fast t.half) Touched _ (half_away n x y a t.fast t.half tag is)

  -- ---- a wait

  module _ (tag : ℕ) (f : Flight) (here : flight_of x.flights tag ≡ Some f) (all : f.moved ≡ f.transfer.count) (free : f.engine ≡ None) (some : 1 ≤ f.transfer.count) where
    abbrev t : Transfer
    t = f.transfer

    abbrev back : Core
    back = record x { halves = put_half x.halves t.fast t.half (Here f.cells); flights = without_flight tag x.flights }

    abbrev waited : Device
    waited = record y { outstanding = without tag y.outstanding }

    abbrev was : ℕ → Option Started
    was = started_of (lists_of y.halves y.outstanding)

    abbrev is_now : ℕ → Option Started
    is_now = started_of (lists_of y.halves (without tag y.outstanding))

    on_record : record_of tag y.outstanding ≡ Some t
    on_record = ap (record_of tag) (sym a.records) ∙ record_of_flight x.flights tag f here

    was_started : was tag ≡ Some (with_list y.halves t)
    was_started = started_of_record y.halves y.outstanding tag t on_record

    gone : is_now tag ≡ None
    gone = started_by y.halves (without tag y.outstanding) tag ∙ ap (started_in y.halves) (record_gone y.outstanding tag a.tags_apart)

    others : (u : ℕ) → u ≢ tag → is_now u ≡ was u
    others u ne = started_by y.halves (without tag y.outstanding) u ∙ ap (started_in y.halves) (record_without y.outstanding tag u ne) ∙ sym (started_by y.halves y.outstanding u)

    progress_is : progress_of x.flights tag ≡ record { moved = f.moved; cells = f.cells }
    progress_is = ap progress here

    -- all its cells are the prompt half's
    copied : Copied (number_at y.state.slow) (with_list y.halves t) (record { moved = f.moved; cells = f.cells })
    copied = subst (Copied (number_at y.state.slow) (with_list y.halves t)) progress_is (a.bus.ledger.copied tag (with_list y.halves t) was_started)

    cells_back : f.cells ≡ y.halves t.fast t.half
    cells_back = ext_get_or (pos 0) f.cells (y.halves t.fast t.half) copied.long (λ k lt. copied.cells_are k (λ _. elim (dec_le (t.offset + t.count) k) [
      | yes h ↦ inr h
      | no h ↦ inl (omega (arith, h, all))
    ]))

    -- a transfer after the wait was there, and is another one
    whose_left : (u : ℕ) (g : Flight) → flight_of (without_flight tag x.flights) u ≡ Some g → (u ≢ tag) × (flight_of x.flights u ≡ Some g)
    whose_left u g h = elim (ℕ_discrete u tag) [
      | yes e ↦ absurd (none_some (flight_of (without_flight tag x.flights) tag) g
          (no_flight_of_record (without_flight tag x.flights) tag (ap (record_of tag) (transfers_without x.flights tag ∙ ap (without tag) a.records) ∙ record_gone y.outstanding tag a.tags_apart))
          (ap (flight_of (without_flight tag x.flights)) (sym e) ∙ h))
      | no ne ↦ (ne, sym (flight_without x.flights tag u ne) ∙ h)
    ]

    here_again : put_half x.halves t.fast t.half (Here f.cells) t.fast t.half ≡ Here f.cells
    here_again = put_half_same x.halves t.fast t.half t.fast t.half (Here f.cells) (is_own_half t.fast t.half)

    done : Same n x y (End back) (End waited)
    done = record {
      verdict = refl;
      agree = record {
        bus = record {
          long = a.bus.long;
          ledger = ledger_drop (length y.state.slow) (number_at x.state.slow) (number_at x.state.slow) (number_at y.state.slow) (number_at y.state.slow) was is_now (progress_of x.flights) (progress_of (without_flight tag x.flights)) a.bus.ledger
              tag (with_list y.halves t) was_started (ap (λ (p : Progress). p.moved) progress_is ∙ all) gone others (λ u ne. ap progress (flight_without x.flights tag u ne)) (λ i _. refl);
          same = λ u g h. let p = whose_left u g h in let s = a.bus.same u g p.1 in (s.0, others u p.0 ∙ s.1, s.2);
        };
        flights = λ u g h. a.flights u g (whose_left u g h).1;
        engines_apart = λ u v e g k hg hk eg ek. a.engines_apart u v e g k (whose_left u g hg).1 (whose_left v k hk).1 eg ek;
        here = here_changed x.halves y.halves y.halves t.fast t.half (Here f.cells) a.here (λ _ _ _. refl)
            (λ m h c e q. let p = half_is t.fast t.half m h e in sym (same_here f.cells c q) ∙ cells_back ∙ (λ i. y.halves (p.0 i) (p.1 i)));
        away = halves_drop (λ m h. tag_of (x.halves m h)) (λ m h. tag_of (put_half x.halves t.fast t.half (Here f.cells) m h)) was is_now a.away tag (with_list y.halves t) others
            (λ m h ne. ap tag_of (put_half_other x.halves t.fast t.half m h (Here f.cells) (other_half t.fast t.half m h ne)))
            was_started gone (ap tag_of here_again);
        tags_apart = tags_without y.outstanding tag a.tags_apart;
        registers = a.registers;
        live = a.live;
        records = transfers_without x.flights tag ∙ ap (without tag) a.records;
      };
      counted = sum (all_left (without_flight tag x.flights)) (steps_left f) (all_left x.flights) y.engine_steps (left_without tag x.flights f here) none_left;
    }
      where
        sum : (w l xs s : ℕ) → w + l ≡ xs → l ≡ 0 → w + s ≡ xs + s
        sum w l xs s p q = omega (arith, p, q)

        none_left : steps_left f ≡ 0
        none_left = ap (λ o. left_by o f.moved t.count) free ∙ if_false (nat_eq f.moved 0) (t.count + 2) 0 (ne_eqb f.moved 0 (λ z. omega (arith, z, all, some)))

  -- a wait that isn't held up
  pub same_wait : (tag count : ℕ) → ((f : Flight) → flight_of x.flights tag ≡ Some f → 1 ≤ f.transfer.count) → holds_up (flight_of x.flights tag) count ≡ false
      → Same n x y (wait_on (flight_of x.flights tag) tag count x) (prompt.wait_on (record_of tag y.outstanding) tag count y)
  same_wait tag count some may = by (flight_of x.flights tag) refl may
    where
      parts : (f : Flight) → is_finished f ≡ true → (f.moved ≡ f.transfer.count) × (f.engine ≡ None)
      parts f e = let two = and_parts (nat_eq f.moved f.transfer.count) (is_free f.engine) e in (same_number f.moved f.transfer.count two.0, free f.engine two.1)
        where
          free : (o : Option ℕ) → is_free o ≡ true → o ≡ None
          free None e = refl
          free (Some d) e = absurd (cc)

      may_go : (b c : Bool) → b ≡ true → (b && not c) ≡ false → c ≡ true
      may_go true true p q = refl
      may_go true false p q = absurd (cc)
      may_go false c p q = absurd (cc)

      counts : (f : Flight) → flight_of x.flights tag ≡ Some f → (b : Bool) → nat_eq f.transfer.count count ≡ b → (nat_eq f.transfer.count count && not (is_finished f)) ≡ false
          → Same n x y (if b then End (record x { halves = put_half x.halves f.transfer.fast f.transfer.half (Here f.cells); flights = without_flight tag x.flights }) else Fault Shape x) (if b then End (record y { outstanding = without tag y.outstanding }) else Fault Shape y)
      counts f here true e may = let p = parts f (may_go (nat_eq f.transfer.count count) (is_finished f) e may) in done tag f here p.0 p.1 (some f here)
      counts f here false e may = same_fault n x y a Shape

      by : (o : Option Flight) → flight_of x.flights tag ≡ o → holds_up o count ≡ false → Same n x y (wait_on o tag count x) (prompt.wait_on (record_of tag y.outstanding) tag count y)
      by None e may = subst (λ r. Same n x y (Fault Tag x) (prompt.wait_on r tag count y)) (sym (ap (record_of tag) (sym a.records) ∙ record_of_no_flight x.flights tag e)) (same_fault n x y a Tag)
      by (Some f) e may = subst (λ r. Same n x y (wait_on (Some f) tag count x) (prompt.wait_on r tag count y)) (sym (ap (record_of tag) (sym a.records) ∙ record_of_flight x.flights tag f e)) (counts f e (nat_eq f.transfer.count count) refl may)
