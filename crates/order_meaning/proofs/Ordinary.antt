-- An action other than a start or a wait does the same on both sides, and faults alike.
use Rattle.std.proofs.Common.{◌≡◌, ℕ, ℤ, pos, ◌+◌, ◌-◌, Bool, true, false, List, length, set, sym, refl, ap, ◌∙◌, subst, arith, length-set, get_or-set_same, get_or-set_other}
use Rattle.std.specs.Prelude.{Option, Some, None, if◌then◌else◌, nat_eq, nat_le}
use Rattle.std.proofs.lemmas.List.{set_past}
use native.Mathlib.Decide.{dec_le}
use Rattle.affine_ast.specs.declared.name.Name.{Name}
use Rattle.affine_ast.specs.declared.types.Element.{Element}
use Rattle.affine_ast.specs.Names.{put}
use Rattle.bus_model.specs.declared.step.FaultKind.{FaultKind}
use Rattle.bus_model.specs.declared.step.FaultKind.TheVariants.{Touched, Race, Tag, Capacity}
use Rattle.bus_model.specs.Copies.{number_at}
use Rattle.bus_model.specs.Ledger.{Ledger}
use Rattle.bus_model.specs.Engines.{started_of, progress_of, Agree as BusAgrees}
use Rattle.bus_model.proofs.Ledgers.{ledger_store}
use Rattle.direct_meaning.specs.Action.{Place, Slow, Fast, Outside}
use Rattle.direct_meaning.specs.Direct.{Outcome, End, Fault, keep, keep_result, verdict_of, state_of}
use Rattle.prompt_semantics.specs.Device.{Device, bytes_of, fresh_half, put_half, put_halves, allocated, released, is_away, has_away, has_started, load_races, store_races}
use Rattle.prompt_semantics.specs.Prompt.{refused}
use Rattle.prompt_semantics.specs.Prompt as prompt
use Rattle.prompt_semantics.proofs.Laws.{half_same, half_other, halves_other}
use Rattle.order_meaning.specs.Machine.{Half, Here, Away, Core, transfers_of, carried, load_half, load, store_half, store, allocate}
use Rattle.order_meaning.specs.Run.{all_left}
use Rattle.order_meaning.specs.Agree.{bus_of, lists_of, tag_of, Agree}
use Rattle.order_meaning.proofs.Flights.{same_some}
use Rattle.order_meaning.proofs.Sides.{same_number, is_half, half_is, put_half_same, put_half_other, put_halves_same, put_halves_other, here_changed, lists_other, lists_apart, away_same, word_is, no_place_at, half_here, half_away, none_away}

-- an action's outcomes on both sides: both end or stop at the same fault, and agree. Each step of an engine that the prompt
-- side counts is one that is left
pub record Same (n : ℕ) (x : Core) (y : Device) (o : Outcome Core) (p : Outcome Device) : Type 0 where
  pub verdict : verdict_of o ≡ verdict_of p
  pub agree : Agree n (state_of o) (state_of p)
  pub counted : all_left (state_of o).flights + y.engine_steps ≡ all_left x.flights + (state_of p).engine_steps

pub same_here : (c d : List ℤ) → Here c ≡ Here d → c ≡ d
same_here c d e = cc

module _ (n : ℕ) (x : Core) (y : Device) (a : Agree n x y) where
  pub same_fault : (k : FaultKind) → Same n x y (Fault k x) (Fault k y)
  same_fault k = record { verdict = refl; agree = a; counted = refl }

  -- a test with one answer on both sides
  pub same_test : (b c : Bool) (k : FaultKind) (o : Outcome Core) (p : Outcome Device) → b ≡ c → (c ≡ false → Same n x y o p) → Same n x y (refused b k x o) (refused c k y p)
  same_test true true k o p e h = same_fault k
  same_test false false k o p e h = h refl
  same_test true false k o p e h = absurd (cc)
  same_test false true k o p e h = absurd (cc)

  pub same_open : (c : Bool) (k : FaultKind) (o : Outcome Core) (p : Outcome Device) → c ≡ false → Same n x y o p → Same n x y o (refused c k y p)
  same_open true k o p e h = absurd (cc)
  same_open false k o p e h = h

  pub same_shut : (c : Bool) (k : FaultKind) (p : Outcome Device) → c ≡ true → Same n x y (Fault k x) (refused c k y p)
  same_shut true k p e = same_fault k
  same_shut false k p e = absurd (cc)

  -- an action that changes nothing
  pub same_rest : Same n x y (End x) (End y)
  same_rest = record { verdict = refl; agree = a; counted = refl }

  -- a name's new value
  pub same_keep : (r : Name) (z w : ℤ) → z ≡ w → Same n x y (End (record x { state = keep r z x.state })) (End (record y { state = keep r w y.state }))
  same_keep r z w e = record {
    verdict = refl;
    agree = record { bus = a.bus; flights = a.flights; engines_apart = a.engines_apart; here = a.here; away = a.away; tags_apart = a.tags_apart; registers = λ i. put (a.registers i) r (e i); live = a.live; records = a.records };
    counted = refl;
  }

  pub same_result : (r : Name) (o p : Option ℤ) → o ≡ p → Same n x y (carried x (keep_result r o x.state)) (prompt.carried y (keep_result r p y.state))
  same_result r (Some z) (Some w) e = same_keep r z w (same_some z w e)
  same_result r None None e = same_fault _
  same_result r (Some z) None e = absurd (cc)
  same_result r None (Some w) e = absurd (cc)

  -- ---- loads and stores

  load_at : (r : Name) (number half cell : ℕ) (h : Half) → x.halves number half ≡ h → Same n x y (load_half r cell h x) (prompt.prompt_load r (Fast number half cell) y)
  load_at r number half cell (Here cells) is =
      same_open (is_away y.outstanding number half) Touched _ _ (half_here n x y a number half cells is) (same_keep r _ _ (ap (λ l. number_at l cell) (a.here number half cells is)))
  load_at r number half cell (Away tag) is = same_shut (is_away y.outstanding number half) Touched _ (half_away n x y a number half tag is)

  pub same_load : (r : Name) (place : Place) → Same n x y (load r place x) (prompt.prompt_load r place y)
  same_load r (Slow place) = same_test (load_races (transfers_of x.flights) place) (load_races y.outstanding place) Race _ _ (ap (λ ts. load_races ts place) a.records) (λ none. same_keep r _ _ (word_is n x y a place none))
  same_load r (Fast number half cell) = load_at r number half cell (x.halves number half) refl
  same_load r Outside = same_fault _

  store_word : (z : ℤ) (place : ℕ) → store_races y.outstanding place ≡ false → BusAgrees (record { slow = set x.state.slow place z; flights = x.flights }) (record { slow = set y.state.slow place z; started = lists_of y.halves y.outstanding })
  store_word z place none = elim (dec_le (length y.state.slow) place) [
    | yes h ↦ subst (λ (s : List ℤ × List ℤ). BusAgrees (record { slow = s.0; flights = x.flights }) (record { slow = s.1; started = lists_of y.halves y.outstanding }))
        (λ i. (sym (set_past x.state.slow place z (let l = a.bus.long in omega (arith, l, h))) i, sym (set_past y.state.slow place z h) i)) a.bus
    | no h ↦ record {
      long = length-set x.state.slow place z ∙ a.bus.long ∙ sym (length-set y.state.slow place z);
      ledger = subst (λ m. Ledger m (number_at (set x.state.slow place z)) (number_at (set y.state.slow place z)) (started_of (lists_of y.halves y.outstanding)) (progress_of x.flights)) (sym (length-set y.state.slow place z))
          (ledger_store (length y.state.slow) (number_at x.state.slow) (number_at (set x.state.slow place z)) (number_at y.state.slow) (number_at (set y.state.slow place z))
          (started_of (lists_of y.halves y.outstanding)) (started_of (lists_of y.halves y.outstanding)) (progress_of x.flights) (progress_of x.flights) a.bus.ledger place z
          (no_place_at n x y a place none)
          (get_or-set_same x.state.slow place z (pos 0) (let l = a.bus.long in omega (arith, l, h)))
          (get_or-set_same y.state.slow place z (pos 0) (omega (arith, h)))
          (λ j ne. get_or-set_other x.state.slow place j z (pos 0) ne)
          (λ j ne. get_or-set_other y.state.slow place j z (pos 0) ne));
      same = a.bus.same;
    }
  ]

  -- a store into a half that is here
  module _ (z : ℤ) (number half cell : ℕ) (cells : List ℤ) (is : x.halves number half ≡ Here cells) where
    abbrev new : List ℤ
    new = set cells cell z

    abbrev after : Device
    after = record y { halves = put_half y.halves number half (set (y.halves number half) cell z) }

    none : is_away y.outstanding number half ≡ false
    none = half_here n x y a number half cells is

    lists : lists_of after.halves y.outstanding ≡ lists_of y.halves y.outstanding
    lists = lists_other y.halves after.halves number half y.outstanding none (λ m h e. half_other y.halves number half m h (set (y.halves number half) cell z) e)

    tags : (m h : ℕ) → tag_of (put_half x.halves number half (Here new) m h) ≡ tag_of (x.halves m h)
    tags m h = at (is_half number half m h) refl
      where
        at : (b : Bool) → is_half number half m h ≡ b → tag_of (put_half x.halves number half (Here new) m h) ≡ tag_of (x.halves m h)
        at true e = let p = half_is number half m h e in ap tag_of (put_half_same x.halves number half m h (Here new) e) ∙ sym ((λ i. tag_of (x.halves (sym p.0 i) (sym p.1 i))) ∙ ap tag_of is)
        at false e = ap tag_of (put_half_other x.halves number half m h (Here new) e)

    stored : Same n x y (End (record x { halves = put_half x.halves number half (Here new) })) (End after)
    stored = record {
      verdict = refl;
      agree = record {
        bus = subst (λ l. BusAgrees (bus_of x) (record { slow = y.state.slow; started = l })) (sym lists) a.bus;
        flights = a.flights;
        engines_apart = a.engines_apart;
        here = here_changed x.halves y.halves after.halves number half (Here new) a.here
            (λ m h e. half_other y.halves number half m h (set (y.halves number half) cell z) e)
            (λ m h c e q. sym (same_here new c q) ∙ ap (λ l. set l cell z) (a.here number half cells is) ∙ sym (half_same y.halves number half m h (set (y.halves number half) cell z) e));
        away = away_same (λ m h. tag_of (x.halves m h)) (λ m h. tag_of (put_half x.halves number half (Here new) m h)) (started_of (lists_of y.halves y.outstanding)) (started_of (lists_of after.halves y.outstanding)) a.away tags
            (λ t. ap (λ l. started_of l t) lists);
        tags_apart = a.tags_apart;
        registers = a.registers;
        live = a.live;
        records = a.records;
      };
      counted = refl;
    }

  store_at : (z : ℤ) (number half cell : ℕ) (h : Half) → x.halves number half ≡ h → Same n x y (store_half z number half cell h x) (prompt.prompt_store z (Fast number half cell) y)
  store_at z number half cell (Here cells) is = same_open (is_away y.outstanding number half) Touched _ _ (half_here n x y a number half cells is) (stored z number half cell cells is)
  store_at z number half cell (Away tag) is = same_shut (is_away y.outstanding number half) Touched _ (half_away n x y a number half tag is)

  pub same_store : (z w : ℤ) (place : Place) → z ≡ w → Same n x y (store z place x) (prompt.prompt_store w place y)
  same_store z w place e = subst (λ w. Same n x y (store z place x) (prompt.prompt_store w place y)) e (at place)
    where
      at : (p : Place) → Same n x y (store z p x) (prompt.prompt_store z p y)
      at (Slow p) = same_test (store_races (transfers_of x.flights) p) (store_races y.outstanding p) Race _ _ (ap (λ ts. store_races ts p) a.records) (λ none. record {
        verdict = refl;
        agree = record { bus = store_word z p none; flights = a.flights; engines_apart = a.engines_apart; here = a.here; away = a.away; tags_apart = a.tags_apart; registers = a.registers; live = a.live; records = a.records };
        counted = refl;
      })
      at (Fast number half cell) = store_at z number half cell (x.halves number half) refl
      at Outside = same_fault _

  -- ---- allocations and releases

  pub same_allocate : (filler : ℤ) (capacity number : ℕ) (element : Element) (sizes : List ℕ) → has_away y.outstanding number ≡ false
      → Same n x y (allocate filler capacity number element sizes x) (prompt.prompt_alloc filler capacity number element sizes y)
  same_allocate filler capacity number element sizes none = by (nat_le (x.live + bytes_of element sizes) capacity) (nat_le (y.live + bytes_of element sizes) capacity) (ap (λ l. nat_le (l + bytes_of element sizes) capacity) a.live)
    where
      fresh : List ℤ
      fresh = fresh_half filler element sizes

      lists : lists_of (put_halves y.halves number fresh) y.outstanding ≡ lists_of y.halves y.outstanding
      lists = lists_apart y.halves (put_halves y.halves number fresh) number y.outstanding none (λ m h e. halves_other y.halves number m h fresh e)

      here : (m h : ℕ) (c : List ℤ) → put_halves x.halves number (Here fresh) m h ≡ Here c → c ≡ put_halves y.halves number fresh m h
      here m h c is = at (nat_eq number m) refl
        where
          at : (b : Bool) → nat_eq number m ≡ b → c ≡ put_halves y.halves number fresh m h
          at true e = same_here c fresh (sym is ∙ put_halves_same x.halves number m h (Here fresh) e) ∙ sym (put_halves_same y.halves number m h fresh e)
          at false e = a.here m h c (sym (put_halves_other x.halves number m h (Here fresh) e) ∙ is) ∙ sym (halves_other y.halves number m h fresh e)

      tags : (m h : ℕ) → tag_of (put_halves x.halves number (Here fresh) m h) ≡ tag_of (x.halves m h)
      tags m h = at (nat_eq number m) refl
        where
          at : (b : Bool) → nat_eq number m ≡ b → tag_of (put_halves x.halves number (Here fresh) m h) ≡ tag_of (x.halves m h)
          at true e = ap tag_of (put_halves_same x.halves number m h (Here fresh) e) ∙ sym (ap (λ m. tag_of (x.halves m h)) (sym (same_number number m e)) ∙ none_away n x y a number h none)
          at false e = ap tag_of (put_halves_other x.halves number m h (Here fresh) e)

      done : Same n x y (End (record x { halves = put_halves x.halves number (Here fresh); live = x.live + bytes_of element sizes })) (End (allocated filler number element sizes y))
      done = record {
        verdict = refl;
        agree = record {
          bus = subst (λ l. BusAgrees (bus_of x) (record { slow = y.state.slow; started = l })) (sym lists) a.bus;
          flights = a.flights;
          engines_apart = a.engines_apart;
          here = here;
          away = away_same (λ m h. tag_of (x.halves m h)) (λ m h. tag_of (put_halves x.halves number (Here fresh) m h)) (started_of (lists_of y.halves y.outstanding)) (started_of (lists_of (put_halves y.halves number fresh) y.outstanding)) a.away tags
              (λ t. ap (λ l. started_of l t) lists);
          tags_apart = a.tags_apart;
          registers = a.registers;
          live = ap (λ l. l + bytes_of element sizes) a.live;
          records = a.records;
        };
        counted = refl;
      }

      by : (b c : Bool) → b ≡ c → Same n x y (if b then End (record x { halves = put_halves x.halves number (Here fresh); live = x.live + bytes_of element sizes }) else Fault Capacity x) (if c then End (allocated filler number element sizes y) else Fault Capacity y)
      by true true e = done
      by false false e = same_fault _
      by true false e = absurd (cc)
      by false true e = absurd (cc)

  pub same_release : (number : ℕ) (element : Element) (sizes : List ℕ)
      → Same n x y (refused (has_away (transfers_of x.flights) number) Touched x (End (record x { live = x.live - bytes_of element sizes }))) (refused (has_away y.outstanding number) Touched y (End (released element sizes y)))
  same_release number element sizes = same_test (has_away (transfers_of x.flights) number) (has_away y.outstanding number) Touched _ _ (ap (λ ts. has_away ts number) a.records) (λ _. record {
    verdict = refl;
    agree = record { bus = a.bus; flights = a.flights; engines_apart = a.engines_apart; here = a.here; away = a.away; tags_apart = a.tags_apart; registers = a.registers; live = ap (λ l. l - bytes_of element sizes) a.live; records = a.records };
    counted = refl;
  })

  pub same_tags : (first count : ℕ) → Same n x y (refused (has_started (transfers_of x.flights) first count) Tag x (End x)) (refused (has_started y.outstanding first count) Tag y (End y))
  same_tags first count = same_test (has_started (transfers_of x.flights) first count) (has_started y.outstanding first count) Tag _ _ (ap (λ ts. has_started ts first count) a.records) (λ _. same_rest)
