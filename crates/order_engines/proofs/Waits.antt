-- Which transfers engines can take, as the outstanding ones change.
use Rattle.std.proofs.Common.{◌≡◌, ◌≢◌, ◌⊎◌, ⊎_elim, inl, inr, ℕ, zero, suc, ◌+◌, ◌-◌, ◌<◌, ◌≤◌, ◌^◌, Bool, true, false, ℤ, List, [], ◌∷◌, ◌++◌, length, sym, refl, ap, ◌∙◌, subst, arith, eq-eqb, ne_eqb, length-set}
use Rattle.std.specs.Prelude.{Option, Some, None, nat_eq, nat_lt, not, cond, if◌then◌else◌, slice_get}
use Rattle.std.specs.List.{filter, insert}
use native.Mathlib.Decide.{ℕ_discrete, dec_le}
use Rattle.std.proofs.lemmas.Bool.{lt-ltb, le-ltb}
use Rattle.std.proofs.lemmas.List.{length-map}
use Rattle.bus_model.specs.declared.step.Step.TheVariants.{Take}
use Rattle.bus_model.specs.Engines.{Flight, flight_of, with_flight, with_engine, next_in, next_out}
use Rattle.bus_model.specs.Places.{slow_place}
use Rattle.bus_model.specs.Copies.{number_at}
use Rattle.bus_model.proofs.Orders.{with_here, with_else}
use Rattle.order_meaning.specs.Machine.{transfers_of, held_by, CanBeTaken}
use Rattle.order_meaning.specs.Agree.{TagsApart}
use Rattle.order_meaning.specs.Listed.{Has, IsBelow, IsAscending, IsWaiting, engine_steps, steps_from}
use Rattle.order_meaning.proofs.Flights.{if_true, if_false, same_some, none_some, transfers_with}
use Rattle.order_engines.specs.Flying.{FliesWithin, AllFlyWithin}
use Rattle.order_engines.specs.Waiting.{IsPut}

-- ---- lists of steps

pub get_front : {A : Type 0} (xs ys : List A) (k : ℕ) → k < length xs → slice_get (xs ++ ys) k ≡ slice_get xs k
get_front [] ys k l = absurd (omega (arith, l))
get_front (x ∷ xs) ys zero l = refl
get_front (x ∷ xs) ys (suc k) l = get_front xs ys k (omega (arith, l))

pub get_behind : {A : Type 0} (xs ys : List A) (k j : ℕ) → length xs + j ≡ k → slice_get (xs ++ ys) k ≡ slice_get ys j
get_behind [] ys k j e = ap (slice_get ys) (omega (arith, e))
get_behind (x ∷ xs) ys zero j e = absurd (omega (arith, e))
get_behind (x ∷ xs) ys (suc k) j e = get_behind xs ys k j (omega (arith, e))

pub length_both : {A : Type 0} (xs ys : List A) → length (xs ++ ys) ≡ length xs + length ys
length_both [] ys = omega arith
length_both (x ∷ xs) ys = let e = length_both xs ys in omega (arith, e)

-- the steps from an engine on are its own and those from the next one on
pub steps_here : (flights : List Flight) (tags : List ℕ) (e n : ℕ) → e < n → steps_from flights tags e (n - e) ≡ engine_steps tags e (held_by flights e) ++ steps_from flights tags (e + 1) (n - (e + 1))
steps_here flights tags e n l =
    let k : n - e ≡ suc (n - (e + 1)) = omega (arith, l) in
    let s : suc e ≡ e + 1 = omega arith in
    ap (steps_from flights tags e) k ∙ ap (λ d. engine_steps tags e (held_by flights e) ++ steps_from flights tags d (n - (e + 1))) s

-- an engine has one step, or as many as there are transfers to take
pub few_steps : (flights : List Flight) (tags : List ℕ) (e : ℕ) → length tags < 2 ^ 31 → length (engine_steps tags e (held_by flights e)) ≤ 2 ^ 31
few_steps flights tags e few = by (held_by flights e)
  where
    by : (o : Option Flight) → length (engine_steps tags e o) ≤ 2 ^ 31
    by None = omega (arith, few, length-map tags (Take e))
    by (Some f) = omega arith

-- an item of a list is its first one or one behind it
pub cons_has : {A : Type 0} (y x : A) (xs : List A) (k : ℕ) → slice_get (y ∷ xs) k ≡ Some x → (y ≡ x) ⊎ Has xs x
cons_has y x xs zero h = inl (same_some y x h)
cons_has y x xs (suc k) h = inr (k, h)

-- ---- ascending lists

abbrev pub other_than : ℕ → ℕ → Bool
other_than tag u = not (nat_eq u tag)

filter_no : (tag u : ℕ) (us : List ℕ) → u ≡ tag → filter (other_than tag) (u ∷ us) ≡ filter (other_than tag) us
filter_no tag u us e = ap (λ b. cond (not b) (u ∷ filter (other_than tag) us) (filter (other_than tag) us)) (eq-eqb u tag e)

filter_yes : (tag u : ℕ) (us : List ℕ) → u ≢ tag → filter (other_than tag) (u ∷ us) ≡ u ∷ filter (other_than tag) us
filter_yes tag u us ne = ap (λ b. cond (not b) (u ∷ filter (other_than tag) us) (filter (other_than tag) us)) (ne_eqb u tag ne)

below_filter : (t tag : ℕ) (us : List ℕ) → IsBelow t us → IsBelow t (filter (other_than tag) us)
below_filter t tag [] b = tt
below_filter t tag (u ∷ us) b = elim (ℕ_discrete u tag) [
  | yes e ↦ subst (IsBelow t) (sym (filter_no tag u us e)) (below_filter t tag us b.1)
  | no ne ↦ subst (IsBelow t) (sym (filter_yes tag u us ne)) (b.0, below_filter t tag us b.1)
]

ascending_filter : (tag : ℕ) (us : List ℕ) → IsAscending us → IsAscending (filter (other_than tag) us)
ascending_filter tag [] a = tt
ascending_filter tag (u ∷ us) a = elim (ℕ_discrete u tag) [
  | yes e ↦ subst IsAscending (sym (filter_no tag u us e)) (ascending_filter tag us a.1)
  | no ne ↦ subst IsAscending (sym (filter_yes tag u us ne)) (below_filter u tag us a.0, ascending_filter tag us a.1)
]

filter_has : (tag u : ℕ) (us : List ℕ) (k : ℕ) → u ≢ tag → slice_get us k ≡ Some u → Has (filter (other_than tag) us) u
filter_has tag u [] k ne h = absurd (cc)
filter_has tag u (v ∷ us) zero ne h = subst (λ l. Has l u) (sym (filter_yes tag v us (λ p. ne (sym (same_some v u h) ∙ p)))) (0, h)
filter_has tag u (v ∷ us) (suc k) ne h =
    let more = filter_has tag u us k ne h in
    elim (ℕ_discrete v tag) [
      | yes e ↦ subst (λ l. Has l u) (sym (filter_no tag v us e)) more
      | no nv ↦ subst (λ l. Has l u) (sym (filter_yes tag v us nv)) (suc more.0, more.1)
    ]

has_filter : (tag u : ℕ) (us : List ℕ) (k : ℕ) → slice_get (filter (other_than tag) us) k ≡ Some u → (u ≢ tag) × Has us u
has_filter tag u [] k h = absurd (cc)
has_filter tag u (v ∷ us) k h = elim (ℕ_discrete v tag) [
  | yes e ↦ let m = has_filter tag u us k (ap (λ l. slice_get l k) (sym (filter_no tag v us e)) ∙ h) in (m.0, (suc m.1.0, m.1.1))
  | no ne ↦ ⊎_elim
      (λ (q : v ≡ u). ((λ p. ne (q ∙ p)), (0, ap Some q)))
      (λ (r : Has (filter (other_than tag) us) u). let m = has_filter tag u us r.0 r.1 in (m.0, (suc m.1.0, m.1.1)))
      (cons_has v u (filter (other_than tag) us) k (ap (λ l. slice_get l k) (sym (filter_yes tag v us ne)) ∙ h))
]

-- ---- a tag put in

abbrev pub is_less : ℕ → ℕ → Bool
is_less tag u = nat_lt u tag

-- in an ascending list none is less than what is below its first
less_none : (tag : ℕ) (us : List ℕ) → IsBelow tag us → length (filter (is_less tag) us) ≡ 0
less_none tag [] b = refl
less_none tag (u ∷ us) b = ap (λ q. length (cond q (u ∷ filter (is_less tag) us) (filter (is_less tag) us))) (le-ltb u tag (let l = b.0 in omega (arith, l))) ∙ less_none tag us b.1

below_less : (t u : ℕ) (us : List ℕ) → t < u → IsBelow u us → IsBelow t us
below_less t u [] l b = tt
below_less t u (v ∷ us) l b = ((let k = b.0 in omega (arith, l, k)), below_less t u us l b.1)

-- each number that is put stands below what a number below it stands below
below_put : (t tag : ℕ) (us : List ℕ) (k : ℕ) → t < tag → IsBelow t us → IsBelow t (insert us k tag)
below_put t tag [] zero l b = (l, tt)
below_put t tag [] (suc k) l b = (l, tt)
below_put t tag (u ∷ us) zero l b = (l, b)
below_put t tag (u ∷ us) (suc k) l b = (b.0, below_put t tag us k l b.1)

pub ascending_put : (tag : ℕ) (us : List ℕ) → IsAscending us → (Has us tag → ⊥) → IsAscending (insert us (length (filter (is_less tag) us)) tag)
ascending_put tag [] a none = (tt, tt)
ascending_put tag (u ∷ us) a none = elim (dec_le tag u) [
  | yes le ↦
      let lt : tag < u = (let ne : tag ≢ u = λ q. none (0, ap Some (sym q)) in omega (arith, le, ne)) in
      let b : IsBelow tag (u ∷ us) = (lt, below_less tag u us lt a.0) in
      subst (λ k. IsAscending (insert (u ∷ us) k tag)) (sym (less_none tag (u ∷ us) b)) (b, a)
  | no nle ↦
      let lt : u < tag = omega (arith, nle) in
      subst (λ q. IsAscending (insert (u ∷ us) (length (cond q (u ∷ filter (is_less tag) us) (filter (is_less tag) us))) tag)) (sym (lt-ltb u tag lt))
      (below_put u tag us (length (filter (is_less tag) us)) lt a.0, ascending_put tag us a.1 (λ h. none (suc h.0, h.1)))
]

put_has : (tag : ℕ) (us : List ℕ) (k t j : ℕ) → slice_get (insert us k tag) j ≡ Some t → (t ≡ tag) ⊎ Has us t
put_has tag [] zero t j h = ⊎_elim (λ (e : tag ≡ t). inl (sym e)) (λ (m : Has [] t). inr m) (cons_has tag t [] j h)
put_has tag [] (suc k) t j h = ⊎_elim (λ (e : tag ≡ t). inl (sym e)) (λ (m : Has [] t). inr m) (cons_has tag t [] j h)
put_has tag (u ∷ us) zero t j h = ⊎_elim (λ (e : tag ≡ t). inl (sym e)) (λ (m : Has (u ∷ us) t). inr m) (cons_has tag t (u ∷ us) j h)
put_has tag (u ∷ us) (suc k) t j h = ⊎_elim
    (λ (e : u ≡ t). inr (0, ap Some e))
    (λ (m : Has (insert us k tag) t). ⊎_elim (λ (e : t ≡ tag). inl e) (λ (r : Has us t). inr (suc r.0, r.1)) (put_has tag us k t m.0 m.1))
    (cons_has u t (insert us k tag) j h)

has_put : (tag : ℕ) (us : List ℕ) (k t j : ℕ) → slice_get us j ≡ Some t → Has (insert us k tag) t
has_put tag [] k t j h = absurd (cc)
has_put tag (u ∷ us) zero t j h = (suc j, h)
has_put tag (u ∷ us) (suc k) t zero h = (0, h)
has_put tag (u ∷ us) (suc k) t (suc j) h = let m = has_put tag us k t j h in (suc m.0, m.1)

own_put : (tag : ℕ) (us : List ℕ) (k : ℕ) → Has (insert us k tag) tag
own_put tag [] zero = (0, refl)
own_put tag [] (suc k) = (0, refl)
own_put tag (u ∷ us) zero = (0, refl)
own_put tag (u ∷ us) (suc k) = let m = own_put tag us k in (suc m.0, m.1)

pub put : (tag : ℕ) (us : List ℕ) → IsAscending us → (Has us tag → ⊥) → IsPut tag us (insert us (length (filter (is_less tag) us)) tag)
put tag us a none = record {
  ascending = ascending_put tag us a none;
  members = λ t. (
    (λ h. put_has tag us (length (filter (is_less tag) us)) t h.0 h.1),
    (λ h. ⊎_elim
        (λ (e : t ≡ tag). subst (Has (insert us (length (filter (is_less tag) us)) tag)) (sym e) (own_put tag us (length (filter (is_less tag) us))))
        (λ (m : Has us t). has_put tag us (length (filter (is_less tag) us)) t m.0 m.1) h),
  );
}

pub put_where : (tag : ℕ) (us : List ℕ) → IsAscending us → (Has us tag → ⊥) → (place : ℕ) → place ≡ length (filter (is_less tag) us) → (after : List ℕ) (done : Bool) → done ≡ true → after ≡ (if done then insert us place tag else us) → IsPut tag us after
put_where tag us a none place p after done d is = subst (IsPut tag us) (sym (is ∙ if_true done (insert us place tag) us d ∙ ap (λ k. insert us k tag) p)) (put tag us a none)

-- ---- transfers changed

-- the transfer of a tag changed, and neither before nor after can an engine take it
pub busy : (t : ℕ) (g : Flight → Flight) → ((h : Flight) → (g h).transfer ≡ h.transfer) → (fs : List Flight) (f : Flight) (tags : List ℕ) → flight_of fs t ≡ Some f
    → (CanBeTaken (Some f) → ⊥) → (CanBeTaken (Some (g f)) → ⊥) → IsWaiting fs tags → IsWaiting (with_flight fs t g) tags
busy t g keeps fs f tags here before after w = record {
  ascending = w.ascending;
  members = λ u. elim (ℕ_discrete u t) [
    | yes e ↦ (
      (λ c. absurd (after (subst CanBeTaken (ap (flight_of (with_flight fs t g)) e ∙ with_here t g keeps fs f here) c))),
      (λ m. absurd (before (subst CanBeTaken (ap (flight_of fs) e ∙ here) ((w.members u).1 m)))),
    )
    | no ne ↦ (
      (λ c. (w.members u).0 (subst CanBeTaken (with_else t g keeps fs u ne) c)),
      (λ m. subst CanBeTaken (sym (with_else t g keeps fs u ne)) ((w.members u).1 m)),
    )
  ];
}

-- an engine takes one
pub taken : (t e : ℕ) (fs : List Flight) (f : Flight) (tags : List ℕ) → flight_of fs t ≡ Some f → IsWaiting fs tags → IsWaiting (with_flight fs t (with_engine (Some e))) (filter (other_than t) tags)
taken t e fs f tags here w = record {
  ascending = ascending_filter t tags w.ascending;
  members = λ u. elim (ℕ_discrete u t) [
    | yes q ↦ (
      (λ c. let gone = subst CanBeTaken (ap (flight_of (with_flight fs t (with_engine (Some e)))) q ∙ with_here t (with_engine (Some e)) (λ h. refl) fs f here) c in absurd (none_some (Some e) e gone.0 refl)),
      (λ m. absurd ((has_filter t u tags m.0 m.1).0 q)),
    )
    | no ne ↦ (
      (λ c. let m = (w.members u).0 (subst CanBeTaken (with_else t (with_engine (Some e)) (λ h. refl) fs u ne) c) in filter_has t u tags m.0 ne m.1),
      (λ m. subst CanBeTaken (sym (with_else t (with_engine (Some e)) (λ h. refl) fs u ne)) ((w.members u).1 (has_filter t u tags m.0 m.1).1)),
    )
  ];
}

-- each transfer behind a change is one before it, or the tag's one changed
changed_at : (t : ℕ) (g : Flight → Flight) (fs : List Flight) (k : ℕ) (h : Flight) → slice_get (with_flight fs t g) k ≡ Some h → (o : Flight) × Has fs o × ((h ≡ o) ⊎ ((h ≡ g o) × (flight_of fs t ≡ Some o)))
changed_at t g [] k h is = absurd (cc)
changed_at t g (x ∷ fs) k h is = elim (ℕ_discrete x.transfer.tag t) [
  | yes e ↦ ⊎_elim
      (λ (q : g x ≡ h). (x, (0, refl), inr (sym q, if_true (nat_eq x.transfer.tag t) (Some x) (flight_of fs t) (eq-eqb x.transfer.tag t e))))
      (λ (m : Has fs h). (h, (suc m.0, m.1), inl refl))
      (cons_has (g x) h fs k (ap (λ l. slice_get l k) (sym (if_true (nat_eq x.transfer.tag t) (g x ∷ fs) (x ∷ with_flight fs t g) (eq-eqb x.transfer.tag t e))) ∙ is))
  | no ne ↦ ⊎_elim
      (λ (q : x ≡ h). (x, (0, refl), inl (sym q)))
      (λ (m : Has (with_flight fs t g) h).
      let o = changed_at t g fs m.0 h m.1 in (
        o.0,
        (suc o.1.0, o.1.1),
        ⊎_elim
            (λ (q : h ≡ o.0). inl q)
            (λ (q : (h ≡ g o.0) × (flight_of fs t ≡ Some o.0)). inr (q.0, if_false (nat_eq x.transfer.tag t) (Some x) (flight_of fs t) (ne_eqb x.transfer.tag t ne) ∙ q.1))
            o.2,
      ))
      (cons_has x h (with_flight fs t g) k (ap (λ l. slice_get l k) (sym (if_false (nat_eq x.transfer.tag t) (g x ∷ fs) (x ∷ with_flight fs t g) (ne_eqb x.transfer.tag t ne))) ∙ is))
]

pub fly_on : (slow t : ℕ) (g : Flight → Flight) (fs : List Flight) → ((f : Flight) → flight_of fs t ≡ Some f → FliesWithin slow f → FliesWithin slow (g f)) → AllFlyWithin slow fs → AllFlyWithin slow (with_flight fs t g)
fly_on slow t g fs keeps all k h is =
    let o = changed_at t g fs k h is in
    let was = all o.1.0 o.0 o.1.1 in
    ⊎_elim (λ (e : h ≡ o.0). subst (FliesWithin slow) (sym e) was) (λ (e : (h ≡ g o.0) × (flight_of fs t ≡ Some o.0)). subst (FliesWithin slow) (sym e.0) (keeps o.0 e.1 was)) o.2

-- a transfer that is found stands in the list
pub found_has : (fs : List Flight) (t : ℕ) (f : Flight) → flight_of fs t ≡ Some f → Has fs f
found_has [] t f h = absurd (cc)
found_has (x ∷ fs) t f h = elim (ℕ_discrete x.transfer.tag t) [
  | yes e ↦ (0, sym (if_true (nat_eq x.transfer.tag t) (Some x) (flight_of fs t) (eq-eqb x.transfer.tag t e)) ∙ h)
  | no ne ↦ let m = found_has fs t f (sym (if_false (nat_eq x.transfer.tag t) (Some x) (flight_of fs t) (ne_eqb x.transfer.tag t ne)) ∙ h) in (suc m.0, m.1)
]

pub moved_flies : (slow : ℕ) (words : List ℤ) (f : Flight) → f.moved < f.transfer.count → FliesWithin slow f → FliesWithin slow ((if f.transfer.incoming then next_in words else next_out) f)
moved_flies slow words f more w = by f.transfer.incoming
  where
    by : (b : Bool) → FliesWithin slow ((if b then next_in words else next_out) f)
    by true = record { some_element = w.some_element; some_chunk = w.some_chunk; within = w.within; fits = w.fits; inside = subst (λ n. f.transfer.offset + f.transfer.count ≤ n) (sym (length-set f.cells (f.transfer.offset + f.moved) (number_at words (slow_place f.transfer f.moved)))) w.inside; not_past = omega (arith, more) }
    by false = record { some_element = w.some_element; some_chunk = w.some_chunk; within = w.within; fits = w.fits; inside = w.inside; not_past = omega (arith, more) }

pub engine_flies : (slow : ℕ) (o : Option ℕ) (f : Flight) → FliesWithin slow f → FliesWithin slow (with_engine o f)
engine_flies slow o f w = record { some_element = w.some_element; some_chunk = w.some_chunk; within = w.within; fits = w.fits; inside = w.inside; not_past = w.not_past }

pub apart_with : (t : ℕ) (g : Flight → Flight) → ((h : Flight) → (g h).transfer ≡ h.transfer) → (fs : List Flight) → TagsApart (transfers_of fs) → TagsApart (transfers_of (with_flight fs t g))
apart_with t g keeps fs a = subst TagsApart (sym (transfers_with t g keeps fs)) a
