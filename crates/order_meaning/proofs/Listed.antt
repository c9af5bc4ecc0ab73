-- The list of enabled steps has exactly these, and there is one.
use Rattle.std.proofs.Common.{◌≡◌, ◌≢◌, ◌⊎◌, ⊎_elim, inl, inr, ℕ, zero, suc, ◌+◌, ◌<◌, ◌≤◌, Bool, true, false, List, [], ◌∷◌, ◌++◌, length, map, sym, refl, ap, ◌∙◌, subst, arith}
use Rattle.std.specs.Prelude.{◌↔◌, Option, Some, None, nat_lt, if◌then◌else◌, slice_get}
use native.Mathlib.Decide.{ℕ_discrete, dec_le}
use borrow.Author.Tests.{ltb-true, ltb-false}
use Rattle.std.proofs.lemmas.Bool.{lt-ltb, le-ltb}
use Rattle.bus_model.specs.declared.step.Step.{Step}
use Rattle.bus_model.specs.declared.step.Step.TheVariants.{Compute, Take, Move, Finish}
use Rattle.bus_model.specs.declared.step.Verdict.{Verdict}
use Rattle.bus_model.specs.Engines.{Flight, flight_of}
use Rattle.direct_meaning.specs.Action.{Action}
use Rattle.prompt_semantics.specs.Device.{Device}
use Rattle.order_meaning.specs.Machine.{Machine, Core, transfers_of, is_held_up, CanCompute, held_by, CanBeTaken, HasMore, HasAll, Permitted, Enabled}
use Rattle.order_meaning.specs.Agree.{TagsApart, Agree}
use Rattle.order_meaning.specs.Listed.{Has, IsBelow, IsAscending, IsWaiting, compute_steps, engine_steps, steps_from, listed, IsListed, ListsEnabled, ListsOne}
use Rattle.order_meaning.proofs.Flights.{both_ways, if_true, if_false, same_some, none_some, held_flight}

-- ---- items of lists

pub has_front : {A : Type 0} (xs ys : List A) (x : A) (k : ℕ) → slice_get xs k ≡ Some x → Has (xs ++ ys) x
has_front [] ys x k e = absurd (cc)
has_front (y ∷ xs) ys x zero e = (0, e)
has_front (y ∷ xs) ys x (suc k) e = let h = has_front xs ys x k e in (suc h.0, h.1)

pub has_behind : {A : Type 0} (xs ys : List A) (x : A) (k : ℕ) → slice_get ys k ≡ Some x → Has (xs ++ ys) x
has_behind [] ys x k e = (k, e)
has_behind (y ∷ xs) ys x k e = let h = has_behind xs ys x k e in (suc h.0, h.1)

pub has_either : {A : Type 0} (xs ys : List A) (x : A) (k : ℕ) → slice_get (xs ++ ys) k ≡ Some x → Has xs x ⊎ Has ys x
has_either [] ys x k e = inr (k, e)
has_either (y ∷ xs) ys x zero e = inl (0, e)
has_either (y ∷ xs) ys x (suc k) e = ⊎_elim (λ (h : Has xs x). inl (suc h.0, h.1)) (λ (h : Has ys x). inr h) (has_either xs ys x k e)

has_take : (e : ℕ) (tags : List ℕ) (t k : ℕ) → slice_get tags k ≡ Some t → Has (map (Take e) tags) (Take e t)
has_take e [] t k q = absurd (cc)
has_take e (u ∷ tags) t zero q = (0, ap (λ v. Some (Take e v)) (same_some u t q))
has_take e (u ∷ tags) t (suc k) q = let h = has_take e tags t k q in (suc h.0, h.1)

take_has : (e : ℕ) (tags : List ℕ) (s : Step) (k : ℕ) → slice_get (map (Take e) tags) k ≡ Some s → (t : ℕ) × (s ≡ Take e t) × Has tags t
take_has e [] s k q = absurd (cc)
take_has e (u ∷ tags) s zero q = (u, sym (same_some (Take e u) s q), (0, refl))
take_has e (u ∷ tags) s (suc k) q = let h = take_has e tags s k q in (h.0, h.1, (suc h.2.0, h.2.1))

has_one : {A : Type 0} (y x : A) (k : ℕ) → slice_get (y ∷ []) k ≡ Some x → y ≡ x
has_one y x zero e = same_some y x e
has_one y x (suc k) e = absurd (cc)

-- ---- one list

below_has : (t : ℕ) (us : List ℕ) (u k : ℕ) → IsBelow t us → slice_get us k ≡ Some u → t < u
below_has t [] u k b e = absurd (cc)
below_has t (v ∷ us) u zero b e = subst (λ w. t < w) (same_some v u e) b.0
below_has t (v ∷ us) u (suc k) b e = below_has t us u k b.1 e

at_head : (t : ℕ) (ts : List ℕ) (u k : ℕ) → IsBelow t ts → slice_get (t ∷ ts) k ≡ Some u → t ≤ u
at_head t ts u zero b e = let q : t ≡ u = same_some t u e in omega arith
at_head t ts u (suc k) b e = let l = below_has t ts u k b e in omega (arith, l)

behind_head : (t : ℕ) (ts : List ℕ) (v k : ℕ) → t < v → slice_get (t ∷ ts) k ≡ Some v → Has ts v
behind_head t ts v zero l e = let q : t ≡ v = same_some t v e in absurd (omega (arith, l))
behind_head t ts v (suc k) l e = (k, e)

pub one_list : (ts us : List ℕ) → IsAscending ts → IsAscending us → ((t : ℕ) → Has ts t → Has us t) → ((t : ℕ) → Has us t → Has ts t) → ts ≡ us
one_list [] [] a b f g = refl
one_list [] (u ∷ us) a b f g = let h = g u (0, refl) in absurd (let q = h.1 in cc)
one_list (t ∷ ts) [] a b f g = let h = f t (0, refl) in absurd (let q = h.1 in cc)
one_list (t ∷ ts) (u ∷ us) a b f g =
    let h = f t (0, refl) in
    let k = g u (0, refl) in
    let ut = at_head u us t h.0 b.0 h.1 in
    let tu = at_head t ts u k.0 a.0 k.1 in
    let e : t ≡ u = omega (arith, ut, tu) in
    let rest = one_list ts us a.1 b.1
    (λ v m. let l = below_has t ts v m.0 a.0 m.1 in let w = f v (suc m.0, m.1) in behind_head u us v w.0 (omega (arith, l, e)) w.1)
    (λ v m. let l = below_has u us v m.0 b.0 m.1 in let w = g v (suc m.0, m.1) in behind_head t ts v w.0 (omega (arith, l, e)) w.1) in
    λ i. e i ∷ rest i

-- ---- engines

from_engine : (flights : List Flight) (tags : List ℕ) (n e d : ℕ) (s : Step) → e ≤ d → d < e + n → Has (engine_steps tags d (held_by flights d)) s → Has (steps_from flights tags e n) s
from_engine flights tags zero e d s low high h = absurd (omega (arith, low, high))
from_engine flights tags (suc n) e d s low high h = elim (ℕ_discrete e d) [
  | yes p ↦ let m = subst (λ c. Has (engine_steps tags c (held_by flights c)) s) (sym p) h in has_front (engine_steps tags e (held_by flights e)) (steps_from flights tags (suc e) n) s m.0 m.1
  | no ne ↦ let m = from_engine flights tags n (suc e) d s (omega (arith, low, ne)) (omega (arith, high)) h in has_behind (engine_steps tags e (held_by flights e)) (steps_from flights tags (suc e) n) s m.0 m.1
]

record Whose (flights : List Flight) (tags : List ℕ) (e n : ℕ) (s : Step) : Type 0 where
  engine : ℕ
  below : engine < e + n
  has : Has (engine_steps tags engine (held_by flights engine)) s

to_engine : (flights : List Flight) (tags : List ℕ) (n e : ℕ) (s : Step) (k : ℕ) → slice_get (steps_from flights tags e n) k ≡ Some s → Whose flights tags e n s
to_engine flights tags zero e s k h = absurd (cc)
to_engine flights tags (suc n) e s k h = ⊎_elim
    (λ (m : Has (engine_steps tags e (held_by flights e)) s). record { engine = e; below = omega arith; has = m })
    (λ (m : Has (steps_from flights tags (suc e) n) s). let w = to_engine flights tags n (suc e) s m.0 m.1 in record { engine = w.engine; below = let l = w.below in omega (arith, l); has = w.has })
    (has_either (engine_steps tags e (held_by flights e)) (steps_from flights tags (suc e) n) s k h)

-- ---- a state

module _ (x : Machine) (y : Device) (a : Agree x.engines x.core y) (tags : List ℕ) (w : IsWaiting x.core.flights tags) where
  apart : TagsApart (transfers_of x.core.flights)
  apart = subst TagsApart (sym a.records) a.tags_apart

  not_past : (e : ℕ) (f : Flight) → held_by x.core.flights e ≡ Some f → f.moved ≤ f.transfer.count
  not_past e f h = let own = held_flight x.core.flights e f apart h in (a.flights f.transfer.tag f own.1).not_past

  computes : (rest : List Action) → CanCompute rest x.core.flights → Has (compute_steps rest x.core.flights) Compute
  computes [] h = absurd h
  computes (b ∷ more) h = (0, ap (λ l. slice_get l 0) (if_false (is_held_up b x.core.flights) [] (Compute ∷ []) h))

  can_compute : (rest : List Action) (s : Step) (k : ℕ) → slice_get (compute_steps rest x.core.flights) k ≡ Some s → (s ≡ Compute) × CanCompute rest x.core.flights
  can_compute [] s k h = absurd (cc)
  can_compute (b ∷ more) s k h = by (is_held_up b x.core.flights) refl
    where
      by : (t : Bool) → is_held_up b x.core.flights ≡ t → (s ≡ Compute) × (is_held_up b x.core.flights ≡ false)
      by true e = let q = ap (λ l. slice_get l k) (sym (if_true (is_held_up b x.core.flights) [] (Compute ∷ []) e)) ∙ h in absurd (cc)
      by false e = (sym (has_one Compute s k (ap (λ l. slice_get l k) (sym (if_false (is_held_up b x.core.flights) [] (Compute ∷ []) e)) ∙ h)), e)

  moves : (e : ℕ) (o : Option Flight) → HasMore o → Has (engine_steps tags e o) (Move e)
  moves e None h = absurd h
  moves e (Some f) h = (0, ap Some (if_true (nat_lt f.moved f.transfer.count) (Move e) (Finish e) (lt-ltb f.moved f.transfer.count h)))

  finishes : (e : ℕ) (o : Option Flight) → HasAll o → Has (engine_steps tags e o) (Finish e)
  finishes e None h = absurd h
  finishes e (Some f) h = (0, ap Some (if_false (nat_lt f.moved f.transfer.count) (Move e) (Finish e) (le-ltb f.moved f.transfer.count (omega (arith, h)))))

  takes : (e t : ℕ) (o : Option Flight) → o ≡ None → Has tags t → Has (engine_steps tags e o) (Take e t)
  takes e t None q h = has_take e tags t h.0 h.1
  takes e t (Some f) q h = absurd (cc)

  of_engine : (e : ℕ) (s : Step) → e < x.engines → Has (engine_steps tags e (held_by x.core.flights e)) s → Has (listed None x tags) s
  of_engine e s l h = let m = from_engine x.core.flights tags x.engines 0 e s (omega arith) (omega (arith, l)) h in has_behind (compute_steps x.rest x.core.flights) (steps_from x.core.flights tags 0 x.engines) s m.0 m.1

  permitted_has : (s : Step) → Permitted s x → Has (listed None x tags) s
  permitted_has Compute p = let m = computes x.rest p in has_front (compute_steps x.rest x.core.flights) (steps_from x.core.flights tags 0 x.engines) Compute m.0 m.1
  permitted_has (Take e t) p = of_engine e (Take e t) p.0 (takes e t (held_by x.core.flights e) p.1 ((w.members t).0 p.2))
  permitted_has (Move e) p = of_engine e (Move e) p.0 (moves e (held_by x.core.flights e) p.1)
  permitted_has (Finish e) p = of_engine e (Finish e) p.0 (finishes e (held_by x.core.flights e) p.1)

  engine_permits : (e : ℕ) (s : Step) → e < x.engines → (o : Option Flight) → held_by x.core.flights e ≡ o → (k : ℕ) → slice_get (engine_steps tags e o) k ≡ Some s → Permitted s x
  engine_permits e s l None q k h =
      let m = take_has e tags s k h in
      subst (λ z. Permitted z x) (sym m.1) (l, q, (w.members m.0).1 m.2)
  engine_permits e s l (Some f) q k h = by (nat_lt f.moved f.transfer.count) refl
    where
      by : (t : Bool) → nat_lt f.moved f.transfer.count ≡ t → Permitted s x
      by true r = subst (λ z. Permitted z x) (ap (λ b. if b then Move e else Finish e) (sym r) ∙ has_one _ s k h) (l, subst HasMore (sym q) (ltb-true f.moved f.transfer.count r))
      by false r = subst (λ z. Permitted z x) (ap (λ b. if b then Move e else Finish e) (sym r) ∙ has_one _ s k h) (l, subst HasAll (sym q) (let past = not_past e f q in let less = ltb-false f.moved f.transfer.count r in omega (arith, past, less)))

  has_permitted : (s : Step) (k : ℕ) → slice_get (listed None x tags) k ≡ Some s → Permitted s x
  has_permitted s k h = ⊎_elim
      (λ (m : Has (compute_steps x.rest x.core.flights) s). let c = can_compute x.rest s m.0 m.1 in subst (λ z. Permitted z x) (sym c.0) c.1)
      (λ (m : Has (steps_from x.core.flights tags 0 x.engines) s). let o = to_engine x.core.flights tags x.engines 0 s m.0 m.1 in engine_permits o.engine s (let l = o.below in omega (arith, l)) (held_by x.core.flights o.engine) refl o.has.0 o.has.1)
      (has_either (compute_steps x.rest x.core.flights) (steps_from x.core.flights tags 0 x.engines) s k h)

  lists : (v : Option Verdict) → x.verdict ≡ v → (s : Step) → Enabled s x ↔ Has (listed v x tags) s
  lists None q s = ((λ e. permitted_has s e.permitted), (λ h. record { going = q; permitted = has_permitted s h.0 h.1 }))
  lists (Some v) q s = ((λ e. absurd (none_some x.verdict v e.going q)), (λ h. absurd (let r = h.1 in cc)))

pub lists_enabled : ListsEnabled
lists_enabled x y a steps l s = subst (λ z. Enabled s x ↔ Has z s) (sym l.is) (lists x y a l.tags l.waiting x.verdict refl s)

pub lists_one : ListsOne
lists_one x steps others l m =
    l.is
    ∙ ap (λ tags. listed x.verdict x tags) (one_list l.tags m.tags l.waiting.ascending m.waiting.ascending
    (λ t h. (m.waiting.members t).0 ((l.waiting.members t).1 h))
    (λ t h. (l.waiting.members t).0 ((m.waiting.members t).1 h)))
    ∙ sym m.is
