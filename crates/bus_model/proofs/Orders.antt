-- The engines' steps keep the agreement.
use Rattle.std.proofs.Common.{◌≡◌, ◌≢◌, ℕ, ℤ, pos, ◌+◌, ◌<◌, true, false, List, [], ◌∷◌, length, set, sym, refl, ap, ◌∙◌, subst, arith, eq-eqb, ne_eqb, length-set, get_or-set_other, get_or-set_same}
use Rattle.std.specs.Prelude.{Option, Some, None, if◌then◌else◌, nat_eq}
use native.Mathlib.Decide.{ℕ_discrete}
use Rattle.bus_model.specs.declared.transfer.Transfer.{Transfer}
use Rattle.bus_model.specs.Places.{slow_place}
use Rattle.bus_model.specs.Copies.{number_at}
use Rattle.bus_model.specs.Ledger.{Progress, Ledger}
use Rattle.bus_model.specs.Engines.{Flight, Device, Prompt, with_flight, flight_of, started_of, progress, progress_of, with_engine, next_in, next_out, slow_out, EngineStep, take, move_in, move_out, finish, Agree, at_rest, onward, EnginesKeepAgreement}
use Rattle.bus_model.proofs.Ledgers.{ledger_keeps, ledger_in, ledger_out}

module _ (t : ℕ) (g : Flight → Flight) (keeps : (f : Flight) → (g f).transfer ≡ f.transfer) where
  pub with_here : (xs : List Flight) (f : Flight) → flight_of xs t ≡ Some f → flight_of (with_flight xs t g) t ≡ Some (g f)
  with_here [] f e = absurd (cc)
  with_here (x ∷ xs) f e = elim (ℕ_discrete x.transfer.tag t) [
    | yes p ↦ let is : nat_eq x.transfer.tag t ≡ true = eq-eqb x.transfer.tag t p in
        let was : Some x ≡ Some f = sym (ap (λ b. if b then Some x else flight_of xs t) is) ∙ e in
        let same : x ≡ f = cc in
        ap (λ b. flight_of (if b then g x ∷ xs else x ∷ with_flight xs t g) t) is ∙ ap (λ b. if b then Some (g x) else flight_of xs t) (ap (λ (q : Transfer). nat_eq q.tag t) (keeps x) ∙ is) ∙ ap (λ q. Some (g q)) same
    | no p ↦ let is : nat_eq x.transfer.tag t ≡ false = ne_eqb x.transfer.tag t p in
        ap (λ b. flight_of (if b then g x ∷ xs else x ∷ with_flight xs t g) t) is ∙ ap (λ b. if b then Some x else flight_of (with_flight xs t g) t) is ∙ with_here xs f (sym (ap (λ b. if b then Some x else flight_of xs t) is) ∙ e)
  ]

  pub with_else : (xs : List Flight) (u : ℕ) → u ≢ t → flight_of (with_flight xs t g) u ≡ flight_of xs u
  with_else [] u ne = refl
  with_else (x ∷ xs) u ne = elim (ℕ_discrete x.transfer.tag t) [
    | yes p ↦ let is : nat_eq x.transfer.tag t ≡ true = eq-eqb x.transfer.tag t p in
        let apart : nat_eq x.transfer.tag u ≡ false = ne_eqb x.transfer.tag u (λ h. ne (sym h ∙ p)) in
        ap (λ b. flight_of (if b then g x ∷ xs else x ∷ with_flight xs t g) u) is ∙ ap (λ b. if b then Some (g x) else flight_of xs u) (ap (λ (q : Transfer). nat_eq q.tag u) (keeps x) ∙ apart) ∙ sym (ap (λ b. if b then Some x else flight_of xs u) apart)
    | no p ↦ let is : nat_eq x.transfer.tag t ≡ false = ne_eqb x.transfer.tag t p in
        ap (λ b. flight_of (if b then g x ∷ xs else x ∷ with_flight xs t g) u) is ∙ ap (λ r. if nat_eq x.transfer.tag u then Some x else r) (with_else xs u ne)
  ]

  -- every flight after is one before, with the same transfer
  pub same_transfer : (xs : List Flight) (f : Flight) → flight_of xs t ≡ Some f → (u : ℕ) (h : Flight) → flight_of (with_flight xs t g) u ≡ Some h → (o : Flight) × (flight_of xs u ≡ Some o) × (o.transfer ≡ h.transfer)
  same_transfer xs f here u h is = elim (ℕ_discrete u t) [
    | yes e ↦ let now : flight_of (with_flight xs t g) u ≡ Some (g f) = ap (flight_of (with_flight xs t g)) e ∙ with_here xs f here in let q : g f ≡ h = cc in (f, ap (flight_of xs) e ∙ here, sym (keeps f) ∙ ap (λ (z : Flight). z.transfer) q)
    | no ne ↦ (h, sym (with_else xs u ne) ∙ is, refl)
  ]

-- a step of an engine on the flight of t
module _ (x : Device) (y : Prompt) (a : Agree x y) (t : ℕ) (f : Flight) (here : flight_of x.flights t ≡ Some f) where
  change : (slow' : List ℤ) (g : Flight → Flight) → ((h : Flight) → (g h).transfer ≡ h.transfer) → length slow' ≡ length x.slow
      → Ledger (length y.slow) (number_at slow') (number_at y.slow) (started_of y.started) (progress_of (with_flight x.flights t g)) → Agree record { slow = slow'; flights = with_flight x.flights t g } y
  change slow' g same long ledger = record {
    long = long ∙ a.long;
    ledger = ledger;
    same = λ u h is. let o = same_transfer t g same x.flights f here u h is in let old = a.same u o.0 o.1 in (old.0, old.1, old.2 ∙ o.2);
  }

  progress_here : (g : Flight → Flight) → ((h : Flight) → (g h).transfer ≡ h.transfer) → progress_of (with_flight x.flights t g) t ≡ record { moved = (g f).moved; cells = (g f).cells }
  progress_here g same = ap progress (with_here t g same x.flights f here)

  progress_else : (g : Flight → Flight) → ((h : Flight) → (g h).transfer ≡ h.transfer) → (u : ℕ) → u ≢ t → progress_of (with_flight x.flights t g) u ≡ progress_of x.flights u
  progress_else g same u ne = ap progress (with_else t g same x.flights u ne)

  was : progress_of x.flights t ≡ record { moved = f.moved; cells = f.cells }
  was = ap progress here

  -- Take and Finish change the engine alone
  keeps_engine : (e : Option ℕ) → Agree record { slow = x.slow; flights = with_flight x.flights t (with_engine e) } y
  keeps_engine e = change x.slow (with_engine e) (λ _. refl) refl
      (ledger_keeps (length y.slow) (number_at x.slow) (number_at x.slow) (number_at y.slow) (started_of y.started) (progress_of x.flights) (progress_of (with_flight x.flights t (with_engine e))) a.ledger (λ _ _. refl)
      (λ u. elim (ℕ_discrete u t) [ yes q ↦ ap (progress_of (with_flight x.flights t (with_engine e))) q ∙ progress_here (with_engine e) (λ _. refl) ∙ sym (ap (progress_of x.flights) q ∙ was) | no ne ↦ progress_else (with_engine e) (λ _. refl) u ne ]))

  moves_in : f.transfer.incoming ≡ true → f.moved < f.transfer.count → Agree record { slow = x.slow; flights = with_flight x.flights t (next_in x.slow) } y
  moves_in inc more =
      let s = a.same t f here in
      let g = next_in x.slow in
      let m : (progress_of x.flights t).moved ≡ f.moved = ap (λ (p : Progress). p.moved) was in
      let more' : (progress_of x.flights t).moved < s.0.transfer.count = subst (λ (z : ℕ × Transfer). z.0 < z.1.count) (λ k. (sym m k, sym s.2 k)) more in
      change x.slow g (λ _. refl) refl
      (ledger_in (length y.slow) (number_at x.slow) (number_at x.slow) (number_at y.slow) (started_of y.started) (progress_of x.flights) (progress_of (with_flight x.flights t g)) a.ledger t s.0 s.1 more' (progress_else g (λ _. refl))
      (ap (λ (p : Transfer). p.incoming) s.2 ∙ inc) (λ _ _. refl)
      (progress_here g (λ _. refl) ∙ (λ k. record { moved = (sym was k).moved + 1; cells = set (sym was k).cells ((sym s.2 k).offset + (sym was k).moved) (number_at x.slow (slow_place (sym s.2 k) (sym was k).moved)) })))

  moves_out : f.transfer.incoming ≡ false → f.moved < f.transfer.count → Agree record { slow = slow_out x.slow f; flights = with_flight x.flights t next_out } y
  moves_out out more =
      let s = a.same t f here in
      let m : (progress_of x.flights t).moved ≡ f.moved = ap (λ (p : Progress). p.moved) was in
      let more' : (progress_of x.flights t).moved < s.0.transfer.count = subst (λ (z : ℕ × Transfer). z.0 < z.1.count) (λ k. (sym m k, sym s.2 k)) more in
      let spot = slow_place f.transfer f.moved in
      let z = number_at f.cells (f.transfer.offset + f.moved) in
      let spot_is : slow_place s.0.transfer (progress_of x.flights t).moved ≡ spot = λ k. slow_place (s.2 k) (m k) in
      let near : spot < length y.slow = subst (λ q. q < length y.slow) spot_is ((a.ledger.placed t s.0 s.1).within (progress_of x.flights t).moved more') in
      change (slow_out x.slow f) next_out (λ _. refl) (length-set x.slow spot z)
      (ledger_out (length y.slow) (number_at x.slow) (number_at (slow_out x.slow f)) (number_at y.slow) (started_of y.started) (progress_of x.flights) (progress_of (with_flight x.flights t next_out)) a.ledger t s.0 s.1 more' (progress_else next_out (λ _. refl))
      (ap (λ (p : Transfer). p.incoming) s.2 ∙ out) (λ i _ ne. get_or-set_other x.slow spot i z (pos 0) (λ e. ne (e ∙ sym spot_is)))
      (ap (number_at (slow_out x.slow f)) spot_is ∙ get_or-set_same x.slow spot z (pos 0) (let b = a.long in omega arith) ∙ (λ k. number_at (sym was k).cells ((sym s.2 k).offset + (sym was k).moved)))
      (progress_here next_out (λ _. refl) ∙ (λ k. record { moved = (sym was k).moved + 1; cells = (sym was k).cells })))

pub step_keeps : (x x' : Device) (y : Prompt) → Agree x y → EngineStep x x' → Agree x' y
step_keeps _ _ y a (take x e t f _ here _ _) = keeps_engine x y a t f here (Some e)
step_keeps _ _ y a (move_in x e t f here _ inc more) = moves_in x y a t f here inc more
step_keeps _ _ y a (move_out x e t f here _ out more) = moves_out x y a t f here out more
step_keeps _ _ y a (finish x e t f here _ _) = keeps_engine x y a t f here None

pub keep_agreement : EnginesKeepAgreement
keep_agreement _ _ y a (at_rest x) = a
keep_agreement _ _ y a (onward x z w s ss) = keep_agreement z w y (step_keeps x z y a s) ss
