-- What both sides see: words, halves and races.
use Rattle.std.proofs.Common.{◌≡◌, ◌≢◌, ◌⊎◌, inl, inr, ℕ, ℤ, pos, ◌<◌, Bool, true, false, List, [], ◌∷◌, length, sym, refl, ap, ◌∙◌, arith, eq-eqb, ne_eqb}
use Rattle.std.specs.Prelude.{◌&&◌, Option, Some, None, if◌then◌else◌, nat_eq}
use Rattle.std.specs.List.{range_with_len}
use Rattle.std.proofs.lemmas.Bool.{and_parts}
use Rattle.std.proofs.lemmas.List.{get_or_past, length-map}
use Rattle.std.proofs.lemmas.List.Folds.{list_any_at}
use Rattle.std.proofs.lemmas.List.FromFn.{length-range_with_len, get_or-map-range_with_len}
use native.Mathlib.Decide.{ℕ_discrete, dec_le}
use Rattle.bus_model.specs.declared.transfer.Transfer.{Transfer}
use Rattle.bus_model.specs.declared.transfer.Started.{Started}
use Rattle.bus_model.specs.Places.{slow_place, slow_places, meets}
use Rattle.bus_model.specs.Copies.{number_at}
use Rattle.bus_model.specs.Ledger.{HalvesAway, Apart}
use Rattle.bus_model.specs.Engines.{started_of}
use Rattle.bus_model.proofs.Places.{meets_at}
use Rattle.direct_meaning.specs.Transfers.{overlap}
use Rattle.prompt_semantics.specs.Device.{Device, put_half, put_halves, is_away, has_away, is_started, load_races, store_races, start_races, record_of}
use Rattle.order_meaning.specs.Machine.{Half, Here, Away, Core}
use Rattle.order_meaning.specs.Agree.{with_list, lists_of, tag_of, Agree}
use Rattle.order_meaning.proofs.Flights.{none_some, both_ways, if_true, if_false, record_of_started, started_of_record, any_found, any_none, neither, record_has_tag}

pub same_number : (a b : ℕ) → nat_eq a b ≡ true → a ≡ b
same_number a b e = elim (ℕ_discrete a b) [ yes p ↦ p | no ne ↦ absurd (both_ways (nat_eq a b) e (ne_eqb a b ne)) ]

pub both_true : (a b : Bool) → a ≡ true → b ≡ true → (a && b) ≡ true
both_true a b p q = λ i. p i && q i

-- two transfers that share a place overlap
pub overlap_at : (o t : Transfer) (f e : ℕ) → f < o.count → e < t.count → slow_place o f ≡ slow_place t e → overlap o t ≡ true
overlap_at o t f e lf le same = list_any_at (meets t) (slow_places o) f 0 (omega (arith, length-map (range_with_len 0 o.count) (slow_place o), length-range_with_len 0 o.count))
    (ap (meets t) (get_or-map-range_with_len (slow_place o) 0 o.count f f 0 lf (omega arith)) ∙ meets_at t (slow_place o f) e le (sym same))

pub not_started : (ts : List Transfer) (tag : ℕ) → is_started ts tag ≡ false → record_of tag ts ≡ None
not_started ts tag h = by (record_of tag ts) refl
  where
    by : (o : Option Transfer) → record_of tag ts ≡ o → record_of tag ts ≡ None
    by None e = e
    by (Some t) e = absurd (both_ways (nat_eq t.tag tag) (eq-eqb t.tag tag (record_has_tag ts tag t e)) (any_none (λ t. nat_eq t.tag tag) ts tag t h e))

-- ---- tables of halves

abbrev pub is_half : ℕ → ℕ → ℕ → ℕ → Bool
is_half number half m h = nat_eq number m && nat_eq half h

pub half_is : (number half m h : ℕ) → is_half number half m h ≡ true → (number ≡ m) × (half ≡ h)
half_is number half m h e = let two = and_parts (nat_eq number m) (nat_eq half h) e in (same_number number m two.0, same_number half h two.1)

pub is_own_half : (number half : ℕ) → is_half number half number half ≡ true
is_own_half number half = both_true (nat_eq number number) (nat_eq half half) (eq-eqb number number refl) (eq-eqb half half refl)

pub put_half_same : {A : Type 0} (H : ℕ → ℕ → A) (number half m h : ℕ) (new : A) → is_half number half m h ≡ true → put_half H number half new m h ≡ new
unfolding put_half
put_half_same H number half m h new e = if_true (is_half number half m h) new (H m h) e

pub put_half_other : {A : Type 0} (H : ℕ → ℕ → A) (number half m h : ℕ) (new : A) → is_half number half m h ≡ false → put_half H number half new m h ≡ H m h
unfolding put_half
put_half_other H number half m h new e = if_false (is_half number half m h) new (H m h) e

pub put_halves_same : {A : Type 0} (H : ℕ → ℕ → A) (number m h : ℕ) (new : A) → nat_eq number m ≡ true → put_halves H number new m h ≡ new
unfolding put_halves
put_halves_same H number m h new e = if_true (nat_eq number m) new (H m h) e

pub put_halves_other : {A : Type 0} (H : ℕ → ℕ → A) (number m h : ℕ) (new : A) → nat_eq number m ≡ false → put_halves H number new m h ≡ H m h
unfolding put_halves
put_halves_other H number m h new e = if_false (nat_eq number m) new (H m h) e

-- halves that are here, where one half changes
pub here_changed : (H : ℕ → ℕ → Half) (G G' : ℕ → ℕ → List ℤ) (number half : ℕ) (new : Half)
    → ((m h : ℕ) (c : List ℤ) → H m h ≡ Here c → c ≡ G m h)
    → ((m h : ℕ) → is_half number half m h ≡ false → G' m h ≡ G m h)
    → ((m h : ℕ) (c : List ℤ) → is_half number half m h ≡ true → new ≡ Here c → c ≡ G' m h)
    → (m h : ℕ) (c : List ℤ) → put_half H number half new m h ≡ Here c → c ≡ G' m h
here_changed H G G' number half new old other own m h c is = by (is_half number half m h) refl
  where
    by : (b : Bool) → is_half number half m h ≡ b → c ≡ G' m h
    by true e = own m h c e (sym (put_half_same H number half m h new e) ∙ is)
    by false e = old m h c (sym (put_half_other H number half m h new e) ∙ is) ∙ sym (other m h e)

-- the lists of transfers of other halves
pub lists_other : (G G' : ℕ → ℕ → List ℤ) (number half : ℕ) (ts : List Transfer) → is_away ts number half ≡ false
    → ((m h : ℕ) → is_half number half m h ≡ false → G' m h ≡ G m h) → lists_of G' ts ≡ lists_of G ts
lists_other G G' number half [] none other = refl
lists_other G G' number half (t ∷ ts) none other =
    let two = neither (nat_eq t.fast number && nat_eq t.half half) (is_away ts number half) none in
    let e : is_half number half t.fast t.half ≡ false = turned t.fast number t.half half two.0 in
    λ i. record { transfer = t; list = other t.fast t.half e i } ∷ lists_other G G' number half ts two.1 other i
  where
    turned : (a b c d : ℕ) → (nat_eq a b && nat_eq c d) ≡ false → (nat_eq b a && nat_eq d c) ≡ false
    turned a b c d e = by (nat_eq b a && nat_eq d c) refl
      where
        by : (t : Bool) → (nat_eq b a && nat_eq d c) ≡ t → (nat_eq b a && nat_eq d c) ≡ false
        by false q = q
        by true q = let p = half_is b d a c q in absurd (both_ways (nat_eq a b && nat_eq c d) (both_true (nat_eq a b) (nat_eq c d) (eq-eqb a b (sym p.0)) (eq-eqb c d (sym p.1))) e)

pub lists_apart : (G G' : ℕ → ℕ → List ℤ) (number : ℕ) (ts : List Transfer) → has_away ts number ≡ false
    → ((m h : ℕ) → nat_eq number m ≡ false → G' m h ≡ G m h) → lists_of G' ts ≡ lists_of G ts
lists_apart G G' number [] none other = refl
lists_apart G G' number (t ∷ ts) none other =
    let two = neither (nat_eq t.fast number) (has_away ts number) none in
    let e : nat_eq number t.fast ≡ false = ne_eqb number t.fast (λ q. both_ways (nat_eq t.fast number) (eq-eqb t.fast number (sym q)) two.0) in
    λ i. record { transfer = t; list = other t.fast t.half e i } ∷ lists_apart G G' number ts two.1 other i

pub away_same : (away away' : ℕ → ℕ → Option ℕ) (has has' : ℕ → Option Started) → HalvesAway away has
    → ((m h : ℕ) → away' m h ≡ away m h) → ((t : ℕ) → has' t ≡ has t) → HalvesAway away' has'
away_same away away' has has' old same same_has m h t = (
  (λ e. let g = (old m h t).0 (sym (same m h) ∙ e) in (g.0, same_has t ∙ g.1, g.2, g.3)),
  (λ g. same m h ∙ (old m h t).1 (g.0, sym (same_has t) ∙ g.1, g.2, g.3)),
)

-- ---- a state of the machine beside one of the prompt meaning

module _ (n : ℕ) (x : Core) (y : Device) (a : Agree n x y) where
  -- a word that no outgoing transfer has a place at
  pub word_is : (place : ℕ) → load_races y.outstanding place ≡ false → number_at x.state.slow place ≡ number_at y.state.slow place
  word_is place none = elim (dec_le (length y.state.slow) place) [
    | yes h ↦ get_or_past x.state.slow place (pos 0) (let l = a.bus.long in omega (arith, l, h)) ∙ sym (get_or_past y.state.slow place (pos 0) h)
    | no h ↦ a.bus.ledger.words_are place (omega (arith, h)) (λ t e st has out le lt meet.
        let none' = any_none (λ t. if t.incoming then false else meets t place) y.outstanding t st.transfer none (record_of_started y.halves y.outstanding t st has) in
        both_ways (meets st.transfer place) (meets_at st.transfer place e lt meet) (sym (if_false st.transfer.incoming false (meets st.transfer place) out) ∙ none'))
  ]

  -- no transfer has a place at a word that a store doesn't race at
  pub no_place_at : (place : ℕ) → store_races y.outstanding place ≡ false → (t e : ℕ) (st : Started) → started_of (lists_of y.halves y.outstanding) t ≡ Some st → e < st.transfer.count → slow_place st.transfer e ≢ place
  no_place_at place none t e st has lt meet =
      both_ways (meets st.transfer place) (meets_at st.transfer place e lt meet) (any_none (λ t. meets t place) y.outstanding t st.transfer none (record_of_started y.halves y.outstanding t st has))

  pub half_here : (number half : ℕ) (cells : List ℤ) → x.halves number half ≡ Here cells → is_away y.outstanding number half ≡ false
  half_here number half cells is = by (is_away y.outstanding number half) refl
    where
      by : (b : Bool) → is_away y.outstanding number half ≡ b → is_away y.outstanding number half ≡ false
      by false e = e
      by true e =
          let f = any_found (λ t. nat_eq t.fast number && nat_eq t.half half) y.outstanding a.tags_apart e in
          let p = half_is f.transfer.fast f.transfer.half number half f.passes in
          absurd (none_some (tag_of (x.halves number half)) f.transfer.tag (ap tag_of is)
          ((a.away number half f.transfer.tag).1 (with_list y.halves f.transfer, started_of_record y.halves y.outstanding f.transfer.tag f.transfer f.on_record, p.0, p.1)))

  pub half_away : (number half tag : ℕ) → x.halves number half ≡ Away tag → is_away y.outstanding number half ≡ true
  half_away number half tag is = by (is_away y.outstanding number half) refl
    where
      by : (b : Bool) → is_away y.outstanding number half ≡ b → is_away y.outstanding number half ≡ true
      by true e = e
      by false e =
          let g = (a.away number half tag).0 (ap tag_of is) in
          let none = any_none (λ t. nat_eq t.fast number && nat_eq t.half half) y.outstanding tag g.0.transfer e (record_of_started y.halves y.outstanding tag g.0 g.1) in
          absurd (both_ways (nat_eq g.0.transfer.fast number && nat_eq g.0.transfer.half half)
          (both_true (nat_eq g.0.transfer.fast number) (nat_eq g.0.transfer.half half) (eq-eqb g.0.transfer.fast number g.2) (eq-eqb g.0.transfer.half half g.3)) none)

  -- no half of a memref that no transfer names is away
  pub none_away : (number half : ℕ) → has_away y.outstanding number ≡ false → tag_of (x.halves number half) ≡ None
  none_away number half none = by (tag_of (x.halves number half)) refl
    where
      by : (o : Option ℕ) → tag_of (x.halves number half) ≡ o → tag_of (x.halves number half) ≡ None
      by None e = e
      by (Some tag) e =
          let g = (a.away number half tag).0 e in
          absurd (both_ways (nat_eq g.0.transfer.fast number) (eq-eqb g.0.transfer.fast number g.2)
          (any_none (λ t. nat_eq t.fast number) y.outstanding tag g.0.transfer none (record_of_started y.halves y.outstanding tag g.0 g.1)))

  -- a start that doesn't race has no place of a transfer where one of the two writes
  pub start_apart : (t : Transfer) (list : List ℤ) → start_races y.outstanding t ≡ false → (u : ℕ) (b : Started) → started_of (lists_of y.halves y.outstanding) u ≡ Some b → Apart (record { transfer = t; list = list }) b
  start_apart t list none u b has writes e f le lf same =
      let here : (if t.incoming then (if b.transfer.incoming then false else overlap b.transfer t) else overlap b.transfer t) ≡ false =
      any_none (λ o. (if t.incoming then (if o.incoming then false else overlap o t) else overlap o t)) y.outstanding u b.transfer none (record_of_started y.halves y.outstanding u b has) in
      both_ways (overlap b.transfer t) (overlap_at b.transfer t f e lf le (sym same)) (by t.incoming b.transfer.incoming refl refl writes here)
    where
      by : (i j : Bool) → t.incoming ≡ i → b.transfer.incoming ≡ j → (t.incoming ≡ false) ⊎ (b.transfer.incoming ≡ false) → (if t.incoming then (if b.transfer.incoming then false else overlap b.transfer t) else overlap b.transfer t) ≡ false → overlap b.transfer t ≡ false
      by false j p q w h = sym (if_false t.incoming (if b.transfer.incoming then false else overlap b.transfer t) (overlap b.transfer t) p) ∙ h
      by true false p q w h = sym (if_true t.incoming (if b.transfer.incoming then false else overlap b.transfer t) (overlap b.transfer t) p ∙ if_false b.transfer.incoming false (overlap b.transfer t) q) ∙ h
      by true true p q (inl w) h = absurd (both_ways t.incoming p w)
      by true true p q (inr w) h = absurd (both_ways b.transfer.incoming q w)
