-- What a store and a transfer leave in each place of a device.
use Rattle.std.proofs.Common.{◌≡◌, ◌≢◌, ℕ, zero, suc, ◌+◌, ◌-◌, ◌<◌, ◌≤◌, ◌⊎◌, inl, inr, ℤ, pos, List, length, length-set, refl, sym, ap, ◌∙◌, subst, arith, Bool, true, false}
use Rattle.std.specs.Prelude.{◌&&◌, nat_eq, nat_lt, nat_le, slice_set, if◌then◌else◌}
use Rattle.std.proofs.lemmas.List.{get_or-set_same, get_or-set_other, length-replicate}
use Rattle.std.proofs.lemmas.Bool.{eqb-true, eqb-false, eq-eqb, ne_eqb, and_parts, lt-ltb, ltb-true, le-leb, leb-true}
use Rattle.bus_model.specs.declared.transfer.Transfer.{Transfer}
use Rattle.bus_model.specs.Places.{slow_place, meets}
use Rattle.bus_model.specs.Copies.{number_at, moved_in}
use Rattle.bus_model.proofs.Copies.{length-first_in, first_in_else, first_in_here, length-first_out, first_out_else, first_out_here}
use Rattle.bus_model.proofs.Places.{places_are_distinct, meets_at, meets_nowhere}
use Rattle.direct_meaning.specs.Action.{Place, Slow, Fast, Outside}
use Rattle.affine_ast.specs.declared.types.Element.{Element}
use Rattle.int_ops.specs.Wrapped.{wrapped}
use Rattle.direct_meaning.specs.Static.{element_bits}
use Rattle.direct_meaning.specs.Actions.{half_cells}
use Rattle.prompt_semantics.specs.Device.{Device, copied_in, copied_out, allocated, fresh_half}
use Rattle.prompt_semantics.proofs.Laws.{half_same, half_other, halves_same, halves_other}
use Rattle.step_runs.specs.Stage.{value_at, HasRoom, stored_at, same_place, slow_end, fast_end, source, target, fast_target, slow_target, is_target, copied}

itself : (n h : ℕ) → (nat_eq n n && nat_eq h h) ≡ true
itself n h =
    let a : nat_eq n n ≡ true = eq-eqb n n refl in
    let b : nat_eq h h ≡ true = eq-eqb h h refl in
    λ i. a i && b i

pub place_is : (q p : Place) → same_place q p ≡ true → q ≡ p
place_is (Slow p) (Slow q) h = ap Slow (eqb-true p q h)
place_is (Slow p) (Fast n k c) h = cc
place_is (Slow p) Outside h = cc
place_is (Fast n h c) (Slow q) e = cc
place_is (Fast n h c) (Fast m k d) e =
    let a = and_parts (nat_eq n m) (nat_eq h k && nat_eq c d) e in
    let b = and_parts (nat_eq h k) (nat_eq c d) a.1 in
    λ i. Fast (eqb-true n m a.0 i) (eqb-true h k b.0 i) (eqb-true c d b.1 i)
place_is (Fast n h c) Outside e = cc
place_is Outside (Slow q) h = cc
place_is Outside (Fast m k d) h = cc
place_is Outside Outside h = refl

pub place_isnt : (q p : Place) → same_place q p ≡ false → q ≢ p
place_isnt q p h e =
    let k : same_place p p ≡ false = ap (λ q. same_place q p) (sym e) ∙ h in
    let t : true ≡ false = sym (same p) ∙ k in cc
  where
    same : (p : Place) → same_place p p ≡ true
    same (Slow p) = eq-eqb p p refl
    same (Fast n h c) =
        let a : nat_eq n n ≡ true = eq-eqb n n refl in
        let b : nat_eq h h ≡ true = eq-eqb h h refl in
        let d : nat_eq c c ≡ true = eq-eqb c c refl in
        λ i. a i && (b i && d i)
    same Outside = refl

-- a store
pub stored_same : (q : Place) (z : ℤ) (y : Device) → HasRoom q y → value_at q (stored_at q z y) ≡ z
stored_same (Slow p) z y h = get_or-set_same y.state.slow p z (pos 0) h
stored_same (Fast n h c) z y r =
    ap (λ l. number_at l c) (half_same y.halves n h n h (slice_set (y.halves n h) c z) (itself n h))
    ∙ get_or-set_same (y.halves n h) c z (pos 0) r
stored_same Outside z y h = absurd h

pub stored_other : (q p : Place) (z : ℤ) (y : Device) → q ≢ p → value_at p (stored_at q z y) ≡ value_at p y
stored_other (Slow p) (Slow q) z y h = get_or-set_other y.state.slow p q z (pos 0) (λ e. h (ap Slow (sym e)))
stored_other (Slow p) (Fast n k c) z y h = refl
stored_other (Slow p) Outside z y h = refl
stored_other (Fast n h c) (Slow q) z y e = refl
stored_other (Fast n h c) (Fast m k d) z y ne = by (nat_eq n m && nat_eq h k) refl
  where
    by : (t : Bool) → (nat_eq n m && nat_eq h k) ≡ t → value_at (Fast m k d) (stored_at (Fast n h c) z y) ≡ value_at (Fast m k d) y
    by true t =
        let two = and_parts (nat_eq n m) (nat_eq h k) t in
        let a = eqb-true n m two.0 in
        let b = eqb-true h k two.1 in
        ap (λ l. number_at l d) (half_same y.halves n h m k _ t)
        ∙ get_or-set_other (y.halves n h) c d z (pos 0) (λ e. ne (λ i. Fast (a i) (b i) (sym e i)))
        ∙ (λ i. number_at (y.halves (a i) (b i)) d)
    by false t = ap (λ l. number_at l d) (half_other y.halves n h m k _ t)
stored_other (Fast n h c) Outside z y e = refl
stored_other Outside p z y h = refl

pub stored_room : (q p : Place) (z : ℤ) (y : Device) → HasRoom p y → HasRoom p (stored_at q z y)
stored_room (Slow p) (Slow q) z y h = subst (λ n. q < n) (sym (length-set y.state.slow p z)) h
stored_room (Slow p) (Fast n k c) z y h = h
stored_room (Slow p) Outside z y h = h
stored_room (Fast n h c) (Slow q) z y e = e
stored_room (Fast n h c) (Fast m k d) z y r = by (nat_eq n m && nat_eq h k) refl
  where
    by : (t : Bool) → (nat_eq n m && nat_eq h k) ≡ t → HasRoom (Fast m k d) (stored_at (Fast n h c) z y)
    by true t =
        let two = and_parts (nat_eq n m) (nat_eq h k) t in
        let long = ap length (half_same y.halves n h m k (slice_set (y.halves n h) c z) t) ∙ length-set (y.halves n h) c z
        ∙ (λ i. length (y.halves (eqb-true n m two.0 i) (eqb-true h k two.1 i))) in
        subst (λ n. d < n) (sym long) r
    by false t = subst (λ l. d < length l) (sym (half_other y.halves n h m k _ t)) r
stored_room (Fast n h c) Outside z y e = e
stored_room Outside p z y h = h

-- what a store leaves of the rest of a device
pub stored_registers : (q : Place) (z : ℤ) (y : Device) → (stored_at q z y).state.registers ≡ y.state.registers
stored_registers (Slow p) z y = refl
stored_registers (Fast n h c) z y = refl
stored_registers Outside z y = refl

pub stored_long : (q : Place) (z : ℤ) (y : Device) → length (stored_at q z y).state.slow ≡ length y.state.slow
stored_long (Slow p) z y = length-set y.state.slow p z
stored_long (Fast n h c) z y = refl
stored_long Outside z y = refl

pub stored_live : (q : Place) (z : ℤ) (y : Device) → (stored_at q z y).live ≡ y.live
stored_live (Slow p) z y = refl
stored_live (Fast n h c) z y = refl
stored_live Outside z y = refl

pub stored_outstanding : (q : Place) (z : ℤ) (y : Device) → (stored_at q z y).outstanding ≡ y.outstanding
stored_outstanding (Slow p) z y = refl
stored_outstanding (Fast n h c) z y = refl
stored_outstanding Outside z y = refl

-- a transfer of which the strides are at least the chunks
pub record IsStepped (t : Transfer) : Type 0 where
  pub some : 1 ≤ t.chunk
  pub wide : t.chunk ≤ t.stride

-- the places of its elements, where it copies to, are there
abbrev pub HasTargets : Transfer → Device → Type 0
HasTargets t y = (e : ℕ) → e < t.count → HasRoom (target t e) y

module _ (t : Transfer) (y : Device) where
  abbrev cells : List ℤ
  cells = y.halves t.fast t.half

  abbrev copied_cells : List ℤ
  copied_cells = moved_in t y.state.slow (y.halves t.fast t.half)

  long_in : length copied_cells ≡ length cells
  long_in = length-first_in t y.state.slow cells t.count

  in_half : (copied_in t y).halves t.fast t.half ≡ copied_cells
  in_half = half_same y.halves t.fast t.half t.fast t.half copied_cells (itself t.fast t.half)

  all_fits : ((e : ℕ) → e < t.count → HasRoom (fast_end t e) y) → (k : ℕ) → t.count ≡ suc k → t.offset + t.count ≤ length cells
  all_fits h k e = let a = h k (omega (arith, e)) in omega (arith, e, a)

  in_here : ((e : ℕ) → e < t.count → HasRoom (fast_end t e) y) → (e : ℕ) → e < t.count → value_at (fast_end t e) (copied_in t y) ≡ value_at (slow_end t e) y
  in_here h e lt =
      ap (λ l. number_at l (t.offset + e)) in_half
      ∙ first_in_here t y.state.slow cells t.count e lt (let k = all_fits h (t.count - 1) (omega (arith, lt)) in k)

  out_here : IsStepped t → ((e : ℕ) → e < t.count → HasRoom (slow_end t e) y) → (e : ℕ) → e < t.count → value_at (slow_end t e) (copied_out t y) ≡ value_at (fast_end t e) y
  out_here s h e lt = first_out_here t y.state.slow cells t.count e lt h (λ d f ld lf k. places_are_distinct t s.some s.wide d f k)

  in_else : (q : Place) → ((e : ℕ) → e < t.count → fast_end t e ≢ q) → value_at q (copied_in t y) ≡ value_at q y
  in_else (Slow p) h = refl
  in_else (Fast n k c) h = by (nat_eq t.fast n && nat_eq t.half k) refl
    where
      outside : t.fast ≡ n → t.half ≡ k → (c < t.offset) ⊎ (t.offset + t.count ≤ c)
      outside a b = by_low (nat_lt c t.offset) refl
        where
          by_low : (u : Bool) → nat_lt c t.offset ≡ u → (c < t.offset) ⊎ (t.offset + t.count ≤ c)
          by_low true u = inl (ltb-true c t.offset u)
          by_low false u = by_high (nat_le (t.offset + t.count) c) refl
            where
              low : t.offset ≤ c
              low = grind (arith, u)

              by_high : (v : Bool) → nat_le (t.offset + t.count) c ≡ v → (c < t.offset) ⊎ (t.offset + t.count ≤ c)
              by_high true v = inr (leb-true (t.offset + t.count) c v)
              by_high false v =
                  let high : c < t.offset + t.count = grind (arith, v) in
                  let e : t.offset + (c - t.offset) ≡ c = omega (arith, low) in
                  absurd (h (c - t.offset) (omega (arith, low, high)) (λ i. Fast (a i) (b i) (e i)))

      by : (u : Bool) → (nat_eq t.fast n && nat_eq t.half k) ≡ u → value_at (Fast n k c) (copied_in t y) ≡ value_at (Fast n k c) y
      by true u =
          let two = and_parts (nat_eq t.fast n) (nat_eq t.half k) u in
          let a = eqb-true t.fast n two.0 in
          let b = eqb-true t.half k two.1 in
          ap (λ l. number_at l c) (half_same y.halves t.fast t.half n k copied_cells u)
          ∙ first_in_else t y.state.slow cells t.count c (outside a b)
          ∙ (λ i. number_at (y.halves (a i) (b i)) c)
      by false u = ap (λ l. number_at l c) (half_other y.halves t.fast t.half n k copied_cells u)
  in_else Outside h = refl

  out_else : (q : Place) → ((e : ℕ) → e < t.count → slow_end t e ≢ q) → value_at q (copied_out t y) ≡ value_at q y
  out_else (Slow p) h = first_out_else t y.state.slow cells t.count p (λ e lt k. h e lt (ap Slow k))
  out_else (Fast n k c) h = refl
  out_else Outside h = refl

  room_in : (q : Place) → HasRoom q y → HasRoom q (copied_in t y)
  room_in (Slow p) h = h
  room_in (Fast n k c) h = by (nat_eq t.fast n && nat_eq t.half k) refl
    where
      by : (u : Bool) → (nat_eq t.fast n && nat_eq t.half k) ≡ u → HasRoom (Fast n k c) (copied_in t y)
      by true u =
          let two = and_parts (nat_eq t.fast n) (nat_eq t.half k) u in
          let long = ap length (half_same y.halves t.fast t.half n k copied_cells u) ∙ long_in
          ∙ (λ i. length (y.halves (eqb-true t.fast n two.0 i) (eqb-true t.half k two.1 i))) in
          subst (λ n. c < n) (sym long) h
      by false u = subst (λ l. c < length l) (sym (half_other y.halves t.fast t.half n k _ u)) h
  room_in Outside h = h

  room_out : (q : Place) → HasRoom q y → HasRoom q (copied_out t y)
  room_out (Slow p) h = subst (λ n. p < n) (sym (length-first_out t y.state.slow cells t.count)) h
  room_out (Fast n k c) h = h
  room_out Outside h = h

-- in both directions
module _ (t : Transfer) (y : Device) where
  abbrev copied_by : Bool → Device
  copied_by b = if b then copied_in t y else copied_out t y

  abbrev target_by : Bool → ℕ → Place
  target_by b e = if b then fast_end t e else slow_end t e

  pub copied_here : (t.incoming ≡ false → IsStepped t) → HasTargets t y → (e : ℕ) → e < t.count → value_at (target t e) (copied t y) ≡ value_at (source t e) y
  copied_here s h e lt = by t.incoming s h
    where
      by : (b : Bool) → (b ≡ false → IsStepped t) → ((e : ℕ) → e < t.count → HasRoom (target_by b e) y) → value_at (target_by b e) (copied_by b) ≡ value_at (if b then slow_end t e else fast_end t e) y
      by true s h = in_here t y h e lt
      by false s h = out_here t y (s refl) h e lt

  pub copied_else : (q : Place) → ((e : ℕ) → e < t.count → target t e ≢ q) → value_at q (copied t y) ≡ value_at q y
  copied_else q h = by t.incoming h
    where
      by : (b : Bool) → ((e : ℕ) → e < t.count → target_by b e ≢ q) → value_at q (copied_by b) ≡ value_at q y
      by true h = in_else t y q h
      by false h = out_else t y q h

  pub copied_room : (q : Place) → HasRoom q y → HasRoom q (copied t y)
  copied_room q h = by t.incoming
    where
      by : (b : Bool) → HasRoom q (copied_by b)
      by true = room_in t y q h
      by false = room_out t y q h

  pub copied_registers : (copied t y).state.registers ≡ y.state.registers
  copied_registers = by t.incoming
    where
      by : (b : Bool) → (copied_by b).state.registers ≡ y.state.registers
      by true = refl
      by false = refl

  pub copied_long : length (copied t y).state.slow ≡ length y.state.slow
  copied_long = by t.incoming
    where
      by : (b : Bool) → length (copied_by b).state.slow ≡ length y.state.slow
      by true = refl
      by false = length-first_out t y.state.slow (y.halves t.fast t.half) t.count

  pub copied_live : (copied t y).live ≡ y.live
  copied_live = by t.incoming
    where
      by : (b : Bool) → (copied_by b).live ≡ y.live
      by true = refl
      by false = refl

  pub copied_outstanding : (copied t y).outstanding ≡ y.outstanding
  copied_outstanding = by t.incoming
    where
      by : (b : Bool) → (copied_by b).outstanding ≡ y.outstanding
      by true = refl
      by false = refl

-- the places that a transfer copies to
module _ (t : Transfer) where
  fast_hit : (q : Place) → fast_target t q ≡ true → (e : ℕ) × (e < t.count) × (fast_end t e ≡ q)
  fast_hit (Slow p) h = absurd (let k : false ≡ true = h in cc)
  fast_hit (Fast n k c) h =
      let a = and_parts (nat_eq t.fast n) (nat_eq t.half k && (nat_le t.offset c && nat_lt c (t.offset + t.count))) h in
      let b = and_parts (nat_eq t.half k) (nat_le t.offset c && nat_lt c (t.offset + t.count)) a.1 in
      let d = and_parts (nat_le t.offset c) (nat_lt c (t.offset + t.count)) b.1 in
      let low = leb-true t.offset c d.0 in
      let high = ltb-true c (t.offset + t.count) d.1 in
      let e : t.offset + (c - t.offset) ≡ c = omega (arith, low) in
      (c - t.offset, omega (arith, low, high), λ i. Fast (eqb-true t.fast n a.0 i) (eqb-true t.half k b.0 i) (e i))
  fast_hit Outside h = absurd (let k : false ≡ true = h in cc)

  fast_miss : (q : Place) → fast_target t q ≡ false → (e : ℕ) → e < t.count → fast_end t e ≢ q
  fast_miss q h e lt is =
      let a : nat_eq t.fast t.fast ≡ true = eq-eqb t.fast t.fast refl in
      let b : nat_eq t.half t.half ≡ true = eq-eqb t.half t.half refl in
      let c : nat_le t.offset (t.offset + e) ≡ true = le-leb t.offset (t.offset + e) (omega arith) in
      let d : nat_lt (t.offset + e) (t.offset + t.count) ≡ true = lt-ltb (t.offset + e) (t.offset + t.count) (omega (arith, lt)) in
      let hit : fast_target t (fast_end t e) ≡ true = λ i. a i && (b i && (c i && d i)) in
      let k : false ≡ true = sym h ∙ ap (fast_target t) (sym is) ∙ hit in cc

  -- an element among the first k at a place, or none
  find : (k p : ℕ) → ((e : ℕ) → e < k → slow_place t e ≢ p) ⊎ ((e : ℕ) × (e < k) × (slow_place t e ≡ p))
  find zero p = inl (λ e lt. absurd (omega (arith, lt)))
  find (suc k) p = by (find k p) (nat_eq (slow_place t k) p) refl
    where
      by : ((e : ℕ) → e < k → slow_place t e ≢ p) ⊎ ((e : ℕ) × (e < k) × (slow_place t e ≡ p)) → (b : Bool) → nat_eq (slow_place t k) p ≡ b
          → ((e : ℕ) → e < suc k → slow_place t e ≢ p) ⊎ ((e : ℕ) × (e < suc k) × (slow_place t e ≡ p))
      by (inr (e, lt, is)) b h = inr (e, omega (arith, lt), is)
      by (inl none) true h = inr (k, omega arith, eqb-true (slow_place t k) p h)
      by (inl none) false h = inl (λ e lt is. at e lt is (nat_eq e k) refl)
        where
          at : (e : ℕ) → e < suc k → slow_place t e ≡ p → (c : Bool) → nat_eq e k ≡ c → ⊥
          at e lt is true c = eqb-false (slow_place t k) p h (ap (slow_place t) (sym (eqb-true e k c)) ∙ is)
          at e lt is false c = none e (let ne = eqb-false e k c in omega (arith, lt, ne)) is

  pub slow_hit : (p : ℕ) → meets t p ≡ true → (e : ℕ) × (e < t.count) × (slow_place t e ≡ p)
  slow_hit p h = by (find t.count p)
    where
      by : ((e : ℕ) → e < t.count → slow_place t e ≢ p) ⊎ ((e : ℕ) × (e < t.count) × (slow_place t e ≡ p)) → (e : ℕ) × (e < t.count) × (slow_place t e ≡ p)
      by (inl none) = let k : true ≡ false = sym h ∙ meets_nowhere t p none in cc
      by (inr found) = found

  abbrev hits_by : Bool → Place → Bool
  hits_by b q = if b then fast_target t q else slow_target t q

  abbrev end_by : Bool → ℕ → Place
  end_by b e = if b then fast_end t e else slow_end t e

  pub target_hit : (q : Place) → is_target t q ≡ true → (e : ℕ) × (e < t.count) × (target t e ≡ q)
  target_hit q h = by t.incoming q h
    where
      by : (b : Bool) (q : Place) → hits_by b q ≡ true → (e : ℕ) × (e < t.count) × (end_by b e ≡ q)
      by true q h = fast_hit q h
      by false (Slow p) h = let s = slow_hit p h in (s.0, s.1, ap Slow s.2)
      by false (Fast n k c) h = absurd (let k : false ≡ true = h in cc)
      by false Outside h = absurd (let k : false ≡ true = h in cc)

  pub target_miss : (q : Place) → is_target t q ≡ false → (e : ℕ) → e < t.count → target t e ≢ q
  target_miss q h e lt = by t.incoming h
    where
      by : (b : Bool) → hits_by b q ≡ false → end_by b e ≢ q
      by true h = fast_miss q h e lt
      by false h = λ is. let k : false ≡ true = sym h ∙ ap (slow_target t) (sym is) ∙ meets_at t (slow_place t e) e lt refl in cc

-- what an allocation leaves
module _ (filler : ℤ) (n : ℕ) (element : Element) (sizes : List ℕ) (y : Device) where
  pub fresh_here : (h c : ℕ) → value_at (Fast n h c) (allocated filler n element sizes y) ≡ number_at (fresh_half filler element sizes) c
  fresh_here h c = ap (λ l. number_at l c) (halves_same y.halves n h (fresh_half filler element sizes))

  pub fresh_room : (h c : ℕ) → c < half_cells sizes → HasRoom (Fast n h c) (allocated filler n element sizes y)
  fresh_room h c lt =
      subst (λ l. c < length l) (sym (halves_same y.halves n h (fresh_half filler element sizes)))
      (subst (λ k. c < k) (sym (length-replicate (half_cells sizes) (wrapped (element_bits element) filler))) lt)

  pub fresh_else : (q : Place) → ((h c : ℕ) → q ≢ Fast n h c) → value_at q (allocated filler n element sizes y) ≡ value_at q y
  fresh_else (Slow p) h = refl
  fresh_else (Fast m k c) h = ap (λ l. number_at l c) (halves_other y.halves n m k (fresh_half filler element sizes) (ne_eqb n m (λ e. h k c (ap (λ n. Fast n k c) (sym e)))))
  fresh_else Outside h = refl

  pub fresh_room_else : (q : Place) → ((h c : ℕ) → q ≢ Fast n h c) → HasRoom q y → HasRoom q (allocated filler n element sizes y)
  fresh_room_else (Slow p) h r = r
  fresh_room_else (Fast m k c) h r = subst (λ l. c < length l) (sym (halves_other y.halves n m k (fresh_half filler element sizes) (ne_eqb n m (λ e. h k c (ap (λ n. Fast n k c) (sym e)))))) r
  fresh_room_else Outside h r = r
