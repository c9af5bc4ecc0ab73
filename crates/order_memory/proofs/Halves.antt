-- Halves changed on both sides.
use Rattle.std.proofs.Common.{◌≡◌, ◌≢◌, ℕ, ℤ, ◌<◌, List, length, replicate, set, refl, sym, ap, ◌∙◌, subst, eq-eqb, ne_eqb, length-set, get_or-set_same, get_or-set_other}
use Rattle.std.specs.Prelude.{nat_eq, Some, slice_get}
use Rattle.std.proofs.lemmas.List.{length-replicate}
use native.Mathlib.Decide.{ℕ_discrete}
use Rattle.fast_halves.specs.Shape.{HalfShape, HalvesShape, here}
use Rattle.prompt_semantics.specs.Device.{put_half, put_halves}
use Rattle.prompt_laws.specs.Rooms.{Room, room_at}
use Rattle.order_meaning.specs.Machine.{Half, Here}
use Rattle.order_meaning.proofs.Flights.{same_some}
use Rattle.order_meaning.proofs.Sides.{both_true, put_half_same, put_half_other, put_halves_same, put_halves_other}
use Rattle.order_meaning.proofs.StartsAndWaits.{other_half}
use Rattle.order_memory.specs.Halves.{no_halves, memref_at, half_at, SameHalf, SameHalves}
use Rattle.order_memory.proofs.Changed.{changed, changed_length, half_same, half_other, cells_same, halves_same}
use Rattle.order_memory.proofs.First.{in_equals}

module _ (rooms : List Room) (H : ℕ → ℕ → Half) (hs : List HalvesShape) (s : SameHalves rooms H hs) (n : ℕ) (there : n < length hs) where
  -- one half
  module _ (half : ℕ) (half_there : half < length (memref_at hs n).halves) (new : Half) (v : HalfShape) (is : SameHalf (room_at rooms n).cells new v) where
    own : (m i : ℕ) (w : HalfShape) → m ≡ n → i ≡ half → half_at (changed hs n half v there) m i ≡ Some w → SameHalf (room_at rooms m).cells (put_half H n half new m i) w
    own m i w p q at =
        let here_now = half_same hs n half v there half_there in
        let vw : v ≡ w = same_some v w (sym here_now ∙ (λ k. half_at (changed hs n half v there) (sym p k) (sym q k)) ∙ at) in
        let put : new ≡ put_half H n half new m i = sym (put_half_same H n half m i new (both_true (nat_eq n m) (nat_eq half i) (eq-eqb n m (sym p)) (eq-eqb half i (sym q)))) in
        subst (λ z. z) (λ k. SameHalf (room_at rooms (sym p k)).cells (put k) (vw k)) is

    elsewhere : (m i : ℕ) (w : HalfShape) → (m ≡ n → i ≡ half → ⊥) → half_at (changed hs n half v there) m i ≡ Some w → SameHalf (room_at rooms m).cells (put_half H n half new m i) w
    elsewhere m i w ne at =
        subst (λ h. SameHalf (room_at rooms m).cells h w) (sym (put_half_other H n half m i new (other_half n half m i ne)))
        (s.same m i w (sym (half_other hs n half v there m i ne) ∙ at))

    pub put_both : SameHalves rooms (put_half H n half new) (changed hs n half v there)
    put_both = record {
      memrefs = changed_length hs n half v there ∙ s.memrefs;
      cells = λ m. cells_same hs n half v there m ∙ s.cells m;
      many = λ m. halves_same hs n half v there m ∙ s.many m;
      same = λ m i w at. elim (ℕ_discrete m n) [
        | yes p ↦ elim (ℕ_discrete i half) [
          | yes q ↦ own m i w p q at
          | no ne ↦ elsewhere m i w (λ _ q. ne q) at
        ]
        | no ne ↦ elsewhere m i w (λ p _. ne p) at
      ];
    }

  -- all halves of one memref
  module _ (m' : HalvesShape) (fresh : List ℤ) (cells : m'.cells ≡ (memref_at hs n).cells) (halves : m'.halves ≡ replicate (length (memref_at hs n).halves) (here fresh)) where
    at_own : (m : ℕ) → m ≡ n → memref_at (set hs n m') m ≡ m'
    at_own m p = ap (memref_at (set hs n m')) p ∙ get_or-set_same hs n m' no_halves there

    at_other : (m : ℕ) → m ≢ n → memref_at (set hs n m') m ≡ memref_at hs m
    at_other m ne = get_or-set_other hs n m m' no_halves ne

    fresh_own : (m i : ℕ) (w : HalfShape) → m ≡ n → half_at (set hs n m') m i ≡ Some w → SameHalf (room_at rooms m).cells (put_halves H n (Here fresh) m i) w
    fresh_own m i w p at =
        let vw : here fresh ≡ w = in_equals (length (memref_at hs n).halves) (here fresh) i w (sym (ap (λ l. slice_get l i) (ap (λ (q : HalvesShape). q.halves) (at_own m p) ∙ halves)) ∙ at) in
        let put : Here fresh ≡ put_halves H n (Here fresh) m i = sym (put_halves_same H n m i (Here fresh) (eq-eqb n m (sym p))) in
        subst (λ z. z) (λ k. SameHalf (room_at rooms m).cells (put k) (vw k)) (λ long. refl)

    pub fresh_both : SameHalves rooms (put_halves H n (Here fresh)) (set hs n m')
    fresh_both = record {
      memrefs = length-set hs n m' ∙ s.memrefs;
      cells = λ m. elim (ℕ_discrete m n) [
        | yes p ↦ ap (λ (q : HalvesShape). q.cells) (at_own m p) ∙ cells ∙ ap (λ j. (memref_at hs j).cells) (sym p) ∙ s.cells m
        | no ne ↦ ap (λ (q : HalvesShape). q.cells) (at_other m ne) ∙ s.cells m
      ];
      many = λ m. elim (ℕ_discrete m n) [
        | yes p ↦ ap (λ (q : HalvesShape). length q.halves) (at_own m p) ∙ ap (λ l. length l) halves ∙ length-replicate (length (memref_at hs n).halves) (here fresh) ∙ ap (λ j. length (memref_at hs j).halves) (sym p) ∙ s.many m
        | no ne ↦ ap (λ (q : HalvesShape). length q.halves) (at_other m ne) ∙ s.many m
      ];
      same = λ m i w at. elim (ℕ_discrete m n) [
        | yes p ↦ fresh_own m i w p at
        | no ne ↦ subst (λ h. SameHalf (room_at rooms m).cells h w) (sym (put_halves_other H n m i (Here fresh) (ne_eqb n m (λ q. ne (sym q)))))
            (s.same m i w (sym (ap (λ (q : HalvesShape). slice_get q.halves i) (at_other m ne)) ∙ at))
      ];
    }
