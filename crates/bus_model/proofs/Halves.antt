-- A start makes one half away, a wait brings it back, and no two started transfers have one half.
use Rattle.std.proofs.Common.{◌≡◌, ◌≢◌, ℕ, sym, refl, ap, ◌∙◌}
use Rattle.std.specs.Prelude.{Option, Some, None}
use native.Mathlib.Decide.{ℕ_discrete}
use Rattle.bus_model.specs.declared.transfer.Started.{Started}
use Rattle.bus_model.specs.Ledger.{HalvesAway}

same_number : (o : Option ℕ) (a b : ℕ) → o ≡ Some a → o ≡ Some b → a ≡ b
same_number o a b p q = cc

no_number : (o : Option ℕ) (a : ℕ) → o ≡ None → o ≡ Some a → ⊥
no_number o a p q = cc

same_started : (o : Option Started) (a b : Started) → o ≡ Some a → o ≡ Some b → a ≡ b
same_started o a b p q = cc

not_started : (o : Option Started) (a : Started) → o ≡ None → o ≡ Some a → ⊥
not_started o a p q = cc

-- what holds at this half, and at every other, holds at each
at_half : (a b m h : ℕ) (P : Type 0) → ((m ≡ a) → (h ≡ b) → P) → (((m ≡ a) → (h ≡ b) → ⊥) → P) → P
at_half a b m h P here other = elim (ℕ_discrete m a) [
  | yes p ↦ elim (ℕ_discrete h b) [ yes q ↦ here p q | no ne ↦ other (λ _ q. ne q) ]
  | no ne ↦ other (λ p _. ne p)
]

module _ (away away' : ℕ → ℕ → Option ℕ) (has has' : ℕ → Option Started) (old : HalvesAway away has) where
  pub own_half : (t u : ℕ) (a b : Started) → has t ≡ Some a → has u ≡ Some b → a.transfer.fast ≡ b.transfer.fast → a.transfer.half ≡ b.transfer.half → t ≡ u
  own_half t u a b ha hb fast half =
      same_number (away b.transfer.fast b.transfer.half) t u ((old b.transfer.fast b.transfer.half t).1 (a, ha, fast, half)) ((old b.transfer.fast b.transfer.half u).1 (b, hb, refl, refl))

  module _ (t : ℕ) (st : Started) (others : (u : ℕ) → u ≢ t → has' u ≡ has u) (same : (m h : ℕ) → (m ≡ st.transfer.fast → h ≡ st.transfer.half → ⊥) → away' m h ≡ away m h) where
    pub halves_start : has t ≡ None → has' t ≡ Some st → away st.transfer.fast st.transfer.half ≡ None → away' st.transfer.fast st.transfer.half ≡ Some t → HalvesAway away' has'
    halves_start idle now was is m h u = (forward, backward)
      where
        Named : Type 0
        Named = (g : Started) × (has' u ≡ Some g) × (g.transfer.fast ≡ m) × (g.transfer.half ≡ h)

        forward : away' m h ≡ Some u → Named
        forward e = at_half st.transfer.fast st.transfer.half m h Named
            (λ p q. (st, ap has' (sym (same_number (away' m h) t u ((λ k. away' (p k) (q k)) ∙ is) e)) ∙ now, sym p, sym q))
            (λ ne. let g = (old m h u).0 (sym (same m h ne) ∙ e) in (g.0, others u (λ s. not_started (has u) g.0 (ap has s ∙ idle) g.1) ∙ g.1, g.2, g.3))

        backward : Named → away' m h ≡ Some u
        backward g = elim (ℕ_discrete u t) [
          | yes e ↦ let gs : g.0 ≡ st = same_started (has' t) g.0 st (ap has' (sym e) ∙ g.1) now in (λ k. away' ((sym g.2 ∙ ap (λ (z : Started). z.transfer.fast) gs) k) ((sym g.3 ∙ ap (λ (z : Started). z.transfer.half) gs) k)) ∙ is ∙ ap Some (sym e)
          | no ne ↦ let b = (old m h u).1 (g.0, sym (others u ne) ∙ g.1, g.2, g.3) in same m h (λ p q. no_number (away m h) u ((λ k. away (p k) (q k)) ∙ was) b) ∙ b
        ]

    pub halves_drop : has t ≡ Some st → has' t ≡ None → away' st.transfer.fast st.transfer.half ≡ None → HalvesAway away' has'
    halves_drop here gone back m h u = (forward, backward)
      where
        Named : Type 0
        Named = (g : Started) × (has' u ≡ Some g) × (g.transfer.fast ≡ m) × (g.transfer.half ≡ h)

        forward : away' m h ≡ Some u → Named
        forward e = at_half st.transfer.fast st.transfer.half m h Named
            (λ p q. absurd (no_number (away' m h) u ((λ k. away' (p k) (q k)) ∙ back) e))
            (λ ne. let g = (old m h u).0 (sym (same m h ne) ∙ e) in
            (g.0, others u (λ s. let gs : g.0 ≡ st = same_started (has t) g.0 st (ap has (sym s) ∙ g.1) here in ne (sym g.2 ∙ ap (λ (z : Started). z.transfer.fast) gs) (sym g.3 ∙ ap (λ (z : Started). z.transfer.half) gs)) ∙ g.1, g.2, g.3))

        backward : Named → away' m h ≡ Some u
        backward g =
            let ne : u ≢ t = λ e. not_started (has' u) g.0 (ap has' e ∙ gone) g.1 in
            let b = (old m h u).1 (g.0, sym (others u ne) ∙ g.1, g.2, g.3) in
            same m h (λ p q. ne (same_number (away m h) u t b ((λ k. away (p k) (q k)) ∙ (old st.transfer.fast st.transfer.half t).1 (st, here, refl, refl)))) ∙ b
