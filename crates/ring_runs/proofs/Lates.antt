-- The last waits are allowed, and leave nothing under way.
use Rattle.std.proofs.Common.{◌≡◌, ◌≢◌, ◌⊎◌, inl, inr, ℕ, List, [], ◌∷◌, refl, sym, ap, ◌∙◌, Bool, true, false}
use mathlib.Core.Path.{fun_ext}
use Rattle.std.specs.Prelude.{◌&&◌, nat_eq, if◌then◌else◌}
use Rattle.std.proofs.lemmas.Bool.{eq-eqb}
use Rattle.bus_model.specs.declared.transfer.Transfer.{Transfer}
use Rattle.step_runs.specs.Stage.{Stage, image}
use Rattle.step_runs.specs.Steps.{Each, less_out, behind, Sound, Goes}
use Rattle.ring_runs.specs.Lates.{lates, left_out, AreOut}
use Rattle.ring_runs.specs.Ring.{none_out}
use Rattle.step_runs.proofs.Woven.{less_was}

module _ (large : ℕ) (ring : ℕ → ℕ → Transfer) where
  pub lates_go : (xs : List (ℕ × ℕ)) (s : Stage) → Sound large ring s → AreOut xs s.out
      → ((i j : ℕ) → s.out i j ≡ true → (ring i j).incoming ≡ false)
      → ((i j a b : ℕ) → s.out i j ≡ true → s.out a b ≡ true → (ring a b).tag ≡ (ring i j).tag → (a ≡ i) × (b ≡ j))
      → ((i j : ℕ) → s.out i j ≡ true → Each (λ (f : Transfer). s.tag f.tag ≢ (ring i j).tag) s.first)
      → Goes large ring (lates xs) s × (behind (lates xs) s ≡ record s { out = left_out xs s.out })
  lates_go [] s ok out outgoing tags others = (tt, refl)
  lates_go (x ∷ xs) s ok out outgoing tags others =
      let was = λ (a b : ℕ) (o : less_out x.0 x.1 s.out a b ≡ true). less_was ring (image s) x.0 x.1 a b s.out o in
      let more = lates_go xs (record s { out = less_out x.0 x.1 s.out }) (record { within = ok.within; alone = ok.alone }) out.1
      (λ i j o. outgoing i j (was i j o))
      (λ i j a b o p e. tags i j a b (was i j o) (was a b p) e)
      (λ i j o. others i j (was i j o)) in
      ((ok, record { out = out.0; outgoing = outgoing x.0 x.1 out.0; tags = λ a b o e. tags x.0 x.1 a b out.0 o e; others = others x.0 x.1 out.0 }, more.0), more.1)

  -- a list that has all of them leaves none
  abbrev pub Has : ℕ → ℕ → List (ℕ × ℕ) → Type 0
  Has i j [] = ⊥
  Has i j (x ∷ xs) = ((x.0 ≡ i) × (x.1 ≡ j)) ⊎ Has i j xs

  all_out : (xs : List (ℕ × ℕ)) (out : ℕ → ℕ → Bool) → ((i j : ℕ) → out i j ≡ true → Has i j xs) → (i j : ℕ) → left_out xs out i j ≡ false
  all_out [] out h i j = by (out i j) refl
    where
      by : (b : Bool) → out i j ≡ b → out i j ≡ false
      by true e = absurd (h i j e)
      by false e = e
  all_out (x ∷ xs) out h i j = all_out xs (less_out x.0 x.1 out) (λ a b o. rest a b (nat_eq x.0 a && nat_eq x.1 b) refl o) i j
    where
      rest : (a b : ℕ) (t : Bool) → (nat_eq x.0 a && nat_eq x.1 b) ≡ t → less_out x.0 x.1 out a b ≡ true → Has a b xs
      rest a b true t o = let k : false ≡ true = sym (ap (λ t. if t then false else out a b) t) ∙ o in cc
      rest a b false t o = by (h a b (sym (ap (λ t. if t then false else out a b) t) ∙ o))
        where
          by : ((x.0 ≡ a) × (x.1 ≡ b)) ⊎ Has a b xs → Has a b xs
          by (inr m) = m
          by (inl e) =
              let hit : (nat_eq x.0 a && nat_eq x.1 b) ≡ true = (λ k. same (x.0) a e.0 k && same (x.1) b e.1 k) in
              let k : true ≡ false = sym hit ∙ t in cc
            where
              same : (m n : ℕ) → m ≡ n → nat_eq m n ≡ true
              same m n e = eq-eqb m n e

  pub none_left : (xs : List (ℕ × ℕ)) (out : ℕ → ℕ → Bool) → ((i j : ℕ) → out i j ≡ true → Has i j xs) → left_out xs out ≡ none_out
  none_left xs out h = fun_ext (λ i. fun_ext (λ j. all_out xs out h i j))
