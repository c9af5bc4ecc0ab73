-- The second run's outstanding transfers: those of the first run, and its own.
use Rattle.std.specs.Prelude.{◌≡◌, ◌⊎◌, ℕ, Bool, true, false, List, [], ◌∷◌}
use Rattle.bus_model.specs.declared.transfer.Transfer.{Transfer}
use Rattle.step_runs.specs.Steps.{less_out}

-- each outstanding transfer of the second run is that of the first one's next, or one of its own
module _ (ring : ℕ → ℕ → Transfer) (image : Transfer → Transfer) where
  abbrev pub Woven : List Transfer → (ℕ → ℕ → Bool) → List Transfer → Type 0
  Woven first out [] = (first ≡ []) × ((i j : ℕ) → out i j ≡ false)
  Woven first out (t ∷ ts) =
      ((f : Transfer) × (rest : List Transfer) × (first ≡ f ∷ rest) × (t ≡ image f) × Woven rest out ts)
      ⊎ ((i : ℕ) × (j : ℕ) × (out i j ≡ true) × (t ≡ ring i j) × Woven first (less_out i j out) ts)
