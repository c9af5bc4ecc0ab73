-- Behind a loop whose outgoing transfers go round a ring: the waits for those that are still under way.
use Rattle.std.specs.Prelude.{◌≡◌, ℕ, zero, suc, Bool, true, List, [], ◌∷◌}
use Rattle.step_runs.specs.Steps.{Step, Late, less_out}

-- the turns of placement i from k on, r of them
abbrev pub turns_of : ℕ → ℕ → ℕ → List (ℕ × ℕ)
turns_of i zero k = []
turns_of i (suc r) k = (i, k) ∷ turns_of i r (suc k)

-- a wait for each of these, by placement and turn
abbrev pub lates : List (ℕ × ℕ) → List Step
lates [] = []
lates (x ∷ xs) = Late x.0 x.1 ∷ lates xs

-- what is left under way behind them
abbrev pub left_out : List (ℕ × ℕ) → (ℕ → ℕ → Bool) → ℕ → ℕ → Bool
left_out [] out = out
left_out (x ∷ xs) out = left_out xs (less_out x.0 x.1 out)

-- each is under way, and is waited for once
abbrev pub AreOut : List (ℕ × ℕ) → (ℕ → ℕ → Bool) → Type 0
AreOut [] out = Unit {0}
AreOut (x ∷ xs) out = (out x.0 x.1 ≡ true) × AreOut xs (less_out x.0 x.1 out)
