-- A stage with more transfers of the second run under way.
use Rattle.std.specs.Prelude.{ℕ, Bool, ◌||◌}
use Rattle.step_runs.specs.Stage.{Stage}

abbrev pub either_out : (ℕ → ℕ → Bool) → (ℕ → ℕ → Bool) → ℕ → ℕ → Bool
either_out more out i j = out i j || more i j

abbrev pub with_more : (ℕ → ℕ → Bool) → Stage → Stage
with_more more s = record s { out = either_out more s.out }
