-- The buffer that a turn uses.
use Rattle.std.specs.Prelude.{ℕ, ℤ, pos}
use Rattle.affine_expr.specs.Value.{floor_div, floor_mod}
use Rattle.direct_meaning.specs.Turns.{gap}

-- the ring place of the turn at i, in a loop with step s: `i floordiv s mod B`
abbrev pub ring_place : ℤ → ℕ → ℕ → ℕ
ring_place i s places = gap (floor_mod (floor_div i (pos s)) (pos places))
