use Rattle.std.proofs.Common.{◌≢◌, ℕ, ◌<◌}
use Rattle.bus_model.specs.Places.{slow_place}
use Rattle.bus_model.proofs.transfer.meets.Given as goal

abbrev pub invariant-loop-element : goal.invariant-loop-element
invariant-loop-element l = (e : ℕ) → e < l.element → slow_place l.a e ≢ l.slow
