use Rattle.std.proofs.Common.{◌≡◌, ◌+◌, take}
use Rattle.placement_stage.specs.Places.{line_count}
use Rattle.placement_stage.proofs.parts.place_of.Given as goal

abbrev pub invariant-loop-place : goal.invariant-loop-place
invariant-loop-place l = l.left + line_count (take l.place l.stmts) ≡ l.position
