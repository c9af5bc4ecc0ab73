use Rattle.std.proofs.Common.{◌≡◌, ◌++◌, reverse, length}
use Rattle.placement_stage.proofs.parts.turned.Given as goal

abbrev pub invariant-loop-last : goal.invariant-loop-last
invariant-loop-last l = reverse l.fn.stmts ≡ l.turned ++ reverse l.left

abbrev pub decreases-loop-last : goal.decreases-loop-last
decreases-loop-last l = length l.left
