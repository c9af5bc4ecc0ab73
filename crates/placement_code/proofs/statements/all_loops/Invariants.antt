use Rattle.std.proofs.Common.{◌≡◌, ◌≤◌, ◌+◌, ◌*◌, drop, length}
use Rattle.made_names.specs.Made.{made_name}
use Rattle.placement_lists.specs.Statements.{loops}
use Rattle.placement_code.proofs.statements.all_loops.Given as goal

abbrev pub invariant-loop-left : goal.invariant-loop-left
invariant-loop-left l = record {
  same : l.stmts ≡ loops (λ d. made_name l.number (l.slot + 4 * d)) l.left (drop l.left l.dims) l.fn.inner;
  within : l.left ≤ length l.dims;
}

abbrev pub decreases-loop-left : goal.decreases-loop-left
decreases-loop-left l = l.left
