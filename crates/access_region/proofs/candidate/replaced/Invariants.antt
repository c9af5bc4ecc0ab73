use Rattle.std.proofs.Common.{◌≡◌, ◌≤◌, length}
use Rattle.access_region.specs.Candidates.{replaced}
use Rattle.access_region.proofs.candidate.replaced.Given as goal

abbrev pub invariant-loop-left : goal.invariant-loop-left
invariant-loop-left l = (l.left ≤ length l.goings) × (replaced l.end l.outer l.goings (length l.goings) l.fn.coefs ≡ replaced l.end l.outer l.goings l.left l.coefs.items)

abbrev pub decreases-loop-left : goal.decreases-loop-left
decreases-loop-left l = l.left
