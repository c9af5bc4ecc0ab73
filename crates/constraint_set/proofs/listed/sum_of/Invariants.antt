use Rattle.std.proofs.Common.{◌≡◌, drop, pos}
use Rattle.constraint_set.specs.Points.{dot_from}
use Rattle.constraint_set.proofs.listed.sum_of.Given as goal

abbrev pub invariant-loop-i : goal.invariant-loop-i
invariant-loop-i l = dot_from (pos 0) l.coefs l.point ≡ dot_from l.sum (drop l.i l.coefs) (drop l.i l.point)
