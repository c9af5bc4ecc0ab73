use Rattle.std.proofs.Common.{◌≡◌, ◌&&◌, Some, drop}
use Rattle.num_row.specs.Ints.{◌>>=◌}
use Rattle.constraint_set.specs.Points.{all_hold}
use Rattle.constraint_set.proofs.listed.each_holds.Given as goal

abbrev pub invariant-loop-row : goal.invariant-loop-row
invariant-loop-row l = all_hold l.rows l.point l.scale ≡ (all_hold (drop l.row-index l.rows) l.point l.scale >>= (λ rest. Some (l.all && rest)))
