use Rattle.std.proofs.Common.{rules, to_z-of_z, FitsSigned}
use Rattle.std.specs.Int.{w128}
use Rattle.constraint_set.specs.Reach.{upper_bound}
use Rattle.projection.proofs.Ends.{fitting}
use Rattle.projection.proofs.bounds.bound_of.Goals as goal

pub returns-in-Greatest : goal.returns-in-Greatest
returns-in-Greatest c =
    let f : FitsSigned w128 c.upper_of.result = search rules in
    let e = fitting c.upper_of.result (upper_bound c.args.row.now) f c.upper_of.ensures in
    rw c.in-Greatest.is (simp to_z-of_z e)
