use Rattle.std.proofs.Common.{rules, to_z-of_z}
use Rattle.num_row.proofs.Narrow.{narrowed_is}
use Rattle.dependence.proofs.stretches.opposite.Goals as goal

pub returns : goal.returns
returns c = search (rules, to_z-of_z, narrowed_is)
