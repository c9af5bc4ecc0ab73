use Rattle.std.proofs.Common.{arith, rules, to_z-of_z}
use Rattle.num_row.proofs.Floors.{floor_below, floor_above}
use Rattle.num_row.proofs.floor_div.Goals as goal

pub returns-clause-below : goal.returns-clause-below
returns-clause-below c = search (rules, to_z-of_z, floor_below)

pub returns-clause-above : goal.returns-clause-above
returns-clause-above c = grind (arith, to_z-of_z, floor_above)
