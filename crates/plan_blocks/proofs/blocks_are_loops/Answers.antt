use Rattle.plan_blocks.proofs.Blocked.{loops}
use Rattle.plan_blocks.proofs.blocks_are_loops.Goals as goal

pub returns : goal.returns
returns c = loops
