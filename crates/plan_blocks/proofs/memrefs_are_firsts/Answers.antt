use Rattle.plan_blocks.proofs.Accessed.{memrefs}
use Rattle.plan_blocks.proofs.memrefs_are_firsts.Goals as goal

pub returns : goal.returns
returns c = memrefs
