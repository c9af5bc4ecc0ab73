use Rattle.text_limits.proofs.Grown.{operands_grow}
use Rattle.text_limits.proofs.operands_grow.Goals as goal

pub returns : goal.returns
returns c = operands_grow
