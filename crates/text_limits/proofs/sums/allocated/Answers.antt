use Rattle.std.proofs.Common.{sym, ap}
use Rattle.text_limits.specs.Capped.{capped}
use Rattle.text_limits.proofs.Tallied.{unallocated}
use Rattle.text_limits.proofs.sums.allocated.Goals as goal

pub returns-in_default : goal.returns-in_default
returns-in_default c = sym (ap capped (unallocated c.args.what.now c.in_default.not-Alloc).0)
