use Rattle.std.proofs.Common.{sym}
use Rattle.order_machine.proofs.machine.Machine.verdict.Goals as goal

pub returns : goal.returns
returns c = λ s steps at. sym at.stood.verdict
