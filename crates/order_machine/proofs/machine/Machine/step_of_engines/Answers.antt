use Rattle.std.proofs.Common.{sym}
use Rattle.order_machine.proofs.Lists.{not_past}
use Rattle.order_machine.proofs.machine.Machine.step_of_engines.Goals as goal

pub unreachable-requires : goal.unreachable-requires
unreachable-requires c = not_past _ c.args.n c.requires (sym c.in_default.ensures)
