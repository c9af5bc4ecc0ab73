use Rattle.std.proofs.Common.{refl, []}
use Rattle.order_machine.proofs.Lists.{none_listed}
use Rattle.order_machine.proofs.machine.Machine.enabled.Goals as goal

pub returns-in-Some : goal.returns-in-Some
returns-in-Some c = λ s steps at. ([], none_listed s steps _ at c.in-Some.field-0 c.in-Some.is, refl)
