use Rattle.std.proofs.Common.{sym, subst}
use Rattle.order_machine.specs.Policies.{Choice}
use Rattle.order_machine.specs.Standing.{after}
use Rattle.order_machine.proofs.machine.Machine.choice.Goals as goal

pub returns-in-Late : goal.returns-in-Late
returns-in-Late c = λ s steps at. subst (λ p. Choice p c.args.moved (after s steps) c.first.result) (sym c.in-Late.is) (c.first.ensures s steps at)

pub returns-in-Early : goal.returns-in-Early
returns-in-Early c = λ s steps at. subst (λ p. Choice p c.args.moved (after s steps) c.last.result) (sym c.in-Early.is) (c.last.ensures s steps at)
