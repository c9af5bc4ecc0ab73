use Rattle.order_machine.proofs.machine.Machine.steps.Goals as goal

pub returns : goal.returns
returns c = λ s steps at. at.count
