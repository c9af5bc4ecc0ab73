use Rattle.std.proofs.Common.{◌∙◌, sym}
use Rattle.order_machine.proofs.Moves.{held_still, none_left}
use Rattle.order_machine.proofs.machine.Machine.compute.Goals as goal

pub returns-then-is_stuck-clause-made : goal.returns-then-is_stuck-clause-made
returns-then-is_stuck-clause-made c = λ s steps at. held_still s steps _ at c.requires.going (sym c.is_stuck.ensures ∙ c.if-is_stuck.true)

pub act-requires-clause-free : goal.act-requires-clause-free
act-requires-clause-free c = sym c.is_stuck.ensures ∙ c.if-is_stuck.false

pub returns-in-None-clause-made : goal.returns-in-None-clause-made
returns-in-None-clause-made c = λ s steps at. none_left s steps _ at c.requires.going c.in-None.is
