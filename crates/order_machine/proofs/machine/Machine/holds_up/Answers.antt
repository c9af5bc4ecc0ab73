use Rattle.std.proofs.Common.{◌∙◌, sym, ap}
use Rattle.walk_actions.specs.Meant.{meant}
use Rattle.order_meaning.specs.Machine.{is_held_up}
use Rattle.order_engines.specs.Flying.{flights_of}
use Rattle.order_machine.proofs.Lists.{no_wait}
use Rattle.order_machine.proofs.machine.Machine.holds_up.Goals as goal

pub returns-in-Waits : goal.returns-in-Waits
unfolding meant
returns-in-Waits c = c.holds_up.ensures ∙ ap (λ a. is_held_up (meant c.args.self.now.walk.names c.args.self.now.walk.subscripts a) (flights_of c.args.self.now.memory.flights.flying.items)) (sym c.in-Waits.is)

pub returns-in_default : goal.returns-in_default
returns-in_default c = sym (no_wait c.args.self.now.walk.names c.args.self.now.walk.subscripts c.args.action (flights_of c.args.self.now.memory.flights.flying.items) (λ tag count e. c.in_default.not-Waits tag count e))
