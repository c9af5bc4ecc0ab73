use Rattle.std.proofs.Common.{◌∙◌, ◌+◌, sym, ap, arith}
use Rattle.order_engines.specs.Flying.{flights_of}
use Rattle.order_machine.proofs.Lists.{few_tags, few_from, all_listed, counted_stuck, counted_free}
use Rattle.order_machine.proofs.machine.Machine.count.Goals as goal

pub enabled-of_engines-requires : goal.enabled-of_engines-requires
enabled-of_engines-requires c = few_tags c.requires.somewhere.0 c.requires.somewhere.1 _ c.requires.somewhere.2 c.requires.going

pub returns-then-is_stuck : goal.returns-then-is_stuck
returns-then-is_stuck c = λ s steps at.
    (_, all_listed s steps _ at c.requires.going, c.enabled-of_engines.ensures ∙ counted_stuck s steps _ at c.requires.going (sym c.is_stuck.ensures ∙ c.if-is_stuck.true))

pub overflow_add-result : goal.overflow_add-result
overflow_add-result c =
    let few = few_tags c.requires.somewhere.0 c.requires.somewhere.1 _ c.requires.somewhere.2 c.requires.going in
    let k = few_from (flights_of c.args.self.now.memory.flights.flying.items) c.args.self.now.memory.flights.waiting.items few 0 c.args.self.now.engines in
    omega (arith, k, c.enabled-of_engines.ensures)

pub returns-else-is_stuck : goal.returns-else-is_stuck
returns-else-is_stuck c = λ s steps at.
    (_, all_listed s steps _ at c.requires.going, ap (λ n. n + 1) c.enabled-of_engines.ensures ∙ counted_free s steps _ at c.requires.going (sym c.is_stuck.ensures ∙ c.if-is_stuck.false))
