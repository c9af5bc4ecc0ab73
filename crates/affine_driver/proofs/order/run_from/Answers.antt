use Rattle.std.proofs.Common.{subst, rules, w64, SFits}
use Rattle.std.proofs.lemmas.Int.{to_z-of_z}
use Rattle.direct_meaning.specs.Memory.{module_actions}
use Rattle.order_meaning.specs.Law.{OrdersAgree}
use Rattle.order_machine.specs.Orders.{RunsOrder, setting}
use Rattle.affine_driver.proofs.Orders.{ended}
use Rattle.affine_driver.proofs.order.run_from.Goals as goal

pub returns : goal.returns
returns c =
    let input = c.args.verified.now.inner in
    let run = c.args.options.run in
    let fits : SFits w64 c.args.options.run.filler = search rules in
    let same = to_z-of_z w64 c.args.options.run.filler fits in
    let law = subst (λ filler. OrdersAgree filler run.capacity (module_actions input c.args.memory.symbols) c.args.memory c.from-engines.result) same c.all_orders_agree.ensures in
    let runs = subst (λ filler. RunsOrder (setting input c.args.memory filler run.capacity c.from-engines.result) c.args.options.pick c.in_ok-ordered.ordered) same c.in_ok-ordered.ensures.runs in
    ended input c.args.options c.args.memory c.from-engines.result c.in_ok-ordered.ordered c.in_ok-output.output.items
    (search rules) c.in_ok-keep_within.ensures law runs c.in_ok-come_to_end.ensures c.in_ok-output.ensures
