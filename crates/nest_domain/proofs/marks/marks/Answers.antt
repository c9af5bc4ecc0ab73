use Rattle.nest_domain.proofs.Using.{used_at_first}
use Rattle.nest_domain.proofs.Marking.{gathers_none, gathers_more}
use Rattle.nest_domain.proofs.marks.marks.Goals as goal

pub loop-step-init : goal.loop-step-init
loop-step-init c = gathers_none c.args.way.items c.new-found.result.items c.add_names.new.used.keys c.args.own.now c.new-found.ensures.items (used_at_first c.with_hasher-used.result.keys c.add_names.new.used.keys c.args.own.now c.with_hasher-used.ensures.empty c.in_ok-add_names.ensures)

pub loop-step-preserved : goal.loop-step-preserved
loop-step-preserved c = gathers_more c.args.way.items c.loop-step.way.items c.pop.new.self.items c.loop-step.found.items c.push.new.self.items c.loop-step.used.keys c.take_step.new.used.keys c.args.own.now _ c.in-Some.ensures.items c.in_ok-push.ensures.items c.in_ok-needed.ensures c.loop-step.invariant
