use Rattle.std.proofs.Common.{arith, map, drop, ap}
use Rattle.std.proofs.lemmas.List.{drop_more}
use Rattle.std.specs.Option.{option_copied}
use Rattle.nest_domain.specs.Steps.{header_of}
use Rattle.nest_domain.proofs.Loops.{past}
use Rattle.nest_domain.proofs.Passing.{descended_nowhere, descended_all}
use Rattle.nest_domain.proofs.way.descend_all.Goals as goal

pub returns-in_default : goal.returns-in_default
returns-in_default c =
    let here = c.loop-step.here.now in
    let steps = c.args.steps.now in
    let way = map header_of c.loop-step.way.items in
    let new = map header_of c.descend.new.way.items in
    descended_nowhere c.args.start.now here steps (drop c.loop-step.step-index steps) _ _ (option_copied c.in_ok-next.field-0) (map header_of c.args.way.now.items) way new c.in_ok-next.ensures (ap option_copied c.in_default.is)
    (drop_more steps c.loop-step.step-index _ (omega arith)) c.loop-step.invariant

pub returns : goal.returns
returns c =
    let steps = c.args.steps.now in
    descended_all c.args.start.now c.loop-step.here.now steps (drop c.loop-step.step-index steps) (map header_of c.args.way.now.items) (map header_of c.loop-step.way.items) (past steps c.loop-step.step-index (omega arith)) c.loop-step.invariant
