use Rattle.std.proofs.Common.{ap, arith}
use Rattle.nest_walk.specs.Jobs.{stand_of}
use Rattle.nest_walk.proofs.Steps.{passed_to, pass_fits}
use Rattle.nest_walk.proofs.position.Position.pass.Goals as goal

pub overflow_add-before : goal.overflow_add-before
overflow_add-before c =
    let fit = pass_fits (stand_of c.args.self.now) c.args.statements c.args.passed c.requires.ready c.requires.empty in
    omega (arith, fit.0, c.counts-before.ensures.fasts)

pub overflow_add-before-2 : goal.overflow_add-before-2
overflow_add-before-2 c =
    let fit = pass_fits (stand_of c.args.self.now) c.args.statements c.args.passed c.requires.ready c.requires.empty in
    omega (arith, fit.1, c.counts-before.ensures.tags)

pub returns : goal.returns
returns c = passed_to (stand_of c.args.self.now) _ _ c.args.statements c.args.passed _ _ c.requires.ready c.requires.empty (omega (arith, c.counts-before.ensures.fasts)) (omega (arith, c.counts-before.ensures.tags)) (ap stand_of c.count.ensures) (ap stand_of c.take.ensures)
