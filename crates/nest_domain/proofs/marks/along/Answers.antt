use Rattle.nest_domain.specs.Gathered.{known_of}
use Rattle.nest_domain.specs.Used.{along_marked}
use Rattle.nest_domain.proofs.Marking.{forward, ready_first, goes_on}
use Rattle.nest_domain.proofs.marks.along.Goals as goal

pub along_step-requires : goal.along_step-requires
along_step-requires c =
    ready_first (along_marked (forward c.args.marks.items) (known_of c.args.known.now)) c.loop-mark.marks.items c.pop.new.self.items c.in-Some.mark (known_of c.loop-mark.known) c.in-Some.ensures.items c.loop-mark.invariant

pub loop-mark-preserved : goal.loop-mark-preserved
loop-mark-preserved c =
    goes_on (along_marked (forward c.args.marks.items) (known_of c.args.known.now)) c.loop-mark.marks.items c.pop.new.self.items c.in-Some.mark (known_of c.loop-mark.known) c.in-Some.ensures.items c.loop-mark.invariant
    (known_of c.along_step.new.known) c.in_ok-along_step.ensures.known c.in_ok-along_step.ensures.ranges
