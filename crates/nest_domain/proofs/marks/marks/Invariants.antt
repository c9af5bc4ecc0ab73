use Rattle.std.proofs.Common.{vec_len}
use Rattle.nest_domain.proofs.Marking.{Gathers}
use Rattle.nest_domain.proofs.marks.marks.Given as goal

abbrev pub invariant-loop-step : goal.invariant-loop-step
invariant-loop-step l = Gathers l.fn.way.items l.way.items l.found.items l.used.keys l.own

abbrev pub decreases-loop-step : goal.decreases-loop-step
decreases-loop-step l = vec_len l.way
