use Rattle.std.proofs.Common.{vec_len}
use Rattle.nest_domain.specs.Gathered.{known_of}
use Rattle.nest_domain.specs.Used.{along_marked}
use Rattle.nest_domain.proofs.Marking.{forward, Goes}
use Rattle.nest_domain.proofs.marks.along.Given as goal

abbrev pub invariant-loop-mark : goal.invariant-loop-mark
invariant-loop-mark l = Goes (along_marked (forward l.fn.marks.items) (known_of l.initial.known)) l.marks.items (known_of l.known)

abbrev pub decreases-loop-mark : goal.decreases-loop-mark
decreases-loop-mark l = vec_len l.marks
