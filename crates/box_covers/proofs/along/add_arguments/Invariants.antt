use Rattle.std.proofs.Common.{◌≡◌, drop}
use Rattle.box_covers.specs.Traced.{with_arguments}
use Rattle.box_covers.specs.Told.{traced_of}
use Rattle.box_covers.proofs.along.add_arguments.Given as goal

abbrev pub invariant-loop-arg : goal.invariant-loop-arg
invariant-loop-arg l = with_arguments l.args (traced_of l.initial.known) ≡ with_arguments (drop l.arg-index l.args) (traced_of l.known)
