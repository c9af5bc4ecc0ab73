use Rattle.std.proofs.Common.{◌≡◌, drop}
use Rattle.nest_domain.specs.Domains.{with_arguments}
use Rattle.nest_domain.specs.Gathered.{known_of}
use Rattle.nest_domain.proofs.start.add_arguments.Given as goal

abbrev pub invariant-loop-arg : goal.invariant-loop-arg
invariant-loop-arg l = with_arguments l.args (known_of l.initial.known) ≡ with_arguments (drop l.arg-index l.args) (known_of l.known)
