use Rattle.std.proofs.Common.{◌≡◌, ◌++◌, map, drop}
use Rattle.nest_domain.specs.Steps.{header_of, past_all}
use Rattle.nest_domain.proofs.way.pass.Given as goal

abbrev pub invariant-loop-stmt : goal.invariant-loop-stmt
invariant-loop-stmt l = map header_of l.initial.way.items ++ past_all l.stmts ≡ map header_of l.way.items ++ past_all (drop l.stmt-index l.stmts)
