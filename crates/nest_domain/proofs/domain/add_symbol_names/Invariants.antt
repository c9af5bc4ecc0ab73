use Rattle.std.proofs.Common.{◌≡◌, ◌++◌, drop}
use Rattle.nest_domain.specs.Domains.{symbol_names}
use Rattle.nest_domain.proofs.domain.add_symbol_names.Given as goal

abbrev pub invariant-loop-arg : goal.invariant-loop-arg
invariant-loop-arg l = l.initial.names.items ++ symbol_names l.args ≡ l.names.items ++ symbol_names (drop l.arg-index l.args)
