use Rattle.std.proofs.Common.{◌≡◌, ◌+◌, drop}
use Rattle.nest_domain.specs.Domains.{symbol_count}
use Rattle.box_covers.proofs.along.with_symbols.Given as goal

abbrev pub invariant-loop-arg : goal.invariant-loop-arg
invariant-loop-arg l = l.number + symbol_count l.args ≡ l.count + symbol_count (drop l.arg-index l.args)
