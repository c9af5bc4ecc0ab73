use Rattle.std.proofs.Common.{◌≡◌, ◌+◌, drop}
use Rattle.plan_laws.specs.Plan.{argument_number}
use Rattle.hoisted_sites.proofs.accesses.argument_number.Given as goal

abbrev pub invariant-loop-number : goal.invariant-loop-number
invariant-loop-number l = argument_number l.args l.memref ≡ l.number + argument_number (drop l.number l.args) l.memref
