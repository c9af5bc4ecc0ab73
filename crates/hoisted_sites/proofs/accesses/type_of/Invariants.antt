use Rattle.std.proofs.Common.{◌≡◌, drop}
use Rattle.plan_laws.specs.Plan.{type_of}
use Rattle.hoisted_sites.proofs.accesses.type_of.Given as goal

abbrev pub invariant-loop-arg : goal.invariant-loop-arg
invariant-loop-arg l = type_of l.args l.memref ≡ type_of (drop l.arg-index l.args) l.memref
