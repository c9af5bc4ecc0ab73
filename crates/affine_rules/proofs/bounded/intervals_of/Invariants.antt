use Rattle.std.proofs.Common.{◌≡◌, take, map}
use Rattle.affine_expr.specs.Bounded.{ranges}
use Rattle.affine_ast.specs.Scope.{ranges_in}
use Rattle.affine_rules.specs.Scoped.{scope_of}
use Rattle.affine_rules.proofs.bounded.intervals_of.Given as goal

abbrev pub invariant-loop-name : goal.invariant-loop-name
invariant-loop-name l = ranges l.intervals.items ≡ map (ranges_in (scope_of l.names.entries)) (take l.name-index l.used)
