use Rattle.std.proofs.Common.{◌≡◌, drop}
use Rattle.affine_ast.specs.Nest.{nest}
use Rattle.plan_laws.specs.Plan.{accesses, times}
use Rattle.hoisted_sites.specs.Counting.{left_of}
use Rattle.hoisted_sites.proofs.accesses.+counts.Given as goal

abbrev pub invariant-left_behind_all-loop-stmt : goal.invariant-left_behind_all-loop-stmt
invariant-left_behind_all-loop-stmt l = left_of l.left (times l.memref (accesses (nest (drop l.stmt-index l.stmts)))) ≡ left_of l.count (times l.memref (accesses (nest l.stmts)))
