use Rattle.std.proofs.Common.{◌≡◌, ◌≤◌, drop}
use Rattle.affine_ast.specs.Nest.{nest}
use Rattle.affine_ast.specs.PlainLimits.{plain_told}
use Rattle.affine_ast.proofs.plain.+faults.Given as goal

abbrev pub invariant-list_fault-loop-stmt : goal.invariant-list_fault-loop-stmt
invariant-list_fault-loop-stmt l = record {
  told : plain_told (nest l.fn.stmts) l.loops l.initial.counted ≡ plain_told (nest (drop l.stmt-index l.fn.stmts)) l.loops l.counted;
  within : l.counted ≤ 4096;
}
