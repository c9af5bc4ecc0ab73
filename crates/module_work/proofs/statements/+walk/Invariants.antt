use Rattle.std.proofs.Common.{◌≡◌, ◌+◌, ◌^◌, ◌≤◌, drop}
use Rattle.affine_ast.specs.Nest.{nest}
use Rattle.direct_meaning.specs.Work.{full_work}
use Rattle.module_work.specs.Saturated.{saturated}
use Rattle.module_work.specs.Table.{ranges_of, put_back}
use Rattle.module_work.specs.Workable.{Workable}
use Rattle.module_work.proofs.Weights.{weight_of, weight_of_all}
use Rattle.module_work.proofs.statements.+walk.Given as goal

abbrev pub invariant-list-loop-stmt : goal.invariant-list-loop-stmt
invariant-list-loop-stmt l = record {
  work : saturated (l.fn.total + full_work (nest l.fn.stmts) (ranges_of l.initial.ranges.entries)) ≡ saturated (l.next + full_work (nest (drop l.stmt-index l.fn.stmts)) (ranges_of l.ranges.entries));
  small : l.next ≤ 2 ^ 127;
  workable : Workable (nest (drop l.stmt-index l.fn.stmts)) (ranges_of l.ranges.entries);
  kept : put_back l.before.items (ranges_of l.ranges.entries) ≡ ranges_of l.initial.ranges.entries;
}

abbrev pub decreases-statement : goal.decreases-statement
decreases-statement l = weight_of l.stmt.now

abbrev pub decreases-list : goal.decreases-list
decreases-list l = weight_of_all l.stmts.now
