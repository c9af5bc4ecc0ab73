use Rattle.std.proofs.Common.{◌≡◌, drop}
use Rattle.affine_ast.specs.Nest.{nest}
use Rattle.module_work.proofs.Weights.{weight_of, weight_of_all}
use Rattle.text_limits.specs.Adding.{with_sums}
use Rattle.text_limits.specs.Capped.{capped_sums}
use Rattle.text_limits.specs.Sums.{sums_in}
use Rattle.text_limits.proofs.sums.+sums.Given as goal

abbrev pub invariant-sums_of-loop-stmt : goal.invariant-sums_of-loop-stmt
invariant-sums_of-loop-stmt l = record {
  left : capped_sums (sums_in l.round.loops l.round.ifs (nest l.fn.stmts)) ≡ capped_sums (with_sums l.sums (sums_in l.round.loops l.round.ifs (nest (drop l.stmt-index l.fn.stmts))));
  whole : l.sums ≡ capped_sums l.sums;
}

abbrev pub decreases-of_stmt : goal.decreases-of_stmt
decreases-of_stmt l = weight_of l.stmt.now

abbrev pub decreases-sums_of : goal.decreases-sums_of
decreases-sums_of l = weight_of_all l.stmts.now
