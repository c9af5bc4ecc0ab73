use Rattle.std.proofs.Common.{arith}
use Rattle.plan_laws.specs.Limits.{row_fits, row_operands}
use Rattle.text_limits.proofs.Tallied.{measure_end}
use Rattle.text_limits.proofs.measures.of_each_row.Goals as goal

pub returns : goal.returns
returns c = measure_end row_operands row_fits c.args.rows.now c.loop-row.row-index c.loop-row.measure _ (omega arith) c.loop-row.invariant.within c.loop-row.invariant.same
