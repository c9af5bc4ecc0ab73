use Rattle.std.proofs.Common.{arith, ◌+◌, ◌-◌, ◌*◌}
use Rattle.made_names.specs.Made.{made_name}
use Rattle.placement_code.proofs.Looped.{loops_turn}
use Rattle.placement_code.proofs.statements.all_loops.Goals as goal

pub loop-left-preserved : goal.loop-left-preserved
loop-left-preserved c = record {
  same =
      loops_turn (λ d. made_name c.args.number (c.args.slot + 4 * d)) c.args.dims.now (c.loop-left.left - 1) c.loop-left.left c.index-dims-left.result c.loop-left.stmts c.in_ok-stmts.stmts c.args.inner
      (omega (arith, c.loop-left.invariant.within)) c.index-dims-left.is (omega arith) c.loop-left.invariant.same c.in_ok-stmts.ensures;
  within = omega (arith, c.loop-left.invariant.within);
}
