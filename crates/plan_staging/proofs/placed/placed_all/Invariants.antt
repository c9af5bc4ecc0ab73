use Rattle.std.proofs.Common.{◌≤◌, take, length}
use Rattle.std.specs.Prelude.{All}
use Rattle.affine_ast.specs.Nest.{nest}
use Rattle.placement_stage.specs.All.{AreSteps}
use Rattle.plan_staging.specs.Decided.{placements_of}
use Rattle.plan_staging.specs.Made.{MayBeWrittenAt}
use Rattle.plan_staging.proofs.placed.placed_all.Given as goal

abbrev pub invariant-loop-decision : goal.invariant-loop-decision
invariant-loop-decision l = record {
  few : length l.placed.items ≤ l.decision-index;
  placed : AreSteps l.placed.items (placements_of l.dma l.module.inner.args (nest l.module.inner.body) (take l.decision-index l.decisions));
  written : All MayBeWrittenAt l.placed.items;
}
