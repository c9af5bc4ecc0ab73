use Rattle.std.proofs.Common.{rules, arith, length, ◌∙◌}
use Rattle.access_region.proofs.Wholes.{widened_end, widened_stop, widened_turn, widened_done}
use Rattle.access_region.proofs.widening.widen.Goals as goal

pub returns-then-not-is_mixed : goal.returns-then-not-is_mixed
returns-then-not-is_mixed c = widened_end c.args.dims.now c.loop-turn.dims c.args.sizes.now c.loop-turn.invariant.0 (c.loop-turn.invariant.1 ∙ widened_stop _ _ (search rules))

pub loop-turn-preserved : goal.loop-turn-preserved
loop-turn-preserved c = (c.widen_last.ensures.long ∙ c.loop-turn.invariant.0, c.loop-turn.invariant.1 ∙ widened_turn (length c.args.dims.now) c.loop-turn._turn _ _ (omega arith) (search rules) c.in_ok-widen_last.ensures.widened)

pub returns : goal.returns
returns c = widened_end c.args.dims.now c.loop-turn.dims c.args.sizes.now c.loop-turn.invariant.0 (c.loop-turn.invariant.1 ∙ widened_done (length c.args.dims.now) c.loop-turn._turn _ (omega arith))
