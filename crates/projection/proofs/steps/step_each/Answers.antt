use Rattle.std.proofs.Common.{◌∙◌}
use Rattle.std.proofs.lemmas.Result.{err_from_is_err_and}
use Rattle.projection.proofs.Chains.{carry}
use Rattle.projection.proofs.Stepping.{goes_on, stops_at, all_done}
use Rattle.projection.proofs.steps.step_each.Goals as goal

pub returns-in_err-rows-clause-value : goal.returns-in_err-rows-clause-value
returns-in_err-rows-clause-value c =
    let p = err_from_is_err_and c.from_residual.result c.from_residual.ensures.1 in
    rw (p.1, p.2) (carry _ _ _ c.loop-k.invariant.1 (stops_at c.args.vars.now c.loop-k.k-index c.loop-k.rows.rows _ c.loop-k-test.true c.in_err-rows.ensures.value))

pub loop-k-preserved : goal.loop-k-preserved
loop-k-preserved c = (
  c.in_ok-rows.ensures.vars ∙ c.loop-k.invariant.0,
  c.loop-k.invariant.1 ∙ goes_on c.args.vars.now c.loop-k.k-index c.loop-k.rows.rows c.in_ok-rows.rows.rows c.loop-k-test.true c.in_ok-rows.ensures.value,
)

pub returns-clause-value : goal.returns-clause-value
returns-clause-value c = c.loop-k.invariant.1 ∙ all_done c.args.vars.now c.loop-k.k-index c.loop-k.rows.rows c.loop-k-test.false
