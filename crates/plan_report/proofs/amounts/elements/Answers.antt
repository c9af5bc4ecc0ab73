use Rattle.std.proofs.Common.{◌∙◌, ◌*◌, min, ap, arith}
use Rattle.std.specs.Prelude.{unsigned_abs}
use Rattle.nest_domain.specs.Boxes.{Dimension}
use Rattle.plan_report.proofs.Rounds.{extents_step}
use Rattle.plan_report.proofs.amounts.elements.Goals as goal

pub loop-dim-preserved : goal.loop-dim-preserved
loop-dim-preserved c = record {
  same = c.loop-dim.invariant.same ∙ extents_step c.loop-dim.count 18446744073709551615 c.args.dims.now c.loop-dim.dim-index c.dim-item.result c.saturating_mul-count.result c.loop-dim-test.true c.dim-item.is (c.saturating_mul-count.ensures ∙ ap (λ (d : Dimension). min (c.loop-dim.count * unsigned_abs d.extent) 18446744073709551615) c.dim.view_is);
  within = omega arith;
}
