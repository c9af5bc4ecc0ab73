use Rattle.std.proofs.Common.{◌∙◌, ◌*◌, min, ap}
use Rattle.placement_texts.specs.Template.{Dimension}
use Rattle.plan_tests.proofs.Boxes.{box_step}
use Rattle.plan_tests.proofs.bytes.box_elements.Goals as goal

pub loop-dim-preserved : goal.loop-dim-preserved
loop-dim-preserved c =
    c.loop-dim.invariant
    ∙ box_step c.loop-dim.count 18446744073709551615 c.args.dims.now c.loop-dim.dim-index c.saturating_mul-count.result c.dim-item.result c.loop-dim-test.true c.dim-item.is (c.saturating_mul-count.ensures ∙ ap (λ (d : Dimension). min (c.loop-dim.count * d.extent) 18446744073709551615) c.dim.view_is)
