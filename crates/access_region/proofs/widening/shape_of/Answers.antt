use Rattle.std.proofs.Common.{arith, ◌≡◌, ◌+◌, ◌-◌, ◌<◌, length, get_or, drop, ap, sym, ◌∙◌}
use Rattle.access_region.specs.Widening.{sides, shape}
use Rattle.access_region.proofs.Wholes.{same_size, shape_turn, shape_end}
use Rattle.access_region.proofs.widening.shape_of.Goals as goal

pub loop-left-init : goal.loop-left-init
loop-left-init c = (omega arith, shape_end c.args.dims.now (drop (length c.args.dims.now) c.args.sizes.now) (length c.args.dims.now) (omega arith))

pub loop-left-preserved : goal.loop-left-preserved
loop-left-preserved c =
    let k = c.loop-left.left - 1 in
    let low : k < length c.args.dims.now = omega (arith, c.loop-left.invariant.0) in
    let inside : k < length c.args.sizes.now = omega (arith, c.loop-left.invariant.0, c.requires) in
    let next : k + 1 ≡ c.loop-left.left = omega arith in (
      omega (arith, c.loop-left.invariant.0),
      shape_turn c.args.dims.now c.args.sizes.now k c.index-dims-left.result (get_or c.args.sizes.now k 0) c.loop-left.shape low inside c.index-dims-left.is (same_size c.args.sizes.now k 0 (get_or c.args.sizes.now k 0) inside)
          (ap (λ m. shape (sides (drop m c.args.dims.now) (drop m c.args.sizes.now))) next ∙ c.loop-left.invariant.1)
          ∙ sym c.over-shape.ensures,
    )
