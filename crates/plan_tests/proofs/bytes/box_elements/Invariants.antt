use Rattle.std.proofs.Common.{◌≡◌, ◌*◌, ◌-◌, ◌^◌, min, drop}
use Rattle.affine_ast.specs.Sizes.{product}
use Rattle.placement_texts.specs.Template.{dim_extents}
use Rattle.plan_tests.proofs.bytes.box_elements.Given as goal

abbrev pub invariant-loop-dim : goal.invariant-loop-dim
invariant-loop-dim l = min (product (dim_extents l.dims)) (2 ^ 64 - 1) ≡ min (l.count * product (dim_extents (drop l.dim-index l.dims))) (2 ^ 64 - 1)
