use Rattle.std.proofs.Common.{◌≡◌, ◌≤◌, ◌*◌, ◌-◌, ◌^◌, min, drop}
use Rattle.affine_ast.specs.Sizes.{product}
use Rattle.plan_report.specs.Report.{extents}
use Rattle.plan_report.proofs.amounts.elements.Given as goal

abbrev pub invariant-loop-dim : goal.invariant-loop-dim
invariant-loop-dim l = record {
  same : min (product (extents l.dims)) (2 ^ 64 - 1) ≡ min (l.count * product (extents (drop l.dim-index l.dims))) (2 ^ 64 - 1);
  within : l.count ≤ 2 ^ 64 - 1;
}
