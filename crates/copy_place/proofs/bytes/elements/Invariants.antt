use Rattle.std.proofs.Common.{◌≡◌, ◌≤◌, ◌*◌, ◌-◌, ◌^◌, min, drop}
use Rattle.affine_ast.specs.Sizes.{product}
use Rattle.copy_place.proofs.bytes.elements.Given as goal

abbrev pub invariant-loop-size : goal.invariant-loop-size
invariant-loop-size l = record {
  same : min (product l.sizes) (2 ^ 64 - 1) ≡ min (l.count * product (drop l.size-index l.sizes)) (2 ^ 64 - 1);
  within : l.count ≤ 2 ^ 64 - 1;
}
