use Rattle.std.proofs.Common.{◌≡◌, ◌≤◌, ◌*◌, drop}
use Rattle.affine_ast.specs.Sizes.{product}
use Rattle.text_limits.specs.Capped.{capped}
use Rattle.text_limits.proofs.sums.elements.Given as goal

abbrev pub invariant-loop-size : goal.invariant-loop-size
invariant-loop-size l = record {
  same : capped (product l.sizes) ≡ capped (l.count * product (drop l.size-index l.sizes));
  within : l.count ≤ 18446744073709551615;
}
