use Rattle.std.proofs.Common.{◌≡◌, ◌≤◌, ◌*◌, drop, true}
use Rattle.std.specs.Prelude.{min}
use Rattle.affine_ast.specs.Sizes.{product}
use Rattle.affine_ast.specs.Rules.{sizes_positive}
use Rattle.shape_rules.proofs.shapes.elements.Given as goal

abbrev pub invariant-loop-size : goal.invariant-loop-size
invariant-loop-size l = record {
  so_far : min (product l.sizes) 16777217 ≡ min (l.elements * product (drop l.size-index l.sizes)) 16777217;
  small : l.elements ≤ 16777217;
  positive : sizes_positive (drop l.size-index l.sizes) ≡ true;
}
