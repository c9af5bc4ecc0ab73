use Rattle.std.proofs.Common.{◌≡◌, ◌*◌, drop}
use Rattle.affine_ast.specs.Sizes.{product}
use Rattle.walk_program.proofs.counts.elements.Given as goal

abbrev pub invariant-loop-size : goal.invariant-loop-size
invariant-loop-size l = product l.sizes ≡ l.elements * product (drop l.size-index l.sizes)
