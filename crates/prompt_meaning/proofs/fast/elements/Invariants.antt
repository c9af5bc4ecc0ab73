use Rattle.std.proofs.Common.{◌≡◌, ◌*◌, drop}
use Rattle.affine_ast.specs.Sizes.{product}
use Rattle.prompt_meaning.proofs.fast.elements.Given as goal

abbrev pub invariant-loop-size : goal.invariant-loop-size
invariant-loop-size l = l.count * product (drop l.size-index l.sizes) ≡ product l.sizes
