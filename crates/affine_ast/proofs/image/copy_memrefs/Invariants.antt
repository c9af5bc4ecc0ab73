use Rattle.std.proofs.Common.{◌≡◌, take}
use Rattle.affine_ast.proofs.image.copy_memrefs.Given as goal

abbrev pub invariant-loop-cells : goal.invariant-loop-cells
invariant-loop-cells l = l.copies ≡ take l.cells-index l.memrefs
