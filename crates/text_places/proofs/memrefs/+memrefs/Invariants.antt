use Rattle.std.proofs.Common.{◌≡◌, drop, map}
use Rattle.affine_ast.specs.Nest.{nest}
use Rattle.text_places.specs.Blocks.{accessed}
use Rattle.text_places.specs.Finding.{named}
use Rattle.text_places.proofs.memrefs.+memrefs.Given as goal

abbrev pub invariant-add_all-loop-stmt : goal.invariant-add_all-loop-stmt
invariant-add_all-loop-stmt l = accessed (nest (drop l.stmt-index l.stmts)) (map named l.out.items) ≡ accessed (nest l.stmts) (map named l.initial.out.items)
