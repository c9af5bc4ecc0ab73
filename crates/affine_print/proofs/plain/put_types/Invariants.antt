use Rattle.std.proofs.Common.{◌≡◌, ◌++◌, take}
use Rattle.affine_ast.specs.Spelling.{listed, memref_text}
use Rattle.affine_print.proofs.plain.put_types.Given as goal

abbrev pub invariant-loop-place : goal.invariant-loop-place
invariant-loop-place l = l.out.items ≡ l.initial.out.items ++ listed memref_text (take l.place l.types)
