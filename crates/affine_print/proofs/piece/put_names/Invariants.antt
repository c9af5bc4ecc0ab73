use Rattle.std.proofs.Common.{◌≡◌, ◌++◌, take}
use Rattle.affine_ast.specs.Spelling.{names_text}
use Rattle.affine_print.proofs.piece.put_names.Given as goal

abbrev pub invariant-loop-place : goal.invariant-loop-place
invariant-loop-place l = l.out.items ≡ l.initial.out.items ++ names_text (take l.place l.names)
