use Rattle.std.proofs.Common.{◌≡◌, ◌++◌, take}
use Rattle.affine_ast.specs.Spelling.{listed, expression_text}
use Rattle.affine_print.specs.Places.{leaves_of}
use Rattle.affine_print.proofs.expression.put_expressions.Given as goal

abbrev pub invariant-loop-place : goal.invariant-loop-place
invariant-loop-place l = l.out.items ≡ l.initial.out.items ++ listed (expression_text (leaves_of l.leaves)) (take l.place l.exprs)
