use Rattle.std.proofs.Common.{◌≡◌, ◌++◌, take}
use Rattle.affine_ast.specs.Nest.{nest}
use Rattle.affine_ast.specs.Spelling.{lines}
use Rattle.affine_print.proofs.statement.+statements.Given as goal

abbrev pub invariant-put_stmts-loop-stmt : goal.invariant-put_stmts-loop-stmt
invariant-put_stmts-loop-stmt l = l.out.items ≡ l.initial.out.items ++ lines l.margin (nest (take l.stmt-index l.stmts))
