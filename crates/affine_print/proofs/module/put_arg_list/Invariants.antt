use Rattle.std.proofs.Common.{◌≡◌, ◌++◌, take}
use Rattle.affine_ast.specs.Spelling.{listed, arg_text}
use Rattle.affine_print.proofs.module.put_arg_list.Given as goal

abbrev pub invariant-loop-place : goal.invariant-loop-place
invariant-loop-place l = l.out.items ≡ l.initial.out.items ++ listed arg_text (take l.place l.args)
