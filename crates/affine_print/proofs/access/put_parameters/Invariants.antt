use Rattle.std.proofs.Common.{◌≡◌, ◌++◌}
use Rattle.affine_ast.specs.Spelling.{numbered_text}
use Rattle.affine_print.proofs.access.put_parameters.Given as goal

abbrev pub invariant-loop-number : goal.invariant-loop-number
invariant-loop-number l = l.out.items ≡ l.initial.out.items ++ numbered_text l.letter l.number
