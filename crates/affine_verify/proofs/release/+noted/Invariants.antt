use Rattle.std.proofs.Common.{◌≡◌, drop}
use Rattle.std.specs.Prelude.{◌||◌, nat_lt}
use Rattle.affine_ast.specs.declared.name.Name.{Name}
use Rattle.affine_ast.specs.Nest.{nest}
use Rattle.affine_ast.specs.Rules.{deallocs}
use Rattle.affine_rules.specs.Scoped.{names_of}
use Rattle.affine_verify.proofs.release.+noted.Given as goal

abbrev pub invariant-note_list-loop-stmt : goal.invariant-note_list-loop-stmt
invariant-note_list-loop-stmt l = (m : Name) → (names_of l.initial.names.keys m || nat_lt 0 (deallocs m (nest l.stmts))) ≡ (names_of l.names.keys m || nat_lt 0 (deallocs m (nest (drop l.stmt-index l.stmts))))
