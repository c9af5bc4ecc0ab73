use Rattle.std.proofs.Common.{◌≡◌, ◌++◌, drop}
use Rattle.affine_ast.specs.Nest.{nest}
use Rattle.numbered_names.specs.Numbers.{defined}
use Rattle.number_names.proofs.value_names.+listing.Given as goal

abbrev pub invariant-add_all-loop-stmt : goal.invariant-add_all-loop-stmt
invariant-add_all-loop-stmt l = l.initial.names ++ defined (nest l.stmts) ≡ l.names ++ defined (nest (drop l.stmt-index l.stmts))
