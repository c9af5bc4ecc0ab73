use Rattle.std.proofs.Common.{◌≡◌, drop}
use Rattle.affine_expr.specs.Linear.{or_wide}
use Rattle.nest_domain.specs.Table.{forms_of}
use Rattle.nest_domain.specs.Forms.{try_each}
use Rattle.nest_domain.proofs.Loops.{behind}
use Rattle.nest_domain.proofs.forms.operand_forms.Given as goal

abbrev pub invariant-loop-name : goal.invariant-loop-name
invariant-loop-name l = try_each (λ n. or_wide (forms_of l.table.entries n)) l.names ≡ behind l.found.items (try_each (λ n. or_wide (forms_of l.table.entries n)) (drop l.name-index l.names))
