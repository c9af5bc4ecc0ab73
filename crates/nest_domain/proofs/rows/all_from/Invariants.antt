use Rattle.std.proofs.Common.{◌≡◌, drop}
use Rattle.affine_expr.specs.Linear.{minus}
use Rattle.nest_domain.specs.Forms.{try_each}
use Rattle.nest_domain.proofs.Loops.{behind}
use Rattle.nest_domain.proofs.rows.all_from.Given as goal

abbrev pub invariant-loop-other : goal.invariant-loop-other
invariant-loop-other l = try_each (minus l.form) l.others ≡ behind l.rows.items (try_each (minus l.form) (drop l.other-index l.others))
