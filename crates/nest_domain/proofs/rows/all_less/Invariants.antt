use Rattle.std.proofs.Common.{◌≡◌, drop}
use Rattle.affine_expr.specs.Forms.{Form}
use Rattle.affine_expr.specs.Linear.{minus}
use Rattle.nest_domain.specs.Forms.{try_each}
use Rattle.nest_domain.proofs.Loops.{behind}
use Rattle.nest_domain.proofs.rows.all_less.Given as goal

abbrev pub invariant-loop-other : goal.invariant-loop-other
invariant-loop-other l = try_each (λ (f : Form). minus f l.form) l.others ≡ behind l.rows.items (try_each (λ (f : Form). minus f l.form) (drop l.other-index l.others))
