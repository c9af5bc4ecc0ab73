use Rattle.std.proofs.Common.{◌≡◌, drop}
use Rattle.nest_domain.specs.Forms.{all_floor_rows}
use Rattle.nest_domain.proofs.Loops.{behind}
use Rattle.nest_domain.proofs.rows.all_floor_rows.Given as goal

abbrev pub invariant-loop-local : goal.invariant-loop-local
invariant-loop-local l = all_floor_rows l.locals ≡ behind l.rows.items (all_floor_rows (drop l.local-index l.locals))
