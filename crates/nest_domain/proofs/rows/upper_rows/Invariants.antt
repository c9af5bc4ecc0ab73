use Rattle.std.proofs.Common.{◌≡◌, drop}
use Rattle.nest_domain.specs.Domains.{upper_row_over}
use Rattle.nest_domain.specs.Forms.{try_each}
use Rattle.nest_domain.proofs.Loops.{behind}
use Rattle.nest_domain.proofs.rows.upper_rows.Given as goal

abbrev pub invariant-loop-upper : goal.invariant-loop-upper
invariant-loop-upper l = try_each (upper_row_over l.lowers l.step l.variable) l.uppers ≡ behind l.rows.items (try_each (upper_row_over l.lowers l.step l.variable) (drop l.upper-index l.uppers))
