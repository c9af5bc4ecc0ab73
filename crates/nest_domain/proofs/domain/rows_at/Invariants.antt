use Rattle.std.proofs.Common.{◌≡◌, map, take}
use Rattle.nest_domain.specs.Domains.{row_at}
use Rattle.nest_domain.proofs.domain.rows_at.Given as goal

abbrev pub invariant-loop-form : goal.invariant-loop-form
invariant-loop-form l = l.rows.items ≡ map (row_at l.width) (take l.form-index l.forms)
