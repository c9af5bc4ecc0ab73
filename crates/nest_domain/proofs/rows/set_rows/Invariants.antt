use Rattle.std.proofs.Common.{◌≡◌, drop}
use Rattle.nest_domain.specs.Domains.{set_rows}
use Rattle.nest_domain.proofs.Threads.{joined}
use Rattle.nest_domain.proofs.rows.set_rows.Given as goal

abbrev pub invariant-loop-constraint : goal.invariant-loop-constraint
invariant-loop-constraint l =
    set_rows l.leaves.width l.leaves.dims.now l.leaves.syms.now l.constraints l.initial.locals.items
    ≡ joined l.rows.items (set_rows l.leaves.width l.leaves.dims.now l.leaves.syms.now (drop l.constraint-index l.constraints) l.locals.items)
