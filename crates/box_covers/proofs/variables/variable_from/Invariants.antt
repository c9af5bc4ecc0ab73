use Rattle.std.proofs.Common.{◌≡◌, ◌+◌, ◌-◌}
use Rattle.box_covers.specs.Covers.{variable_from}
use Rattle.box_covers.proofs.variables.variable_from.Given as goal

abbrev pub invariant-loop-number : goal.invariant-loop-number
invariant-loop-number l = variable_from l.count l.first l.fn.form ≡ variable_from (l.count - l.number) (l.first + l.number) l.fn.form
