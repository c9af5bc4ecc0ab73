use Rattle.std.proofs.Common.{◌≡◌, ◌++◌, ◌+◌, ◌-◌}
use Rattle.affine_expr.specs.Linear.{variable_forms}
use Rattle.affine_expr.proofs.linear.variable_forms.Given as goal

abbrev pub invariant-loop-number : goal.invariant-loop-number
invariant-loop-number l = variable_forms l.width l.place l.count ≡ l.forms.items ++ variable_forms l.width (l.place + l.number) (l.count - l.number)
