use Rattle.std.proofs.Common.{◌≡◌, ◌≤◌, drop}
use Rattle.text_limits.specs.Capped.{measured, with_measure}
use Rattle.text_limits.specs.Lessening.{more_over, fits_over}
use Rattle.text_limits.proofs.redirects.of_subscripts.Given as goal

abbrev pub invariant-loop-expr : goal.invariant-loop-expr
invariant-loop-expr l = record {
  same : measured (more_over l.exprs l.dims) (fits_over l.exprs l.dims) ≡ with_measure l.measure (measured (more_over (drop l.expr-index l.exprs) l.rest) (fits_over (drop l.expr-index l.exprs) l.rest));
  within : l.measure.operands ≤ 18446744073709551615;
}
