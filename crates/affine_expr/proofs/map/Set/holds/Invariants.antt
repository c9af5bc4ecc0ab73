use Rattle.std.proofs.Common.{◌≡◌, drop}
use Rattle.affine_expr.specs.Bounded.{AllEvaluable}
use Rattle.affine_expr.specs.Truth.{all_hold}
use Rattle.affine_expr.proofs.map.Set.holds.Given as goal

abbrev pub invariant-loop-row : goal.invariant-loop-row
invariant-loop-row l = (all_hold l.dims l.syms l.self.rows ≡ all_hold l.dims l.syms (drop l.row-index l.self.rows)) × AllEvaluable l.dims l.syms (drop l.row-index l.self.rows)
