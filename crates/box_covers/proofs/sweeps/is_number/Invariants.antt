use Rattle.std.proofs.Common.{◌≡◌, drop}
use Rattle.std.specs.Prelude.{◌&&◌}
use Rattle.constraint_set.specs.Tidy.{all_zero}
use Rattle.box_covers.proofs.sweeps.is_number.Given as goal

abbrev pub invariant-loop-coef : goal.invariant-loop-coef
invariant-loop-coef l = all_zero l.coefs ≡ (l.all && all_zero (drop l.coef-index l.coefs))
