use Rattle.std.proofs.Common.{◌≡◌, drop}
use Rattle.constraint_set.specs.Tidy.{all_zero}
use Rattle.place_intervals.proofs.interval.all_zero.Given as goal

abbrev pub invariant-loop-coef : goal.invariant-loop-coef
invariant-loop-coef l = all_zero l.coefs ≡ all_zero (drop l.coef-index l.coefs)
