use Rattle.std.proofs.Common.{◌≡◌}
use Rattle.affine_rows.proofs.systems.system_of.Given as goal

abbrev pub invariant-loop-coefs : goal.invariant-loop-coefs
invariant-loop-coefs l = l.system.vars ≡ l.vars
