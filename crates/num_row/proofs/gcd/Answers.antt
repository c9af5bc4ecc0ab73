use Rattle.std.proofs.Common.{arith}
use Rattle.std.proofs.lemmas.Nat.Gcd.{IsGcd-from_zero, IsGcd-from_mod}
use Rattle.num_row.proofs.Gcds.{gcd_of_unique}
use Rattle.num_row.proofs.gcd.Goals as goal

pub loop-rest-preserved : goal.loop-rest-preserved
loop-rest-preserved c g h = c.loop-rest.invariant g (IsGcd-from_mod _ _ g h)

pub returns-clause-greatest : goal.returns-clause-greatest
returns-clause-greatest c = c.loop-rest.invariant _ (IsGcd-from_zero _ _ (omega arith))

pub returns-clause-value : goal.returns-clause-value
returns-clause-value c = gcd_of_unique c.args.a c.args.b _ (returns-clause-greatest c)
