use Rattle.std.proofs.Common.{arith, to_z-of_z}
use Rattle.int_ops.specs.Wrapped.{unsigned}
use Rattle.int_ops.proofs.modulus.read_unsigned.Goals as goal

pub returns : goal.returns
unfolding unsigned
returns c = grind (arith, to_z-of_z)
