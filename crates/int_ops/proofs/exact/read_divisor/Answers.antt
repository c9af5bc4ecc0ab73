use Rattle.std.proofs.Common.{arith, rules, to_z-of_z, ◌≡◌}
use Rattle.int_ops.specs.Wrapped.{unsigned}
use Rattle.int_ops.proofs.Wraps.{unsigned_positive}
use Rattle.int_ops.proofs.exact.read_divisor.Goals as goal

pub returns-clause-positive : goal.returns-clause-positive
returns-clause-positive c =
    let e : c.read_unsigned.result ≡ unsigned c.args.bits c.args.value = search (rules, to_z-of_z) in
    rw e (unsigned_positive c.args.bits c.args.value (omega arith) c.requires.inside c.requires.divisor)
