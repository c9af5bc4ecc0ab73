use Rattle.std.proofs.Common.{arith, refl, subst, ◌<◌}
use Rattle.std.proofs.lemmas.Bool.{ltb-true}
use Rattle.transfer_records.proofs.Apart.{ends}
use Rattle.transfer_records.proofs.meeting.ends_before.Goals as goal

pub returns : goal.returns
returns c = λ e. ends c.args.one.now c.args.other.now c.requires.some_chunk (omega (arith, c.if-one.false)) _ refl (subst (λ n. n < c.args.other.now.base) c.slow.ensures (ltb-true c.slow.result c.args.other.now.base e))
