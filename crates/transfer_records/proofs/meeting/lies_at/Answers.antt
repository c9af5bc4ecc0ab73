use Rattle.std.proofs.Common.{refl, sym, arith}
use Rattle.transfer_records.proofs.Apart.{low, between, told}
use Rattle.transfer_records.proofs.meeting.lies_at.Goals as goal

pub returns-then-place-transfer : goal.returns-then-place-transfer
returns-then-place-transfer c = sym (low c.args.transfer.now c.args.place (omega (arith, c.if-place-transfer.true)))

pub returns-then-inside-transfer : goal.returns-then-inside-transfer
returns-then-inside-transfer c = sym (between c.args.transfer.now c.requires.chunk c.requires.apart c.args.place _ _ (omega (arith, c.if-place-transfer.false)) refl refl (omega (arith, c.if-inside-transfer.true)))

pub returns : goal.returns
returns c = told c.args.transfer.now c.requires.chunk c.requires.apart c.args.place _ _ (omega (arith, c.if-place-transfer.false)) refl refl (omega (arith, c.if-inside-transfer.false))
