use Rattle.std.proofs.Common.{◌∙◌, sym}
use Rattle.transfer_records.proofs.Apart.{before, behind, either_way}
use Rattle.transfer_records.proofs.meeting.overlap.Goals as goal

pub returns-then-ends_before : goal.returns-then-ends_before
returns-then-ends_before c = sym (before c.args.one.now c.args.other.now (c.ends_before.ensures c.if-ends_before.true))

pub returns-then-ends_before-2 : goal.returns-then-ends_before-2
returns-then-ends_before-2 c = sym (behind c.args.one.now c.args.other.now (c.ends_before-2.ensures c.if-ends_before-2.true))

pub returns-else-one-other : goal.returns-else-one-other
returns-else-one-other c = c.shares-else-one-other.ensures ∙ either_way c.args.other.now c.args.one.now
