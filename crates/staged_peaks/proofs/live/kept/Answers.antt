use Rattle.std.proofs.Common.{arith}
use Rattle.staged_peaks.proofs.Steps.{kept_ends, kept_more}
use Rattle.staged_peaks.proofs.live.kept.Goals as goal

pub loop-count-preserved : goal.loop-count-preserved
loop-count-preserved c =
    let e = c.loop-count.invariant.2 in
    let h = c.loop-count-test.true in
    let k = c.if-count-lengths.true in
    let f = kept_more c.args.common c.args.way.now c.args.lengths.now c.loop-count.count _ h k c.if-common-way.false in
    (omega (arith, h), omega (arith, k), omega (arith, e, f))

pub returns-else-count-lengths-clause-value : goal.returns-else-count-lengths-clause-value
returns-else-count-lengths-clause-value c =
    let e = c.loop-count.invariant.2 in
    let f = kept_ends c.args.common c.args.way.now c.args.lengths.now c.loop-count.count c.if-count-lengths.false in omega (arith, e, f)
