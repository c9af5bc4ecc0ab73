use Rattle.std.proofs.Common.{arith}
use Rattle.source_parts.proofs.Parting.{stops, goes_on, ends}
use Rattle.source_parts.proofs.parts.split.Goals as goal

pub returns-then-is_mark-clause-text : goal.returns-then-is_mark-clause-text
returns-then-is_mark-clause-text c =
    (stops c.args.source.now c.split_at.result.0.now c.split_at.result.1.now c.split_at-in-loop-at.result.0.now c.split_at-in-loop-at.result.1.now c.loop-at.at c.line_length.result
    c.loop-at.invariant.text c.loop-at.invariant.image (cc) (cc) (cc) (cc) c.line_length.ensures.first (cc)).0

pub returns-then-is_mark-clause-image : goal.returns-then-is_mark-clause-image
returns-then-is_mark-clause-image c =
    (stops c.args.source.now c.split_at.result.0.now c.split_at.result.1.now c.split_at-in-loop-at.result.0.now c.split_at-in-loop-at.result.1.now c.loop-at.at c.line_length.result
    c.loop-at.invariant.text c.loop-at.invariant.image (cc) (cc) (cc) (cc) c.line_length.ensures.first (cc)).1

pub loop-at-preserved : goal.loop-at-preserved
loop-at-preserved c =
    let on = goes_on c.args.source.now c.split_at.result.1.now c.split_at-in-loop-at.result.0.now c.loop-at.at c.line_length.result
    c.loop-at.invariant.text c.loop-at.invariant.image (cc) (cc) c.line_length.ensures.within c.line_length.ensures.first (cc) in
    let f = c.split_at-in-loop-at.ensures.front_len in
    let b = c.split_at.ensures.back_len in
    let w = c.line_length.ensures.within in
    record { text = on.text; image = on.image; within = omega arith }

pub returns-clause-text : goal.returns-clause-text
returns-clause-text c =
    (ends c.args.source.now c.split_at-2.result.0.now c.split_at-2.result.1.now c.loop-at.at c.loop-at.invariant.text c.loop-at.invariant.image c.loop-at.invariant.within (omega arith) (cc) (cc)).0

pub returns-clause-image : goal.returns-clause-image
returns-clause-image c =
    (ends c.args.source.now c.split_at-2.result.0.now c.split_at-2.result.1.now c.loop-at.at c.loop-at.invariant.text c.loop-at.invariant.image c.loop-at.invariant.within (omega arith) (cc) (cc)).1
