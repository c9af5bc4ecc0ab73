use Rattle.std.proofs.Common.{arith}
use Rattle.std.proofs.KnownBytes.{Consumes-trans}
use Rattle.affine_io.proofs.Progress.{length-more, memory_is_other, stops_too_long, stops_within}
use Rattle.affine_io.proofs.source.read_all.Goals as goal

pub returns-then-count-limit-clause-stopped : goal.returns-then-count-limit-clause-stopped
returns-then-count-limit-clause-stopped g c =
    let long = length-more c.loop-count.bytes.items c.read.new.into c.in-Ok.count c.in-Ok.ensures.bound.0 in
    stops_too_long _ _ _ _ (Consumes-trans _ _ _ _ _ c.loop-count.invariant.consumed c.in-Ok.ensures.bytes.0)
    (omega (arith, long, c.loop-count.bytes.ok.0, c.len.ensures))
    (omega (arith, long, c.loop-count.invariant.within, c.in-Ok.ensures.bound.0))

pub returns-in_default-extend_from_slice-clause-stopped : goal.returns-in_default-extend_from_slice-clause-stopped
returns-in_default-extend_from_slice-clause-stopped g c =
    let long = length-more c.loop-count.bytes.items c.read.new.into c.in-Ok.count c.in-Ok.ensures.bound.0 in
    stops_within _ memory_is_other _ _ _ _ (Consumes-trans _ _ _ _ _ c.loop-count.invariant.consumed c.in-Ok.ensures.bytes.0)
    (omega (arith, long, c.loop-count.bytes.ok.0, c.len.ensures))
