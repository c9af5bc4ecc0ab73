use Rattle.std.proofs.Common.{◌-◌, length}
use Rattle.affine_io.proofs.Progress.{HasWritten}
use Rattle.affine_io.proofs.sink.write_all.Given as goal

abbrev pub invariant-loop-written : goal.invariant-loop-written
invariant-loop-written g l =
    HasWritten (g.K.Sink.contents l.fn.sink) (g.K.Sink.contents l.sink) (g.K.Sink.faults l.fn.sink) (g.K.Sink.faults l.sink) l.bytes l.written

abbrev pub decreases-loop-written : goal.decreases-loop-written
decreases-loop-written g l = length l.bytes - l.written
