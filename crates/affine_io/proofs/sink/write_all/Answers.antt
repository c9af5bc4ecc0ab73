use Rattle.std.proofs.Common.{arith}
use Rattle.affine_io.proofs.Progress.{Appends-rest, le_of_rest}
use Rattle.affine_io.proofs.sink.write_all.Goals as goal

pub loop-written-preserved : goal.loop-written-preserved
loop-written-preserved g c = record {
  appended = Appends-rest _ _ _ _ _ _ c.in-Ok.ensures.bound c.loop-written.invariant.appended c.in-Ok.ensures.bytes;
  later = omega (arith, c.in-Ok.ensures.cause.later);
  within = omega (arith, le_of_rest c.loop-written.written c.in-Ok.count c.args.bytes.now c.in-Ok.ensures.bound);
}
