use Rattle.std.proofs.Common.{refl}
use Rattle.overlap_runner.proofs.Taken.{releases}
use Rattle.overlap_runner.proofs.device.Device.release.Goals as goal

pub bytes_of-bytes-requires : goal.bytes_of-bytes-requires
bytes_of-bytes-requires c = c.requires.ready.3.reaches

pub returns-clause-follows : goal.returns-clause-follows
returns-clause-follows c = λ rooms shape y k.
    releases c.args.bus.now rooms shape c.args.self.now y _ _ k.at _ refl c.release.result c.args.number c.args.element c.args.sizes.now
    (c.release.ensures.follows shape y k.at.tied c.args.element c.args.sizes.now c.bytes_of-bytes.ensures.bytes)
