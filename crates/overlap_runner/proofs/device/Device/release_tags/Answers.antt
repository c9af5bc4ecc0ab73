use Rattle.std.proofs.Common.{refl}
use Rattle.overlap_runner.proofs.Taken.{releases_tags}
use Rattle.overlap_runner.proofs.device.Device.release_tags.Goals as goal

pub returns-clause-follows : goal.returns-clause-follows
returns-clause-follows c = λ rooms shape y k.
    releases_tags c.args.bus.now rooms shape c.args.self.now y _ _ k.at _ refl c.release_tags.result c.args.first c.args.count (c.release_tags.ensures.follows shape y k.at.tied)
