use Rattle.std.proofs.Common.{refl}
use Rattle.overlap_runner.proofs.Taken.{waits}
use Rattle.overlap_runner.proofs.device.Device.wait.Goals as goal

pub wait-requires : goal.wait-requires
wait-requires g c = let k = c.requires.ready in record { tied = (k.1, k.2, k.3.at.tied) }

pub returns-clause-follows : goal.returns-clause-follows
returns-clause-follows g c = λ rooms shape y k.
    waits c.args.bus.now rooms shape c.args.self.now y _ _ k.at _ refl c.wait.result c.args.tag c.args.count (c.wait.ensures.follows shape y k.at.tied)
