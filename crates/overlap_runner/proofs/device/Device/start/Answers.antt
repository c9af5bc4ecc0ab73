use Rattle.std.proofs.Common.{refl}
use Rattle.overlap_runner.proofs.Taken.{starts, start_can, start_has}
use Rattle.overlap_runner.proofs.device.Device.start.Goals as goal

pub start-requires-clause-tied : goal.start-requires-clause-tied
start-requires-clause-tied c = let k = c.requires.ready in (k.1, k.2, k.3.at.tied)

pub start-requires-clause-can : goal.start-requires-clause-can
start-requires-clause-can c = let k = c.requires.ready in start_can c.args.bus.now k.0 k.1 c.args.self.now k.2 c.args.self.now.filler c.args.self.now.capacity c.args.transfer k.3

pub returns-clause-follows : goal.returns-clause-follows
returns-clause-follows c = λ rooms shape y k.
    starts c.args.bus.now rooms shape c.args.self.now y _ _ k.at _ refl c.start.result c.args.transfer
    (c.start.ensures.follows shape y k.at.tied k.roomed.0 (start_has c.args.bus.now rooms shape c.args.self.now y c.args.self.now.filler c.args.self.now.capacity c.args.transfer k))
