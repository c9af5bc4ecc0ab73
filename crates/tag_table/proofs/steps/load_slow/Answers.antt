use Rattle.std.proofs.Common.{arith}
use Rattle.tag_table.proofs.Engines.{sees_slow}
use Rattle.tag_table.proofs.steps.load_slow.Goals as goal

pub load-requires : goal.load-requires
load-requires c =
    let z = c.requires.seat.1 in
    let v = c.requires.view in (
      c.requires.seat.0,
      omega arith,
      rw (z.1, z.2) (sees_slow _ c.args.tags _ c.args.word c.args.seat.now.me v.0 c.requires.word v.1 v.2),
    )
