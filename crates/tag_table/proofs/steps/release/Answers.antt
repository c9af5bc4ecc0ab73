use Rattle.std.proofs.Common.{arith}
use Rattle.tag_table.proofs.Compute.{frees}
use Rattle.tag_table.proofs.steps.release.Goals as goal

pub store-requires : goal.store-requires
store-requires c =
    let z = c.requires.seat.1 in
    let v = c.requires.view in (
      c.requires.seat.0,
      omega arith,
      rw (z.1, z.2, v.1) (frees _ c.args.tags _ c.args.tag v.0 v.2 v.3),
    )
