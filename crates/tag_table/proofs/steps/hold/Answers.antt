use Rattle.std.proofs.Common.{arith, ap}
use Rattle.tag_table.proofs.Compute.{takes_empty}
use Rattle.tag_table.proofs.steps.hold.Goals as goal

pub store-requires : goal.store-requires
store-requires c =
    let z = c.requires.seat.1 in
    let v = c.requires.view in (
      c.requires.seat.0,
      omega arith,
      rw (z.1, z.2) (takes_empty _ c.args.tags _ c.args.tag c.args.seat.now.me v.0 c.requires.tag (ap (λ m. m.0) v.1) v.2 v.3),
    )
