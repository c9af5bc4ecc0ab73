use Rattle.std.proofs.Common.{arith, ap}
use Rattle.tag_table.specs.Shapes.{compute_of}
use Rattle.tag_table.proofs.Opens.{splits}
use Rattle.tag_table.proofs.bus.engine_seat.Goals as goal

pub split_seat-requires : goal.split_seat-requires
split_seat-requires c =
    let is = ap (λ m. m.0) c.requires.compute.0 in
    (c.requires.table.0, (let h = c.requires.table.1 in omega arith), rw is (splits _ _ _ (compute_of c.args.seat.now.me.0) c.requires.compute.1))
