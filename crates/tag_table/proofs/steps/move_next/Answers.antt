use Rattle.std.proofs.Common.{◌+◌, pos, sym, ap}
use Rattle.std.specs.Prelude.{slice_set, if◌then◌else◌}
use Rattle.tag_table.proofs.steps.move_next.Goals as goal

pub returns-clause-cells : goal.returns-clause-cells
returns-clause-cells c _ =
    let p = c.args.parcel.now in
    (pos 0, ap (λ b. if b then slice_set p.cells.items (p.transfer.offset + p.moved) (pos 0) else p.cells.items) (sym c.if-transfer.false))
