use Rattle.std.proofs.Common.{rules}
use Rattle.planned_placements.proofs.Placeable.{small_offset}
use Rattle.planned_placements.proofs.dims.dim_over.Goals as goal

pub offset_over-offset-requires : goal.offset_over-offset-requires
offset_over-offset-requires c = small_offset c.args.names.now c.args.dim.now c.args.size c.as_slice.result.now (search rules) (search rules) (search rules) c.requires
