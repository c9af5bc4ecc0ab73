use Rattle.std.proofs.Common.{refl}
use Rattle.affine_driver.proofs.laws.table_is_as_written.Goals as goal

pub returns : goal.returns
returns c = record {
  depth = refl;
  buffers = refl;
  capacity = refl;
  filler = refl;
  engines = refl;
  pick = refl;
  number = refl;
  check = refl;
  regions = refl;
  stage = refl;
  plain = refl;
  run = refl;
  both = refl;
  order = refl;
  regions_depth = refl;
  run_capacity = refl;
  run_filler = refl;
  run_engines = refl;
  order_capacity = refl;
  order_filler = refl;
  order_engines = refl;
  order_pick = refl;
  both_filler = refl;
  both_engines = refl;
  stage_depth = refl;
  stage_dma = refl;
  stage_double = refl;
  stage_buffers = refl;
  stage_capacity = refl;
  both_depth = refl;
  both_dma = refl;
  both_double = refl;
  both_buffers = refl;
  both_capacity = refl;
  source = refl;
}
