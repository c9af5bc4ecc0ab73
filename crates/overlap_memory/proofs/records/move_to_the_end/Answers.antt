use Rattle.std.proofs.Common.{◌-◌, length, false, arith}
use Rattle.std.proofs.lemmas.Slice.{put_mid-rotated}
use Rattle.bus_model.specs.declared.transfer.Transfer.{Transfer}
use Rattle.overlap_memory.proofs.records.move_to_the_end.Goals as goal

no_transfer : Transfer
no_transfer = record { incoming = false; tag = 0; memref = 0; base = 0; stride = 0; chunk = 0; count = 0; fast = 0; half = 0; offset = 0 }

pub returns : goal.returns
returns c = (_, put_mid-rotated c.args.place (length c.args.records.now - c.args.place) c.args.records.now _ no_transfer c.requires (omega arith) c.rotate_left.ensures.after)
