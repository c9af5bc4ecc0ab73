use Rattle.std.proofs.Common.{arith}
use Rattle.direct_meaning.specs.Work.{start_ranges}
use Rattle.module_regions.specs.Ready.{ReadyBlock}
use Rattle.module_regions.proofs.Blocked.{block_ready_at}
use Rattle.module_regions.proofs.lines.put_blocks.Goals as goal

pub put_block-requires : goal.put_block-requires
put_block-requires c = block_ready_at (ReadyBlock (start_ranges c.args.args.now)) c.args.blocks.now c.loop-number.number c.index-blocks-number.result (omega arith) c.index-blocks-number.is c.requires
