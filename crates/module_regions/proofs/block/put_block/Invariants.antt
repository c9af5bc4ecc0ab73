use Rattle.text_places.specs.Finding.{block_of}
use Rattle.module_regions.proofs.Pieces.{BlockSoFar}
use Rattle.module_regions.proofs.block.put_block.Given as goal

abbrev pub invariant-loop-memref : goal.invariant-loop-memref
invariant-loop-memref l = BlockSoFar l.args l.number (block_of l.block) l.memref-items l.memref-index l.way.items l.initial.out.items l.out.items
