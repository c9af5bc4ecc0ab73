use Rattle.std.proofs.Common.{◌≡◌, ◌++◌, drop}
use Rattle.module_regions.proofs.Pieces.{blocks_texts}
use Rattle.module_regions.proofs.lines.put_blocks.Given as goal

abbrev pub invariant-loop-number : goal.invariant-loop-number
invariant-loop-number l = l.out.items ++ blocks_texts l.args l.number (drop l.number l.blocks) ≡ l.initial.out.items ++ blocks_texts l.args 0 l.blocks
