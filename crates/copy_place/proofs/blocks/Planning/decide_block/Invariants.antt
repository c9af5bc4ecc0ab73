use Rattle.std.proofs.Common.{◌+◌, ◌++◌, map, take}
use Rattle.access_region.specs.Faults.{Meets}
use Rattle.access_region.specs.Regions.{Outside, outside_at}
use Rattle.placement_stage.specs.Places.{spot_of}
use Rattle.text_places.specs.Finding.{block_of, named}
use Rattle.plan_laws.specs.Plan.{asked_in, asked_from}
use Rattle.hoisted_sites.specs.Hoisting.{module_of, text_of}
use Rattle.copy_place.specs.Planning.{blocks_of, IsPlanning}
use Rattle.copy_place.proofs.blocks.Planning.decide_block.Given as goal

-- the memrefs of the blocks before are decided, and so many of this block
abbrev pub invariant-loop-memref : goal.invariant-loop-memref
invariant-loop-memref l =
    let a = l.asking in
    record {
      planning : IsPlanning a (take (l.number + 1) (blocks_of a))
          (asked_from a.options (module_of a).args (text_of a) 0 (take l.number (blocks_of a)) ++ asked_in a.options (module_of a).args (text_of a) l.number (spot_of l.path.at.steps) (map named (take l.memref-index l.memref-items))) l.self;
      outside : Meets {B = Outside} (outside_at (module_of a).args (block_of l.block).way) (λ o. o) l.outside;
    }
