use Rattle.std.proofs.Common.{map}
use Rattle.direct_meaning.specs.Work.{start_ranges}
use Rattle.text_places.specs.Finding.{block_of, seen}
use Rattle.module_regions.proofs.Blocked.{block_uses_ready}
use Rattle.module_regions.proofs.block.found_of.Goals as goal

pub region_of_uses-requires-clause-ready : goal.region_of_uses-requires-clause-ready
region_of_uses-requires-clause-ready c = block_uses_ready (start_ranges c.args.args.now) (block_of c.args.block.now) c.args.memref.now (map seen c.args.uses.now) c.requires.ready c.requires.uses
