use Rattle.direct_meaning.specs.Work.{start_ranges}
use Rattle.access_region.specs.Finding.{ReadyUse}
use Rattle.access_region.proofs.Gathering.{ready_at}
use Rattle.access_region.proofs.gather.all_reaching.Goals as goal

pub reaching_use-requires : goal.reaching_use-requires
reaching_use-requires c = ready_at (ReadyUse (start_ranges c.args.args.now)) c.args.uses.now c.loop-found.found-index c.found-item.result c.loop-found-test.true c.found-item.is c.requires
