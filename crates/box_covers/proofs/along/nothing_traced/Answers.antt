use Rattle.box_covers.proofs.Tables.{nothing_yet}
use Rattle.box_covers.proofs.along.nothing_traced.Goals as goal

pub returns : goal.returns
returns c = nothing_yet c.with_hasher.result.entries c.args.next c.with_hasher.ensures.empty
