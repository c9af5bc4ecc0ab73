use Rattle.nest_domain.proofs.Starting.{nothing_yet}
use Rattle.nest_domain.proofs.start.nothing_known.Goals as goal

pub returns : goal.returns
returns c = nothing_yet c.with_hasher.result.entries c.with_hasher-2.result.entries c.args.next c.new.result.items c.new-2.result.items c.new-3.result.items c.new-4.result.items c.new-5.result.items
    c.with_hasher.ensures.empty c.with_hasher-2.ensures.empty c.new.ensures.items c.new-2.ensures.items c.new-3.ensures.items c.new-4.ensures.items c.new-5.ensures.items
