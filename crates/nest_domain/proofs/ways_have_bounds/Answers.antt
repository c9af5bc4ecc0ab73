use Rattle.nest_domain.proofs.Resulting.{ways_have_bounds}
use Rattle.nest_domain.proofs.ways_have_bounds.Goals as goal

pub returns : goal.returns
returns c = ways_have_bounds
