use Rattle.nest_domain.proofs.Readiness.{valid_ready}
use Rattle.nest_domain.proofs.ways_are_ready.Goals as goal

pub returns : goal.returns
returns c = λ m v steps s e. (let r = valid_ready m v steps s e in (r.way, r.here))
