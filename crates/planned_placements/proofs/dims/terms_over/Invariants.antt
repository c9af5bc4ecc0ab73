use Rattle.std.proofs.Common.{◌≡◌, ◌++◌, drop}
use Rattle.placement_regions.specs.Sites.{terms_over}
use Rattle.planned_placements.proofs.dims.terms_over.Given as goal

abbrev pub invariant-loop-at : goal.invariant-loop-at
invariant-loop-at l = terms_over l.names l.coefs ≡ l.terms ++ terms_over (drop l.at l.names) (drop l.at l.coefs)
