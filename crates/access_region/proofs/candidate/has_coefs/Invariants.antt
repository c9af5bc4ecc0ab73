use Rattle.std.proofs.Common.{◌≡◌, drop}
use Rattle.access_region.specs.Candidates.{has_coefs}
use Rattle.access_region.proofs.candidate.has_coefs.Given as goal

abbrev pub invariant-loop-other : goal.invariant-loop-other
invariant-loop-other l = has_coefs l.coefs l.kept ≡ has_coefs l.coefs (drop l.other-index l.kept)
