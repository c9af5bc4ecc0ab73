use Rattle.std.proofs.Common.{◌≡◌, drop}
use Rattle.access_region.specs.Candidates.{with_candidates}
use Rattle.access_region.proofs.candidate.add_candidates.Given as goal

abbrev pub invariant-loop-access : goal.invariant-loop-access
invariant-loop-access l = with_candidates l.end l.outer l.outside l.dim l.accesses l.initial.kept.items ≡ with_candidates l.end l.outer l.outside l.dim (drop l.access-index l.accesses) l.kept.items
