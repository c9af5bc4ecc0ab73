use Rattle.std.proofs.Common.{◌≡◌, drop}
use Rattle.access_region.specs.Faults.{after}
use Rattle.access_region.specs.Spans.{spans_of}
use Rattle.access_region.proofs.span.spans_of.Given as goal

abbrev pub invariant-loop-access : goal.invariant-loop-access
invariant-loop-access l = spans_of l.dim l.candidate l.accesses ≡ after l.spans.items (spans_of l.dim l.candidate (drop l.access-index l.accesses))
