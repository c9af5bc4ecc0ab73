use Rattle.std.proofs.Common.{◌≡◌, drop}
use Rattle.access_region.specs.Spans.{all_joined}
use Rattle.access_region.proofs.span.all_joined.Given as goal

abbrev pub invariant-loop-other : goal.invariant-loop-other
invariant-loop-other l = all_joined l.fn.first l.others ≡ all_joined l.all (drop l.other-index l.others)
