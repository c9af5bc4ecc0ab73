use Rattle.std.proofs.Common.{◌≡◌, None, drop}
use Rattle.access_region.specs.Spans.{best}
use Rattle.access_region.proofs.span.best.Given as goal

abbrev pub invariant-loop-candidate : goal.invariant-loop-candidate
invariant-loop-candidate l = best l.dim l.accesses l.candidates None ≡ best l.dim l.accesses (drop l.candidate-index l.candidates) l.kept
