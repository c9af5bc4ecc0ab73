use Rattle.std.proofs.Common.{◌≡◌, drop}
use Rattle.projection.specs.Answers.{after}
use Rattle.access_region.specs.Candidates.{plus_multiple}
use Rattle.access_region.proofs.multiple.plus_multiple.Given as goal

abbrev pub invariant-loop-i : goal.invariant-loop-i
invariant-loop-i l = plus_multiple l.base l.factor l.others ≡ after l.sums.items (plus_multiple (drop l.i l.base) l.factor (drop l.i l.others))
