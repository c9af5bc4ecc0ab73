use Rattle.std.proofs.Common.{◌≡◌, ◌≤◌, drop, map}
use Rattle.placement_code.specs.Placed.{placement_of}
use Rattle.text_places.specs.Finding.{seen}
use Rattle.text_limits.specs.Adding.{subscripts}
use Rattle.text_limits.specs.Capped.{with_measure}
use Rattle.text_limits.proofs.Redirected.{Of}
use Rattle.text_limits.proofs.redirects.of_uses.Given as goal

abbrev pub invariant-loop-found : goal.invariant-loop-found
invariant-loop-found l = record {
  same : Of (placement_of l.placed) (subscripts (map seen l.uses)) ≡ with_measure l.measure (Of (placement_of l.placed) (subscripts (map seen (drop l.found-index l.uses))));
  within : l.measure.operands ≤ 18446744073709551615;
}
