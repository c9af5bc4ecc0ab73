use Rattle.std.proofs.Common.{◌≡◌, drop}
use Rattle.std.specs.List.{list_all}
use Rattle.std.specs.Prelude.{nat_le}
use Rattle.shape_rules.proofs.shapes.sizes_positive.Given as goal

abbrev pub invariant-loop-size : goal.invariant-loop-size
invariant-loop-size l = list_all (nat_le 1) l.sizes ≡ list_all (nat_le 1) (drop l.size-index l.sizes)
