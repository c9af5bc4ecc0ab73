use Rattle.std.proofs.Common.{◌≡◌, ◌+◌, drop}
use Rattle.placement_texts.specs.Normal.{index_of}
use Rattle.normal_subscripts.proofs.order.index_of.Given as goal

abbrev pub invariant-loop-at : goal.invariant-loop-at
invariant-loop-at l = index_of l.number l.order ≡ l.at + index_of l.number (drop l.at l.order)
