use Rattle.std.proofs.Common.{◌≡◌, take, map}
use Rattle.std.specs.Prelude.{slice_index_or}
use Rattle.placement_texts.specs.Normal.{no_name}
use Rattle.normal_subscripts.proofs.access.picked.Given as goal

abbrev pub invariant-loop-number : goal.invariant-loop-number
invariant-loop-number l = l.names ≡ map (λ n. slice_index_or l.operands n no_name) (take l.number-index l.order)
