use Rattle.std.proofs.Common.{◌∙◌, sym}
use Rattle.prompt_semantics.specs.Device.{without}
use Rattle.overlap_memory.proofs.Drains.{all_taken}
use Rattle.overlap_memory.proofs.memory.Memory.drain.Goals as goal

pub loop-transfer-init : goal.loop-transfer-init
loop-transfer-init g c = λ shape y t. record { left = y.outstanding; tied = t }

pub loop-transfer-preserved : goal.loop-transfer-preserved
loop-transfer-preserved g c = λ shape y t. let l = c.loop-transfer.invariant shape y t in record { left = without _ l.left; tied = c.collect.ensures.tied shape _ l.tied }

pub collect-requires-clause-tied : goal.collect-requires-clause-tied
collect-requires-clause-tied g c = let s = c.requires.tied in let l = c.loop-transfer.invariant s.0 s.1 s.2 in (s.0, _, l.tied)

pub returns : goal.returns
returns g c = record { tied = λ shape y t. all_taken _ _ _ y (c.loop-transfer.invariant shape y t) (sym c.as_slice.ensures.value ∙ c.in_default.ensures) }
