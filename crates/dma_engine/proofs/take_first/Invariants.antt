use Rattle.std.proofs.Common.{◌≡◌, ℕ, List}
use Rattle.dma_engine.specs.Met.{Missed, with_met}
use Rattle.dma_engine.proofs.take_first.Given as goal

abbrev pub invariant-loop-tag : goal.invariant-loop-tag
invariant-loop-tag g l = (ms : List (ℕ × ℕ)) × Missed l.tag ms × (l.seat ≡ with_met l.initial.seat ms)
