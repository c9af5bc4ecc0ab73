use Rattle.std.proofs.Common.{◌≡◌, ◌≤◌, ◌+◌, ◌-◌, not, ◌==◌, length, drop}
use Rattle.std.specs.List.{prefix_len}
use Rattle.source_parts.proofs.parts.bare_length.Given as goal

abbrev pub invariant-loop-end : goal.invariant-loop-end
invariant-loop-end l = (prefix_len (λ b. not (b == 10)) l.bytes ≡ l.end + prefix_len (λ b. not (b == 10)) (drop l.end l.bytes)) × (l.end ≤ length l.bytes)

abbrev pub decreases-loop-end : goal.decreases-loop-end
decreases-loop-end l = length l.bytes - l.end
