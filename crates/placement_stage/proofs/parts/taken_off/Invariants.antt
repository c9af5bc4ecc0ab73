use Rattle.std.proofs.Common.{◌≡◌, ◌++◌, ◌+◌, reverse, length}
use Rattle.placement_stage.proofs.parts.taken_off.Given as goal

abbrev pub invariant-loop-turn : goal.invariant-loop-turn
invariant-loop-turn l = record {
  whole : l.initial.stmts ≡ l.stmts ++ reverse l.taken;
  counted : length l.stmts + l._turn ≡ length l.initial.stmts + l.keep;
}
