use Rattle.std.proofs.Common.{◌≡◌, ◌≤◌, drop, length}
use Rattle.nest_walk.specs.Ready.{room}
use Rattle.nest_walk.proofs.rooms.+rooms.Given as goal

abbrev pub invariant-room_needed-loop-i : goal.invariant-room_needed-loop-i
invariant-room_needed-loop-i l = record {
  within : l.i ≤ length l.statements;
  so_far : l.need ≡ room (drop l.i l.statements);
}

abbrev pub decreases-room_needed-loop-i : goal.decreases-room_needed-loop-i
decreases-room_needed-loop-i l = l.i
