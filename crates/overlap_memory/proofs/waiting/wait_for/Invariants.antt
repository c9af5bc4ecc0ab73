use Rattle.std.proofs.Common.{◌≡◌}
use Rattle.tag_table.specs.Shapes.{IsIdle}
use Rattle.overlap_memory.proofs.waiting.wait_for.Given as goal

abbrev pub invariant-loop : goal.invariant-loop
invariant-loop g l = record {
  seat : l.seat.id ≡ l.initial.seat.id;
  prompt : l.seat.prompt ≡ l.initial.seat.prompt;
  tags : l.seat.tags ≡ l.initial.seat.tags;
  helper : IsIdle l.bus.id l.helper;
}
