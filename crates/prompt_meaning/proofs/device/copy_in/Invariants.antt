use Rattle.std.proofs.Common.{◌≡◌, ℕ, List}
use Rattle.bus_model.specs.Copies.{first_in}
use Rattle.prompt_semantics.specs.Device.{put_half}
use Rattle.prompt_laws.specs.Rooms.{Room}
use Rattle.prompt_meaning.specs.Memrefs.{halves_at, CellIn, AreRooms}
use Rattle.prompt_meaning.proofs.device.copy_in.Given as goal

abbrev pub invariant-loop-element : goal.invariant-loop-element
invariant-loop-element l = record {
  halves : halves_at l.fasts ≡ put_half (halves_at l.initial.fasts) l.transfer.fast l.transfer.half (first_in l.transfer l.slow l.element (halves_at l.initial.fasts l.transfer.fast l.transfer.half));
  cells : (n h c : ℕ) → CellIn l.initial.fasts n h c → CellIn l.fasts n h c;
  rooms : (rooms : List Room) → AreRooms rooms l.initial.fasts → AreRooms rooms l.fasts;
}
