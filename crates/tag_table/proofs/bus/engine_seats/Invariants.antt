use Rattle.std.proofs.Common.{◌≡◌, [], map}
use Rattle.std.specs.List.{range_with_len}
use Rattle.tag_table.specs.declared.view.View.TheVariants.{Compute}
use Rattle.tag_table.specs.Steps.{numbered}
use Rattle.tag_table.specs.Shapes.{compute_of, fresh_engine}
use Rattle.tag_table.proofs.bus.engine_seats.Given as goal

abbrev pub invariant-loop : goal.invariant-loop
invariant-loop l = record {
  table : l.seat.table_id ≡ l.initial.seat.table_id;
  id : l.seat.id ≡ l.initial.seat.id;
  me : l.seat.me ≡ (Compute (numbered (compute_of l.initial.seat.me.0) l.counter), []);
  made : l.list.items ≡ map (fresh_engine l.words.table_id) (range_with_len 0 l.counter);
}
