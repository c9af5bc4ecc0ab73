use Rattle.std.proofs.Common.{◌≡◌, take, vec_capacity}
use Rattle.walk_actions.specs.Looked.{numbers_at}
use Rattle.walk_actions.proofs.environment.Environment.numbers.Given as goal

abbrev pub invariant-loop-name : goal.invariant-loop-name
invariant-loop-name l = record {
  values : l.room.items ≡ numbers_at l.self (take l.name-index l.names);
  capacity : vec_capacity l.room ≡ vec_capacity l.fn.room;
}
