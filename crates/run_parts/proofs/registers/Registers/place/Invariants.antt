use Rattle.std.proofs.Common.{◌≡◌, take, map}
use Rattle.run_parts.specs.Registered.{number_of}
use Rattle.run_parts.proofs.registers.Registers.place.Given as goal

abbrev pub invariant-loop-operand : goal.invariant-loop-operand
invariant-loop-operand l = record {
  items : l.self-inside.subscripts.items ≡ map (number_of l.self-inside.values.items) (take l.operand-index l.operands);
  values : l.self-inside.values ≡ l.initial.self-inside.values;
  names : l.self-inside.names ≡ l.initial.self-inside.names;
  room : l.self-inside.subscripts.capacity ≡ l.initial.self-inside.subscripts.capacity;
}
