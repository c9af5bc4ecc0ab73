use Rattle.std.proofs.Common.{◌≡◌, take, length, map, vec_capacity, All}
use Rattle.direct_meaning.specs.Static.{operand}
use Rattle.walk_program.specs.Reading.{names_at}
use Rattle.walk_actions.specs.Looked.{env_of}
use Rattle.walk_actions.specs.Meant.{operand_meant, OperandIn}
use Rattle.walk_actions.proofs.environment.Environment.operands.Given as goal

abbrev pub invariant-loop-name : goal.invariant-loop-name
invariant-loop-name l = record {
  values : map (operand_meant l.self.names) l.uses.items ≡ map (operand (env_of l.self)) (names_at l.self.names (take l.name-index l.names));
  inside : All (OperandIn (length l.self.names)) l.uses.items;
  count : length l.uses.items ≡ l.name-index;
  capacity : vec_capacity l.uses ≡ vec_capacity l.fn.uses;
}
