use Rattle.std.proofs.Common.{◌≡◌, take, map, fold}
use Rattle.direct_meaning.specs.Memory.{place_arg, empty_env}
use Rattle.walk_program.specs.Reading.{argument_of}
use Rattle.nest_walk.specs.Arguments.{placed_of}
use Rattle.nest_walk.proofs.arguments.placed.Given as goal

abbrev pub invariant-loop-argument : goal.invariant-loop-argument
invariant-loop-argument l = record {
  placed : placed_of l.placing ≡ fold place_arg (record { env = empty_env; memrefs = 0; elements = 0; symbols = l.symbols }) (map (argument_of l.names) (take l.argument-index l.arguments));
  names : l.placing.environment.names ≡ l.names;
}
