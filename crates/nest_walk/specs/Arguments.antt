-- What the names of arguments stand for, by number.
use Rattle.std.specs.Prelude.{◌≡◌}
use Rattle.direct_meaning.specs.Memory.{Placed}
use Rattle.walk_actions.specs.Looked.{env_of}
use Rattle.nest_walk.specs.declared.arguments.Placing.{Placing}

-- what the tables and counts of the arguments so far say
abbrev pub placed_of : Placing → Placed
placed_of p = record { env = env_of p.environment; memrefs = p.memrefs; elements = p.elements; symbols = p.symbols.now }

-- an argument more is placed
pub record Places (new old : Placing) (placed : Placed) : Type 0 where
  pub placed_is : placed_of new ≡ placed
  pub names : new.environment.names ≡ old.environment.names
