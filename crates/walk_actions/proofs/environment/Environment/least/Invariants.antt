use Rattle.std.proofs.Common.{◌≡◌, take, map, fold, vec_capacity}
use Rattle.std.specs.Int.{int_min}
use Rattle.walk_actions.specs.Looked.{env_of}
use Rattle.walk_actions.specs.Values.{value_in, use_of}
use Rattle.walk_actions.proofs.environment.Environment.least.Given as goal

abbrev pub invariant-loop-expr : goal.invariant-loop-expr
invariant-loop-expr l = record {
  best : l.least ≡ fold int_min l.initial.least (map (value_in (env_of l.self) (use_of l.self l.at)) (take l.expr-index l.rest));
  capacity : vec_capacity l.room ≡ vec_capacity l.fn.room;
}
