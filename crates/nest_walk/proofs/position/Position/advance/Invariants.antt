use Rattle.std.proofs.Common.{◌≡◌}
use Rattle.nest_walk.specs.Jobs.{stand_of, actions_left, steps_at}
use Rattle.nest_walk.specs.Ready.{IsReady}
use Rattle.nest_walk.proofs.position.Position.advance.Given as goal

abbrev pub invariant-moves : goal.invariant-moves
invariant-moves l = record {
  ready : IsReady l.self;
  left : actions_left l.fn.self ≡ actions_left l.self;
  names : l.self.bindings.names ≡ l.fn.self.bindings.names;
}

abbrev pub decreases-moves : goal.decreases-moves
decreases-moves l = steps_at (stand_of l.self)
