use Rattle.std.proofs.Common.{◌≡◌, drop}
use Rattle.projection.specs.Answers.{after}
use Rattle.dependence.specs.Clashes.{all_later}
use Rattle.dependence.proofs.turns.LaterTurn.push_rows.Given as goal

abbrev pub invariant-loop-row : goal.invariant-loop-row
invariant-loop-row l = after l.initial.out.items (all_later l.self.outer l.self.locals l.self.var l.self.distance l.rows) ≡ after l.out.items (all_later l.self.outer l.self.locals l.self.var l.self.distance (drop l.row-index l.rows))
