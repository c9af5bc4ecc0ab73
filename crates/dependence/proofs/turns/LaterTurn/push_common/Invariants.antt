use Rattle.std.proofs.Common.{◌≡◌, ◌+◌, drop}
use Rattle.projection.specs.Answers.{after}
use Rattle.dependence.specs.Clashes.{common_rows}
use Rattle.dependence.proofs.turns.LaterTurn.push_common.Given as goal

abbrev pub invariant-loop-number : goal.invariant-loop-number
invariant-loop-number l = after l.initial.out.items (common_rows l.self.outer l.self.locals l.self.var l.self.distance l.place l.first l.second l.sizes)
    ≡ after l.out.items (common_rows l.self.outer l.self.locals l.self.var l.self.distance (l.place + l.number) (drop l.number l.first) (drop l.number l.second) (drop l.number l.sizes))
