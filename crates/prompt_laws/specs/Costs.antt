-- The steps that a list of actions asks for: its own, and those of engines.
use Rattle.std.specs.Prelude.{ℕ, ◌+◌, List, [], ◌∷◌}
use Rattle.direct_meaning.specs.Action.{Action, Starts}

-- an action, and the steps of an engine for a start: the count and two
abbrev pub cost : Action → ℕ
cost (Starts t) = t.count + 3
cost a = 1

abbrev pub costs : List Action → ℕ
costs [] = 0
costs (a ∷ more) = cost a + costs more
