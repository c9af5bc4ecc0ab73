-- Where a text's ranges hold of its loops.
use Rattle.std.specs.Prelude.{◌≤◌, ℤ, ◌≤ℤ◌, ◌<ℤ◌, length}
use Rattle.affine_ast.specs.Names.{put}
use Rattle.affine_ast.specs.Nest.{Nest, Nothing, Loop, Branch, Does}
use Rattle.direct_meaning.specs.Turns.{turns}
use Rattle.direct_meaning.specs.Static.{Env, knows, lower_of, upper_of}
use Rattle.direct_meaning.specs.Actions.{after_plain, behind}
use Rattle.direct_meaning.specs.Work.{Ranges, first_turn, last_end, turn_range, turn_count, ranges_after}

-- each loop that the statements come to has no more turns than its ranges say
abbrev pub TurnsBounded : Nest → Env → Ranges → Type 0
TurnsBounded Nothing e rho = Unit {0}
TurnsBounded (Loop line v l u s body rest) e rho =
    (length (turns (lower_of e l) (upper_of e u) s) ≤ turn_count (first_turn rho l) (last_end rho u) s)
    × ((t : ℤ) → lower_of e l ≤ℤ t → t <ℤ upper_of e u → TurnsBounded body (knows e v t) (put rho v (turn_range (first_turn rho l) (last_end rho u))))
    × TurnsBounded rest (behind body e) rho
TurnsBounded (Branch line set names first has other rest) e rho =
    TurnsBounded first e rho × TurnsBounded other (behind first e) rho × TurnsBounded rest (behind other (behind first e)) rho
TurnsBounded (Does line p rest) e rho = TurnsBounded rest (after_plain p e) (ranges_after p rho)
