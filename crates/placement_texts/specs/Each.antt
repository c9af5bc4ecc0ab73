-- What holds of each plain statement of a text, under all that is known where its action is made.
use Rattle.std.specs.Prelude.{◌≡◌, true, false}
use Rattle.boxes.specs.Every.{Every}
use Rattle.affine_ast.specs.Nest.{Plain, Nest, Nothing, Loop, Branch, Does}
use Rattle.direct_meaning.specs.Turns.{turns}
use Rattle.direct_meaning.specs.Static.{Env, knows, lower_of, upper_of, holds_at}
use Rattle.direct_meaning.specs.Actions.{after_plain, behind}

-- something holds of each statement in each turn of the loops round it, in the region of a condition that is chosen
abbrev pub Each : (Plain → Env → Type 0) → Nest → Env → Type 0
Each P Nothing e = Unit {0}
Each P (Loop line v l u s body rest) e = Every (λ t. Each P body (knows e v t)) (turns (lower_of e l) (upper_of e u) s)
    × Each P rest (behind body e)
Each P (Branch line set names first has other rest) e =
    (holds_at e set names ≡ true → Each P first e) × (holds_at e set names ≡ false → Each P other (behind first e))
    × Each P rest (behind other (behind first e))
Each P (Does line p rest) e = P p e × Each P rest (after_plain p e)
