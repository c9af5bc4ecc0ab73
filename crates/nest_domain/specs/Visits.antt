-- The turns in which the making of a list of actions comes to a place.
use Rattle.std.specs.Prelude.{◌≡◌, ℕ, ℤ, pos, ◌+ℤ◌, ◌*ℤ◌, ◌<ℤ◌, true, false, List, [], ◌∷◌, ◌++◌}
use Rattle.affine_ast.specs.Nest.{Nest, Nothing, Loop, Branch, Does}
use Rattle.direct_meaning.specs.Static.{Env, knows, lower_of, upper_of, holds_at}
use Rattle.direct_meaning.specs.Actions.{after_plain, behind}
use Rattle.nest_domain.specs.Ways.{Header, Round, Given, Except, Behind, Past}

-- t is a, a + s, a + 2 s or so on, and below b
abbrev pub IsTurn : ℤ → ℤ → ℤ → ℤ → Type 0
IsTurn a b s t = (n : ℕ) × (t ≡ a +ℤ pos n *ℤ s) × (t <ℤ b)

-- along a way, with the loops' variables at these turns, the making of the list comes from what is known in e to what is
-- known in g
abbrev pub Visits : List Header → Env → List ℤ → Env → Type 0
Visits [] e ts g = (ts ≡ []) × (e ≡ g)
Visits (Round v l u s ∷ hs) e [] g = ⊥
Visits (Round v l u s ∷ hs) e (t ∷ ts) g = IsTurn (lower_of e l) (upper_of e u) s t × Visits hs (knows e v t) ts g
Visits (Given set names ∷ hs) e ts g = (holds_at e set names ≡ true) × Visits hs e ts g
Visits (Except set names first ∷ hs) e ts g = (holds_at e set names ≡ false) × Visits hs (behind first e) ts g
Visits (Behind p ∷ hs) e ts g = Visits hs (after_plain p e) ts g
Visits (Past n ∷ hs) e ts g = Visits hs (behind n e) ts g

-- a fact of each statement, of the way to it and of what is known there, wherever the making of the list comes to it
abbrev pub Along : (List Header → Nest → Env → Type 0) → Nest → List Header → Env → Type 0
Along P Nothing way e = Unit {0}
Along P (Loop line v l u s body rest) way e =
    P way (Loop line v l u s body rest) e
    × ((t : ℤ) → IsTurn (lower_of e l) (upper_of e u) s t → Along P body (way ++ Round v l u s ∷ []) (knows e v t))
    × Along P rest (way ++ Past body ∷ []) (behind body e)
Along P (Branch line set names first has other rest) way e =
    P way (Branch line set names first has other rest) e
    × (holds_at e set names ≡ true → Along P first (way ++ Given set names ∷ []) e)
    × (holds_at e set names ≡ false → Along P other (way ++ Except set names first ∷ []) (behind first e))
    × Along P rest ((way ++ Past first ∷ []) ++ Past other ∷ []) (behind other (behind first e))
Along P (Does line p rest) way e = P way (Does line p rest) e × Along P rest (way ++ Behind p ∷ []) (after_plain p e)
