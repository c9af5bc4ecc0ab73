-- The things on a way as code has them.
use Rattle.std.specs.Prelude.{◌≡◌, ℕ, zero, ◌<◌, Bool, List, [], ◌∷◌, ◌++◌, length, map, Option, Some, None}
use Rattle.affine_ast.specs.declared.stmt.Stmt.{Stmt}
use Rattle.affine_ast.specs.declared.stmt.What.{What}
use Rattle.affine_ast.specs.Nest.{Nest, Nothing, Loop, Branch, Does, nest, plain_of, put_what}
use Rattle.nest_domain.specs.declared.step.Step.{Step}
use Rattle.nest_domain.specs.declared.step.Step.TheVariants as step
use Rattle.nest_domain.specs.declared.step.Mark.{Mark}
use Rattle.nest_domain.specs.declared.step.Found.{Found}
use Rattle.nest_domain.specs.Ways.{Header, Round, Given, Except, Behind, Past, Spot, under, spot}

abbrev pub header_of : Step → Header
header_of (step.Round var lower upper by) = Round var.now lower.now upper.now by
header_of (step.Given set operands) = Given set.now operands.now
header_of (step.Except set operands first) = Except set.now operands.now (nest first.now)
header_of (step.Behind what) = Behind (plain_of what.now)
header_of (step.Past body) = Past (nest body.now)

abbrev pub mark_of : Mark → Header × Bool
mark_of m = (header_of m.step, m.needed)

abbrev pub spot_of : Found → Spot
spot_of found = record { way = map header_of found.way.items; here = nest found.here.now }

-- with these things in front of the way
abbrev pub unders : List Header → Option Spot → Option Spot
unders [] o = o
unders (h ∷ hs) o = under h (unders hs o)

-- the way past the first statement of a list
abbrev pub past_first : Nest → List Header
past_first Nothing = []
past_first (Loop line v l u s body rest) = Past body ∷ []
past_first (Branch line set names first has other rest) = Past first ∷ Past other ∷ []
past_first (Does line p rest) = Behind p ∷ []

unfoldable pub past_what : What → List Header
past_what w = past_first (put_what w 0 Nothing)

-- the way past statements
unfoldable pub past_all : List Stmt → List Header
past_all [] = []
past_all (s ∷ ss) = past_what s.what ++ past_all ss

-- the statements of an `else` region, and none where there isn't one
abbrev pub or_none : Option (List Stmt) → List Stmt
or_none None = []
or_none (Some other) = other

-- where the way so far grows from `old` to `new`, what a statement's region has at a position and from there on inward is what its
-- list of statements has; where there is no such region it has nothing
abbrev pub Enters : Stmt → Bool → List Header → List Header → Option (List Stmt) → Type 0
Enters s other old new (Some inner) = (rest : Nest) (n : ℕ) (steps : List (ℕ × Bool)) → unders old (spot (put_what s.what s.line rest) zero ((n, other) ∷ steps)) ≡ unders new (spot (nest inner) n steps)
Enters s other old new None = (rest : Nest) (n : ℕ) (steps : List (ℕ × Bool)) → spot (put_what s.what s.line rest) zero ((n, other) ∷ steps) ≡ None

-- what a list of statements has at a position and from there on inward is what the list has that begins there
abbrev pub Comes : List Stmt → ℕ → List Header → List Header → Option (List Stmt) → Type 0
Comes list n old new (Some here) = (0 < length here) × ((steps : List (ℕ × Bool)) → unders old (spot (nest list) n steps) ≡ unders new (spot (nest here) zero steps))
Comes list n old new None = (steps : List (ℕ × Bool)) → spot (nest list) n steps ≡ None

-- what stands at the head of a list has at a step inward, and from there on, what the list has that begins there
abbrev pub Descends : List Stmt → ℕ × Bool → List Header → List Header → Option (List Stmt) → Type 0
Descends list first old new (Some here) = (0 < length here) × ((steps : List (ℕ × Bool)) → unders old (spot (nest list) zero (first ∷ steps)) ≡ unders new (spot (nest here) zero steps))
Descends list first old new None = (steps : List (ℕ × Bool)) → spot (nest list) zero (first ∷ steps) ≡ None

-- what stands at the head of a list has at these steps inward a statement, or nothing
abbrev pub Arrives : List Stmt → List (ℕ × Bool) → List Header → List Header → Option (List Stmt) → Type 0
Arrives list steps old new (Some here) = unders old (spot (nest list) zero steps) ≡ Some (record { way = new; here = nest here })
Arrives list steps old new None = spot (nest list) zero steps ≡ None
