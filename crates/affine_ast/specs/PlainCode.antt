-- What the code that counts expressions and statements finds, in the words of the plain limits.
use Rattle.std.specs.Prelude.{ℕ, Option, Some, None}
use Rattle.affine_ast.specs.declared.plain.Place.{Place}
use Rattle.affine_ast.specs.declared.plain.Place.TheVariants as place
use Rattle.affine_ast.specs.PlainLimits.{Depths, PlainTold, FaultAt, Counted}

-- the depth of an expression that stands at this place
abbrev pub depth_at : Place → Depths → ℕ
depth_at place.Sum d = d.sum
depth_at place.Product d = d.product
depth_at place.Unary d = d.unary
depth_at place.Negated d = d.negated

-- a line, or where there is none the count
abbrev pub plain_outcome : Option ℕ → ℕ → PlainTold
plain_outcome (Some line) count = FaultAt line
plain_outcome None count = Counted count

-- a statement by itself, before what is told of what follows
abbrev pub judged_outcome : Option ℕ → ℕ → PlainTold → PlainTold
judged_outcome (Some line) at more = FaultAt at
judged_outcome None at more = more
