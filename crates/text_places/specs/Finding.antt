-- The accesses of a memref as code finds them, and how the way grows from statement to statement.
use Rattle.std.specs.Prelude.{◌≡◌, List, [], ◌∷◌, ◌++◌, length, map, take, Option, Some, None}
use Rattle.affine_ast.specs.declared.stmt.Stmt.{Stmt}
use Rattle.affine_ast.specs.declared.stmt.What.{What}
use Rattle.affine_ast.specs.declared.name.Name.{Name}
use Rattle.affine_ast.specs.Nest.{Nest, Nothing, Loop, Branch, Does, nest, put_what}
use Rattle.nest_domain.specs.declared.step.Step.{Step}
use Rattle.nest_domain.specs.Ways.{Header, Behind, Past, Use, Affine, Other}
use Rattle.nest_domain.specs.Steps.{header_of}
use Rattle.text_places.specs.Blocks.{Block}
use Rattle.text_places.specs.declared.blocks.FoundBlock.{FoundBlock}
use Rattle.text_places.specs.declared.memrefs.Named.{Named}
use Rattle.text_places.specs.declared.plain.FoundUse.{FoundUse}
use Rattle.text_places.specs.declared.plain.FoundUse.TheVariants as found

abbrev pub seen : FoundUse → Use
seen (found.Affine way stores at) = Affine (map header_of way.items) stores at.now
seen found.Other = Other

abbrev pub block_of : FoundBlock → Block
block_of b = record { way = map header_of b.way.items; line = b.line; var = b.var.now; lower = b.lower.now; upper = b.upper.now; step = b.step; body = nest b.body.now }

abbrev pub named : Named → Name
named n = n.name.now

-- the statements of an `else` region, and none where there isn't one
abbrev pub or_none : Option (List Stmt) → List Stmt
or_none None = []
or_none (Some other) = other

-- the way past the first statement of a list
abbrev pub past_first : Nest → List Header
past_first Nothing = []
past_first (Loop line v l u s body rest) = Past body ∷ []
past_first (Branch line set names first has other rest) = Past first ∷ Past other ∷ []
past_first (Does line p rest) = Behind p ∷ []

unfoldable pub past_what : What → List Header
past_what w = past_first (put_what w 0 Nothing)

-- a way with these more behind it
pub record Grown (old new : List Step) (more : List Header) : Type 0 where
  pub kept : take (length old) new ≡ old
  pub behind : map header_of new ≡ map header_of old ++ more
