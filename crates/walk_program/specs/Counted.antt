-- That a program says of each region what is allocated in its text.
use Rattle.std.specs.Prelude.{◌≡◌, List}
use Rattle.affine_ast.specs.declared.name.Name.{Name}
use Rattle.affine_ast.specs.Nest.{Nest}
use Rattle.direct_meaning.specs.Actions.{fasts_in, tags_in}
use Rattle.walk_program.specs.declared.statement.Counts.{Counts}
use Rattle.walk_program.specs.Reading.{nest_of}
use Rattle.walk_program.specs.Tree.{Tree, Nothing, Loop, Branch, Does}

-- the counts are those of a region
pub record CountsOf (region : Nest) (counts : Counts) : Type 0 where
  pub fasts : counts.fasts ≡ fasts_in region
  pub tags : counts.tags ≡ tags_in region

-- the counts at each loop and condition are those of its regions
abbrev pub Counted : List Name → Tree → Type 0
Counted names Nothing = Unit {0}
Counted names (Loop line v l u s inside body rest) = CountsOf (nest_of names body) inside × Counted names body
    × Counted names rest
Counted names (Branch line set operands first n has other m rest) =
    CountsOf (nest_of names first) n × CountsOf (nest_of names other) m × Counted names first × Counted names other
    × Counted names rest
Counted names (Does line p rest) = Counted names rest
