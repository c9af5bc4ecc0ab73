-- What holds of every program that is made.
use Rattle.std.specs.Prelude.{◌<◌, All, length}
use Rattle.walk_program.specs.declared.program.Argument.{Argument}
use Rattle.walk_program.specs.declared.program.Program.{Program}
use Rattle.walk_program.specs.Counted.{CountsOf, Counted}
use Rattle.walk_program.specs.Names.{AreDistinct}
use Rattle.walk_program.specs.Numbered.{Numbered}
use Rattle.walk_program.specs.Reading.{nest_of}
use Rattle.walk_program.specs.Tree.{tree}

-- a program by itself: its names are distinct, its numbers are theirs, no list of operands is longer than its width,
-- and the counts of its regions and of its whole body are right
pub record WellMade (p : Program) : Type 0 where
  pub distinct : AreDistinct p.names
  pub arguments : All (λ (a : Argument). a.name < length p.names) p.arguments
  pub numbered : Numbered (length p.names) p.width (tree p.body)
  pub counted : Counted p.names (tree p.body)
  pub inside : CountsOf (nest_of p.names (tree p.body)) p.inside
