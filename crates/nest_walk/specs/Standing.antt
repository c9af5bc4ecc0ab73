-- Where a walk stands, by number.
use Rattle.std.specs.Prelude.{◌≡◌, ℕ, List}
use Rattle.walk_program.specs.declared.statement.Statement.{Statement}
use Rattle.walk_actions.specs.declared.action.Operand.{Operand}
use Rattle.walk_actions.specs.Bindings.{Bindings}
use Rattle.nest_walk.specs.declared.frame.Frame.{Frame}

-- what is open below with the highest frame first, the statements in hand, what names stand for there, the subscripts
-- beside the last action, and room for the operands of a map, for subscripts and for frames
pub record Standing : Type 0 where
  pub frames : List Frame
  pub rest : List Statement
  pub bindings : Bindings
  pub subscripts : List Operand
  pub width : ℕ
  pub uses : ℕ
  pub capacity : ℕ
