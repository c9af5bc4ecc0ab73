-- What callers see of a walk.
use Rattle.std.specs.Prelude.{◌≡◌, ℤ, List, [], ◌∷◌, length, Option, Some, None}
use Rattle.affine_ast.specs.declared.name.Name.{Name}
use Rattle.direct_meaning.specs.Action as meaning
use Rattle.direct_meaning.specs.Actions.{actions}
use Rattle.direct_meaning.specs.Memory.{start_env}
use Rattle.walk_program.specs.declared.program.Program.{Program}
use Rattle.walk_program.specs.Reading.{nest_of, arguments_of}
use Rattle.walk_program.specs.Tree.{tree}
use Rattle.walk_actions.specs.declared.action.Action.{Action}
use Rattle.walk_actions.specs.declared.action.Operand.{Operand}
use Rattle.walk_actions.specs.Meant.{meant, NamesIn}

-- the names of the module, by number; the actions that are left, in order; the subscripts of the last action where it
-- is a raw access
pub record Walked : Type 0 where
  pub names : List Name
  pub left : List meaning.Action
  pub subscripts : List Operand

-- an action was taken from the front of those that are left; its numbers are those of the module's names, which stay
pub record Gives (action : Action) (old new : Walked) : Type 0 where
  pub taken : old.left ≡ meant old.names new.subscripts action ∷ new.left
  pub in_names : NamesIn (length old.names) new.subscripts action
  pub names : new.names ≡ old.names

-- no action is left
pub record Ended (old new : Walked) : Type 0 where
  pub was : old.left ≡ []
  pub stays : new.left ≡ []
  pub names : new.names ≡ old.names

-- a walk gave its next action, or has none left
abbrev pub Next : Option Action → Walked → Walked → Type 0
Next None old new = Ended old new
Next (Some action) old new = Gives action old new

-- a walk at the beginning of a module: it has all actions to give that the module has for these index arguments
pub record Begins (program : Program) (symbols : List ℤ) (walk : Walked) : Type 0 where
  pub names : walk.names ≡ program.names
  pub left : walk.left ≡ actions (nest_of program.names (tree program.body))
      (start_env (arguments_of program.names program.arguments) symbols)
