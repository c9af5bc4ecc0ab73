-- What names stand for at one point of a module, by number.
use Rattle.std.specs.Prelude.{◌≡◌, ℕ, ℤ, List, length, Option}
use Rattle.affine_ast.specs.declared.name.Name.{Name}
use Rattle.walk_program.specs.Names.{AreDistinct}
use Rattle.walk_actions.specs.declared.action.Home.{Home}

-- the names of a module; the number that each has, and the memref that it stands for, at its own number; how many
-- allocations stand before in the text
pub record Bindings : Type 0 where
  pub names : List Name
  pub known : List (Option ℤ)
  pub homes : List (Option Home)
  pub fasts : ℕ
  pub tags : ℕ

-- each name has one number, and an entry in both lists
pub record HasEntries (b : Bindings) : Type 0 where
  pub distinct : AreDistinct b.names
  pub known : length b.known ≡ length b.names
  pub homes : length b.homes ≡ length b.names
