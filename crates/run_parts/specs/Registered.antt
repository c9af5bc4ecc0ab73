-- What registers by number hold for names.
use Rattle.std.specs.Prelude.{◌≡◌, ℕ, ◌≤◌, ℤ, pos, List, map, length, Some, slice_index_or}
use Rattle.affine_ast.specs.declared.name.Name.{Name}
use Rattle.direct_meaning.specs.Static.{number}
use Rattle.walk_program.specs.Names.{AreDistinct}
use Rattle.walk_actions.specs.declared.action.Operand.{Operand}
use Rattle.walk_actions.specs.declared.action.Operand.TheVariants.{Number, Register}
use Rattle.walk_actions.specs.Looked.{looked}

-- the names of a module, and what each holds in their order
pub record Registered : Type 0 where
  pub names : List Name
  pub numbers : List ℤ

-- the value of a name, where the values stand in the order of the names; 0 where the name isn't among them
abbrev pub held : List Name → List ℤ → Name → ℤ
held names values n = number (looked names (map (λ z. Some z) values) n)

-- what each name holds
abbrev pub values_of : Registered → Name → ℤ
values_of r = held r.names r.numbers

-- each name has one register, and the list for subscripts has its seven places
pub record HasRegisters (names : List Name) (values : List ℤ) (places : ℕ) : Type 0 where
  pub distinct : AreDistinct names
  pub registers : length values ≡ length names
  pub room : 7 ≤ places

-- the value of an operand by number
abbrev pub number_of : List ℤ → Operand → ℤ
number_of numbers (Number z) = z
number_of numbers (Register r) = slice_index_or numbers r (pos 0)
