-- Actions: executed statements with all that is known before the run put in.
use Rattle.std.specs.Prelude.{ℕ, ℤ, List, Option}
use Rattle.affine_ast.specs.declared.name.Name.{Name}
use Rattle.affine_ast.specs.declared.types.Element.{Element}
use Rattle.int_ops.specs.declared.operation.CastKind.{CastKind}
use Rattle.int_ops.specs.declared.operation.Op.{Op}
use Rattle.bus_model.specs.declared.step.FaultKind.{FaultKind}
use Rattle.bus_model.specs.declared.transfer.Transfer.{Transfer}

-- what a memref's name stands for
pub data Home : Type 0 where
  -- an argument: its number among the memref arguments, and the slow place of its first element
  SlowMemref : ℕ → ℕ → Home
  -- an allocation in space 1: its number among these
  FastMemref : ℕ → Home
  -- an allocation in space 2: the number of its first element among the tags
  TagMemref : ℕ → Home

-- where an access goes
pub data Place : Type 0 where
  -- a slow place, counted through the memref arguments in order
  Slow : ℕ → Place
  -- the number of a fast memref, a half of it, a cell of the half
  Fast : ℕ → ℕ → ℕ → Place
  -- a subscript is outside its size
  Outside : Place

-- a value that is used: a number that was known before the run, or what a name holds
pub data Operand : Type 0 where
  Number : ℤ → Operand
  Register : Name → Operand

-- one execution of a statement other than a loop or a condition
pub data Action : Type 0 where
  -- a constant of type index, or a result of `affine.apply`, `min` or `max`: where it is used its value stands already
  Known : Action
  -- a constant of an integer type
  Sets : Name → ℤ → Action
  Loads : Name → Place → Action
  Stores : Operand → Place → Action
  -- accesses whose subscripts are values: what the memref's name stands for, its sizes, the subscripts
  RawLoads : Name → Option Home → List ℕ → List Operand → Action
  RawStores : Operand → Option Home → List ℕ → List Operand → Action
  -- the result, the operation, its width in bits, the operands
  Operates : Name → Op → ℕ → Operand → Operand → Action
  -- the result, the kind, the widths in bits that it goes from and to, the operand
  Converts : Name → CastKind → ℕ → ℕ → Operand → Action
  -- a fast memref: its number, its element, its sizes, of which the first counts its halves
  Allocates : ℕ → Element → List ℕ → Action
  Releases : ℕ → Element → List ℕ → Action
  -- tags: the number of the first one, and how many
  AllocatesTags : ℕ → ℕ → Action
  ReleasesTags : ℕ → ℕ → Action
  Starts : Transfer → Action
  -- the tag and the count
  Waits : ℕ → ℕ → Action
  -- a start or a wait that its static part makes a fault
  Faults : FaultKind → Action
  Returns : Action
