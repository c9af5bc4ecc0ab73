-- Values of maps at the numbers of their operands.
use Rattle.std.specs.Prelude.{ℕ, ◌≤◌, ℤ, List, take, drop, length}
use Rattle.affine_expr.specs.declared.expr.Expr.{Expr}
use Rattle.affine_expr.specs.Bounded.{Evaluable}
use Rattle.affine_expr.specs.Value.{value}
use Rattle.affine_ast.specs.declared.types.Access.{Access}
use Rattle.direct_meaning.specs.Static.{Env, numbers}
use Rattle.valid_laws.specs.Safe.{IsSmall}
use Rattle.walk_program.specs.declared.plain.Subscripts.{Subscripts}
use Rattle.walk_program.specs.Numbered.{Operands}
use Rattle.walk_program.specs.Reading.{access_of}
use Rattle.walk_actions.specs.Bindings.{Bindings}

abbrev pub dims_of : Env → Access → List ℤ
dims_of e at = take at.map.dims (numbers e at.operands)

abbrev pub syms_of : Env → Access → List ℤ
syms_of e at = drop at.map.dims (numbers e at.operands)

-- the value of an expression over the operands of a use
abbrev pub value_in : Env → Access → Expr → ℤ
value_in e at expr = value (dims_of e at) (syms_of e at) expr

-- a use by number, with the names for its numbers
abbrev pub use_of : Bindings → Subscripts → Access
use_of s at = access_of s.names at

-- it may be evaluated at the numbers of the operands, with a small value
pub record HasValue (e : Env) (at : Access) (expr : Expr) : Type 0 where
  pub evaluable : Evaluable (dims_of e at) (syms_of e at) expr
  pub small : IsSmall (value_in e at expr)

-- each operand is the number of a name, with room for their numbers, and the first ones are those of the dimensions
pub record HasRoom (s : Bindings) (room : ℕ) (at : Subscripts) : Type 0 where
  pub operands : Operands (length s.names) room at.operands
  pub dims : at.map.dims ≤ length at.operands
