-- Modules that may be written: what the grammar asks of a module, so that its printed text spells it.
use Rattle.std.specs.Prelude.{◌≡◌, ℕ, zero, suc, ◌+◌, ◌≤◌, ◌<◌, ◌^◌, ℤ, pos, negsuc, false, ◌⊎◌, List, [], ◌∷◌, ◌++◌, length, take, drop, Option, Some, None, slice_get}
use Rattle.std.specs.List.{flat_map}
use Rattle.affine_lex.specs.Tokens.{IsId, IsDigits}
use Rattle.affine_expr.specs.declared.expr.Expr.{Expr, fold-Expr}
use Rattle.affine_expr.specs.declared.expr.Expr.TheOpen.{Expr-F}
use Rattle.affine_expr.specs.declared.map.Constraint.{Constraint}
use Rattle.affine_expr.specs.declared.map.Set.{Set}
use Rattle.affine_ast.specs.declared.module.Arg.{Arg}
use Rattle.affine_ast.specs.declared.module.ArgKind.{ArgKind}
use Rattle.affine_ast.specs.declared.module.ArgKind.TheVariants as kind
use Rattle.affine_ast.specs.declared.module.Module.{Module}
use Rattle.affine_ast.specs.declared.name.Name.{Name}
use Rattle.affine_ast.specs.declared.types.Access.{Access}
use Rattle.affine_ast.specs.declared.types.Bound.{Bound}
use Rattle.affine_ast.specs.declared.types.Bound.TheVariants as bound
use Rattle.affine_ast.specs.declared.types.MemrefType.{MemrefType}
use Rattle.affine_ast.specs.Nest.{Plain, Value, Load, Store, RawLoad, RawStore, Constant, Binary, Cast, Alloc, Dealloc, Start, Wait, Return, Nest, Nothing, Loop, Branch, Does, followed_by, nest}
use Rattle.printed_texts.specs.Nesting.{printed_nesting}

-- ---- names, integers and types

-- the name of a value, without its sign
abbrev pub IsValueName : List ℕ → Type 0
IsValueName w = IsId w ⊎ IsDigits w

-- a name as a text has it: no template made it
pub record IsWritten (n : Name) : Type 0 where
  pub made : n.made ≡ false
  pub form : IsValueName n.text

abbrev pub AllWritten : List Name → Type 0
AllWritten [] = Unit {0}
AllWritten (n ∷ names) = IsWritten n × AllWritten names

-- an integer in the range of 64 bits
pub data InRange (z : ℤ) : Type 0 where
  Positive : (n : ℕ) → z ≡ pos n → n ≤ 9223372036854775807 → InRange z
  Negative : (n : ℕ) → z ≡ negsuc n → suc n ≤ 9223372036854775808 → InRange z

-- an integer that isn't negative, in that range
pub record IsPositive (z : ℤ) : Type 0 where
  pub magnitude : ℕ
  pub is : z ≡ pos magnitude
  pub small : magnitude ≤ 9223372036854775807

-- sizes of 32 bits
abbrev pub AllSmall : List ℕ → Type 0
AllSmall [] = Unit {0}
AllSmall (n ∷ ns) = (n ≤ 4294967295) × AllSmall ns

-- a type whose sizes and space the grammar has
pub record TypeFits (ty : MemrefType) : Type 0 where
  pub sizes : AllSmall ty.sizes
  pub space : ty.space ≤ 255

-- ---- expressions

-- an operand of an expression
pub data Operand : Type 0 where
  Dimension : ℕ → Operand
  Symbol : ℕ → Operand
  Integer : ℤ → Operand

abbrev pub operands_step : Expr-F (List Operand) → List Operand
operands_step (Expr-F.Dim n) = Dimension n ∷ []
operands_step (Expr-F.Sym n) = Symbol n ∷ []
operands_step (Expr-F.Const z) = Integer z ∷ []
operands_step (Expr-F.Neg a) = a
operands_step (Expr-F.Add a b) = a ++ b
operands_step (Expr-F.Sub a b) = a ++ b
operands_step (Expr-F.Mul a b) = a ++ b
operands_step (Expr-F.FloorDiv a b) = a ++ b
operands_step (Expr-F.CeilDiv a b) = a ++ b
operands_step (Expr-F.Mod a b) = a ++ b

-- the operands of an expression, in the order of its text
unfoldable pub operands_of : Expr → List Operand
operands_of = fold-Expr (List Operand) operands_step

-- one of so many dimensions and symbols, or an integer of 64 bits
abbrev pub OperandFits : ℕ → ℕ → Operand → Type 0
OperandFits dims syms (Dimension n) = n < dims
OperandFits dims syms (Symbol n) = n < syms
OperandFits dims syms (Integer z) = InRange z

abbrev pub OperandsFit : ℕ → ℕ → List Operand → Type 0
OperandsFit dims syms [] = Unit {0}
OperandsFit dims syms (x ∷ xs) = OperandFits dims syms x × OperandsFit dims syms xs

-- at most 256 operands, and 128 parentheses and negations inside one another in the printed spelling
pub record IsWithin (e : Expr) : Type 0 where
  pub operands : length (operands_of e) ≤ 256
  pub nesting : printed_nesting e ≤ 128

-- an expression over so many parameters
pub record ExpressionFits (dims syms : ℕ) (e : Expr) : Type 0 where
  pub within : IsWithin e
  pub operands : OperandsFit dims syms (operands_of e)

abbrev pub ExpressionsFit : ℕ → ℕ → List Expr → Type 0
ExpressionsFit dims syms [] = Unit {0}
ExpressionsFit dims syms (e ∷ es) = ExpressionFits dims syms e × ExpressionsFit dims syms es

abbrev pub RowsFit : ℕ → ℕ → List Constraint → Type 0
RowsFit dims syms [] = Unit {0}
RowsFit dims syms (row ∷ rows) =
    ExpressionFits dims syms row.left × ExpressionFits dims syms row.right × RowsFit dims syms rows

-- how many operands expressions have
abbrev pub operands_in : List Expr → ℕ
operands_in [] = 0
operands_in (e ∷ es) = length (operands_of e) + operands_in es

abbrev pub operands_in_rows : List Constraint → ℕ
operands_in_rows [] = 0
operands_in_rows (row ∷ rows) = length (operands_of row.left) + (length (operands_of row.right) + operands_in_rows rows)

-- ---- uses

-- so many names of a text, for as many parameters; the parameters can be numbered
pub record NamesFit (dims syms : ℕ) (names : List Name) : Type 0 where
  pub count : length names ≡ dims + syms
  pub written : AllWritten names
  pub few_dims : dims < 2 ^ 64
  pub few_syms : syms < 2 ^ 64

-- a map with its operands, of one to eight results
pub record UseFits (at : Access) : Type 0 where
  pub some : 1 ≤ length at.map.results
  pub most : length at.map.results ≤ 8
  pub results : ExpressionsFit at.map.dims at.map.syms at.map.results
  pub operands : NamesFit at.map.dims at.map.syms at.operands

-- a set with its operands, of one to sixteen rows
pub record ConditionFits (set : Set) (names : List Name) : Type 0 where
  pub some : 1 ≤ length set.rows
  pub most : length set.rows ≤ 16
  pub rows : RowsFit set.dims set.syms set.rows
  pub operands : NamesFit set.dims set.syms names

-- Dimensions and symbols appear in the order of their numbers: behind so many of each, an operand is one of these or the
-- next. The last two numbers say how many there are then.
abbrev pub Appear : ℕ → ℕ → List Operand → ℕ → ℕ → Type 0
Appear n k [] m l = (n ≡ m) × (k ≡ l)
Appear n k (Dimension i ∷ xs) m l = ((i < n) × Appear n k xs m l) ⊎ ((i ≡ n) × Appear (suc n) k xs m l)
Appear n k (Symbol i ∷ xs) m l = ((i < k) × Appear n k xs m l) ⊎ ((i ≡ k) × Appear n (suc k) xs m l)
Appear n k (Integer z ∷ xs) m l = InRange z × Appear n k xs m l

-- no name stands twice
abbrev pub AreApart : List Name → Type 0
AreApart names =
    (i j : ℕ) (a b : Name) → slice_get names i ≡ Some a → slice_get names j ≡ Some b → a.text ≡ b.text → i ≡ j

abbrev pub AllWithin : List Expr → Type 0
AllWithin [] = Unit {0}
AllWithin (e ∷ es) = IsWithin e × AllWithin es

-- Subscripts: a text has the values themselves, so a map of subscripts numbers its dimensions and its symbols by first
-- appearance.
pub record SubscriptsFit (at : Access) : Type 0 where
  pub most : length at.map.results ≤ 8
  pub within : AllWithin at.map.results
  pub order : Appear 0 0 (flat_map operands_of at.map.results) at.map.dims at.map.syms
  pub count : length at.operands ≡ at.map.dims + at.map.syms
  pub written : AllWritten at.operands
  pub dims : AreApart (take at.map.dims at.operands)
  pub syms : AreApart (drop at.map.dims at.operands)

-- ---- statements

abbrev pub BoundFits : Bound → Type 0
BoundFits (bound.Int z) = InRange z
BoundFits (bound.Value n) = IsWritten n
BoundFits (bound.Map at) = UseFits at

abbrev pub StrideWritten : Option (Name × Name) → Type 0
StrideWritten None = Unit {0}
StrideWritten (Some p) = IsWritten p.0 × IsWritten p.1

abbrev pub ThreeFit : List MemrefType → Type 0
ThreeFit (t ∷ u ∷ v ∷ []) = TypeFits t × TypeFits u × TypeFits v
ThreeFit _ = ⊥

-- a statement without regions; the function's `return` is none of these
abbrev pub PlainFits : Plain → Type 0
PlainFits (Value r pick at) = IsWritten r × UseFits at
PlainFits (Load r m at ty) = IsWritten r × IsWritten m × SubscriptsFit at × TypeFits ty
PlainFits (Store x m at ty) = IsWritten x × IsWritten m × SubscriptsFit at × TypeFits ty
PlainFits (RawLoad r m at ty) = IsWritten r × IsWritten m × AllWritten at × TypeFits ty
PlainFits (RawStore x m at ty) = IsWritten x × IsWritten m × AllWritten at × TypeFits ty
PlainFits (Constant r z ty) = IsWritten r × InRange z
PlainFits (Binary r op a b ty) = IsWritten r × IsWritten a × IsWritten b
PlainFits (Cast r kind x from to) = IsWritten r × IsWritten x
PlainFits (Alloc r ty) = IsWritten r × TypeFits ty
PlainFits (Dealloc m ty) = IsWritten m × TypeFits ty
PlainFits (Start a aa b bb t ta n stride types) =
    (IsWritten a × SubscriptsFit aa) × (IsWritten b × SubscriptsFit bb) × (IsWritten t × SubscriptsFit ta) × IsWritten n
    × StrideWritten stride × ThreeFit types
PlainFits (Wait t at n ty) = IsWritten t × SubscriptsFit at × IsWritten n × TypeFits ty
PlainFits Return = ⊥

-- statements with at most so many regions inside one another
abbrev pub StatementsFit : ℕ → Nest → Type 0
StatementsFit left Nothing = Unit {0}
StatementsFit zero (Loop line v lower upper s body rest) = ⊥
StatementsFit (suc left) (Loop line v lower upper s body rest) =
    IsWritten v × BoundFits lower × BoundFits upper × IsPositive s
    × StatementsFit left body × StatementsFit (suc left) rest
StatementsFit zero (Branch line set names first has other rest) = ⊥
StatementsFit (suc left) (Branch line set names first has other rest) =
    ConditionFits set names × StatementsFit left first × StatementsFit left other × StatementsFit (suc left) rest
StatementsFit left (Does line p rest) = PlainFits p × StatementsFit left rest

-- the operands of the expressions in statements
abbrev pub operands_in_use : Access → ℕ
operands_in_use at = operands_in at.map.results

abbrev pub operands_in_bound : Bound → ℕ
operands_in_bound (bound.Int z) = 0
operands_in_bound (bound.Value n) = 0
operands_in_bound (bound.Map at) = operands_in_use at

abbrev pub operands_in_plain : Plain → ℕ
operands_in_plain (Value r pick at) = operands_in_use at
operands_in_plain (Load r m at ty) = operands_in_use at
operands_in_plain (Store x m at ty) = operands_in_use at
operands_in_plain (RawLoad r m at ty) = 0
operands_in_plain (RawStore x m at ty) = 0
operands_in_plain (Constant r z ty) = 0
operands_in_plain (Binary r op a b ty) = 0
operands_in_plain (Cast r kind x from to) = 0
operands_in_plain (Alloc r ty) = 0
operands_in_plain (Dealloc m ty) = 0
operands_in_plain (Start a aa b bb t ta n stride types) = operands_in_use aa + (operands_in_use bb + operands_in_use ta)
operands_in_plain (Wait t at n ty) = operands_in_use at
operands_in_plain Return = 0

abbrev pub operands_in_nest : Nest → ℕ
operands_in_nest Nothing = 0
operands_in_nest (Loop line v lower upper s body rest) =
    operands_in_bound lower + (operands_in_bound upper + (operands_in_nest body + operands_in_nest rest))
operands_in_nest (Branch line set names first has other rest) =
    operands_in_rows set.rows + (operands_in_nest first + (operands_in_nest other + operands_in_nest rest))
operands_in_nest (Does line p rest) = operands_in_plain p + operands_in_nest rest

-- ---- modules

-- the range of an index, and what an argument is
abbrev pub KindFits : ArgKind → Type 0
KindFits (kind.Memref ty) = TypeFits ty
KindFits (kind.Index None) = Unit {0}
KindFits (kind.Index (Some r)) = InRange r.least × InRange r.greatest

pub record ArgumentFits (a : Arg) : Type 0 where
  pub name : IsWritten a.name
  pub kind : KindFits a.kind

abbrev pub ArgumentsFit : List Arg → Type 0
ArgumentsFit [] = Unit {0}
ArgumentsFit (a ∷ args) = ArgumentFits a × ArgumentsFit args

-- A module that may be written: names are names of the grammar, numbers are in their ranges, and the limits of the grammar
-- are met. Its body is statements and then its `return`, with at most 39 regions inside one another and 1,048,576 operands.
pub record MayBeWritten (m : Module) : Type 0 where
  pub name : IsId m.name
  pub args : ArgumentsFit m.args
  pub stmts : Nest
  pub line : ℕ
  pub body : nest m.body ≡ followed_by stmts (Does line Return Nothing)
  pub fit : StatementsFit 39 stmts
  pub operands : operands_in_nest stmts ≤ 1048576
