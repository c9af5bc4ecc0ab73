-- A list of statements as one inductive type, which the definitions of the layers above recurse on: loops and conditions
-- with what stands inside them, every other statement as one plain one, each with what stands after it.
use Rattle.std.specs.Prelude.{ℕ, ℤ, Bool, true, false, List, [], ◌∷◌, Option, Some, None}
use Rattle.affine_expr.specs.declared.map.Set.{Set}
use Rattle.int_ops.specs.declared.operation.CastKind.{CastKind}
use Rattle.int_ops.specs.declared.operation.Op.{Op}
use Rattle.affine_ast.specs.declared.name.Name.{Name}
use Rattle.affine_ast.specs.declared.types.Access.{Access}
use Rattle.affine_ast.specs.declared.types.Bound.{Bound}
use Rattle.affine_ast.specs.declared.types.MemrefType.{MemrefType}
use Rattle.affine_ast.specs.declared.types.Pick.{Pick}
use Rattle.affine_ast.specs.declared.types.Scalar.{Scalar}
use Rattle.affine_ast.specs.declared.stmt.Stmt.{Stmt, fold-Stmt}
use Rattle.affine_ast.specs.declared.stmt.What.{What, fold-What}
use Rattle.affine_ast.specs.declared.stmt.What.TheOpen.{What-F, Stmt-F}

-- a statement with no region inside it
pub data Plain : Type 0 where
  -- the result, which of the map's results it takes, the map and its operands
  Value : Name → Pick → Access → Plain
  -- the result, the memref, the subscripts, the memref's type
  Load : Name → Name → Access → MemrefType → Plain
  -- the stored value, the memref, the subscripts, the memref's type
  Store : Name → Name → Access → MemrefType → Plain
  RawLoad : Name → Name → List Name → MemrefType → Plain
  RawStore : Name → Name → List Name → MemrefType → Plain
  Constant : Name → ℤ → Scalar → Plain
  Binary : Name → Op → Name → Name → Scalar → Plain
  -- the result, the kind, the operand, the type that it comes from and the type that it goes to
  Cast : Name → CastKind → Name → Scalar → Scalar → Plain
  Alloc : Name → MemrefType → Plain
  Dealloc : Name → MemrefType → Plain
  -- source, destination and tag with their subscripts, the count, the stride with the chunk, the three types
  Start : Name → Access → Name → Access → Name → Access → Name → Option (Name × Name) → List MemrefType → Plain
  Wait : Name → Access → Name → MemrefType → Plain
  Return : Plain

-- statements in program order; the number is a statement's line
pub data Nest : Type 0 where
  Nothing : Nest
  -- a loop: variable, lower and upper bound, step, body; then what follows
  Loop : ℕ → Name → Bound → Bound → ℤ → Nest → Nest → Nest
  -- a condition: set, operands, first region, whether there is an else region, that region or nothing; then what follows
  Branch : ℕ → Set → List Name → Nest → Bool → Nest → Nest → Nest
  -- a plain statement; then what follows
  Does : ℕ → Plain → Nest → Nest

-- one list behind another
abbrev pub followed_by : Nest → Nest → Nest
followed_by Nothing b = b
followed_by (Loop line v l u s body rest) b = Loop line v l u s body (followed_by rest b)
followed_by (Branch line set names first has other rest) b = Branch line set names first has other (followed_by rest b)
followed_by (Does line p rest) b = Does line p (followed_by rest b)

-- what puts a statement before others
abbrev pub Puts : Type 0
Puts = Nest → Nest

abbrev pub joined : List Puts → Nest
joined [] = Nothing
joined (put ∷ puts) = put (joined puts)

abbrev pub is_there : Option (List Puts) → Bool
is_there (Some puts) = true
is_there None = false

abbrev pub joined_other : Option (List Puts) → Nest
joined_other (Some puts) = joined puts
joined_other None = Nothing

-- a statement over its parts: with its line, it is put before what follows
abbrev pub put_layer : What-F (ℕ → Puts) Puts → ℕ → Puts
put_layer (What-F.For v l u s body) line rest = Loop line v l u s (joined body) rest
put_layer (What-F.If set names first other) line rest = Branch line set names (joined first) (is_there other) (joined_other other) rest
put_layer (What-F.Value r pick at) line rest = Does line (Value r pick at) rest
put_layer (What-F.Load r m at ty) line rest = Does line (Load r m at ty) rest
put_layer (What-F.Store x m at ty) line rest = Does line (Store x m at ty) rest
put_layer (What-F.RawLoad r m at ty) line rest = Does line (RawLoad r m at ty) rest
put_layer (What-F.RawStore x m at ty) line rest = Does line (RawStore x m at ty) rest
put_layer (What-F.Constant r z ty) line rest = Does line (Constant r z ty) rest
put_layer (What-F.Binary r op a b ty) line rest = Does line (Binary r op a b ty) rest
put_layer (What-F.Cast r kind x from to) line rest = Does line (Cast r kind x from to) rest
put_layer (What-F.Alloc r ty) line rest = Does line (Alloc r ty) rest
put_layer (What-F.Dealloc m ty) line rest = Does line (Dealloc m ty) rest
put_layer (What-F.Start a aa b bb t tt' n stride types) line rest = Does line (Start a aa b bb t tt' n stride types) rest
put_layer (What-F.Wait t at n ty) line rest = Does line (Wait t at n ty) rest
put_layer What-F.Return line rest = Does line Return rest

abbrev pub put_stmt_layer : Stmt-F (ℕ → Puts) Puts → Puts
put_stmt_layer s rest = s.what s.line rest

-- a statement of this line before others
unfoldable pub put_what : What → ℕ → Puts
put_what = fold-What (ℕ → Puts) Puts put_layer put_stmt_layer

unfoldable pub put_stmt : Stmt → Puts
put_stmt = fold-Stmt (ℕ → Puts) Puts put_layer put_stmt_layer

-- the statements of a list
unfoldable pub nest : List Stmt → Nest
nest [] = Nothing
nest (s ∷ ss) = put_stmt s (nest ss)

-- ---- statements without a region

abbrev pub head_plain : Nest → Plain
head_plain (Does line p rest) = p
head_plain n = Return

abbrev pub head_is_region : Nest → Bool
head_is_region (Loop line v l u s body rest) = true
head_is_region (Branch line set names first has other rest) = true
head_is_region n = false

-- a statement as the plain one that it is; a loop or a condition as a `return`, of which nothing is asked
unfoldable pub plain_of : What → Plain
plain_of w = head_plain (put_what w 0 Nothing)

-- whether a statement is a loop or a condition
unfoldable pub is_region : What → Bool
is_region w = head_is_region (put_what w 0 Nothing)
