-- Two small modules, as their texts give them.
use Rattle.std.specs.Prelude.{ℕ, suc, ◌+◌, pos, false, List, [], ◌∷◌, codes}
use Rattle.affine_expr.specs.declared.expr.Expr.{Expr, Dim, Const, Add}
use Rattle.affine_ast.specs.declared.name.Name.{Name}
use Rattle.affine_ast.specs.declared.module.Arg.{Arg}
use Rattle.affine_ast.specs.declared.module.ArgKind.TheVariants.{Memref}
use Rattle.affine_ast.specs.declared.module.Module.{Module}
use Rattle.affine_ast.specs.declared.types.Access.{Access}
use Rattle.affine_ast.specs.declared.types.Bound.TheVariants as bound
use Rattle.affine_ast.specs.declared.types.Element.TheVariants.{I32}
use Rattle.affine_ast.specs.declared.types.MemrefType.{MemrefType}
use Rattle.affine_ast.specs.declared.types.Scalar.TheVariants as scalar
use Rattle.affine_ast.specs.declared.stmt.Stmt.{Stmt}
use Rattle.affine_ast.specs.declared.stmt.What.{What, For, Load, Store, Constant, Binary, Return}
use Rattle.int_ops.specs.declared.operation.Op.TheVariants as op

abbrev pub named : List ℕ → Name
named text = record { text = text; made = false }

abbrev pub A : Name
A = named (codes "A")

abbrev pub B : Name
B = named (codes "B")

abbrev pub it : Name
it = named (codes "it")

abbrev pub i : Name
i = named (codes "i")

abbrev pub loaded : Name
loaded = named (codes "0")

abbrev pub raised : Name
raised = named (codes "1")

abbrev pub c : Name
c = named (codes "c")

abbrev pub stmt : ℕ → What → Stmt
stmt line w = record { line = line; what = w }

abbrev pub slow : ℕ → MemrefType
slow n = record { sizes = n ∷ []; element = I32; space = 0 }

abbrev pub memref_a : ℕ → List Arg
memref_a n = record { name = A; kind = Memref (slow n); line = 1 } ∷ []

-- one result over one dimension
abbrev pub at : Expr → Name → Access
at e n = record { map = record { dims = 1; syms = 0; results = e ∷ [] }; operands = n ∷ [] }

-- A[i] is loaded and stored
abbrev pub moves : ℕ → ℕ → List Stmt
moves size line = stmt line (Load loaded A (at (Dim 0) i) (slow size)) ∷ stmt (suc line) (Store loaded A (at (Dim 0) i) (slow size)) ∷ []

-- A[i] is raised by 1
abbrev pub raises : ℕ → ℕ → List Stmt
raises size line =
    stmt line (Load loaded A (at (Dim 0) i) (slow size))
    ∷ stmt (1 + line) (Constant c (pos 1) (scalar.Int I32))
    ∷ stmt (2 + line) (Binary raised op.Add loaded c (scalar.Int I32))
    ∷ stmt (3 + line) (Store raised A (at (Dim 0) i) (slow size)) ∷ []

-- `affine.for %i = 5 to 5` round a load and a store
abbrev pub no_turn : Module
no_turn = record {
  name = codes "f";
  args = memref_a 8;
  body = stmt 2 (For i (bound.Int (pos 5)) (bound.Int (pos 5)) (pos 1) (moves 8 3)) ∷ stmt 6 Return ∷ [];
}

-- 64 numbers, each raised by 1, in tiles of 16
abbrev pub tiles : Module
tiles = record {
  name = codes "f";
  args = memref_a 64;
  body =
      stmt 2 (For it (bound.Int (pos 0)) (bound.Int (pos 64)) (pos 16) (
      stmt 3 (For i (bound.Map (at (Dim 0) it)) (bound.Map (at (Add (Dim 0) (Const (pos 16))) it)) (pos 1) (raises 64 4)) ∷ []))
      ∷ stmt 10 Return ∷ [];
}

-- each of 8 numbers of A, raised by 1, goes to B
abbrev pub raised_copy : Module
raised_copy = record {
  name = codes "inc";
  args = record { name = A; kind = Memref (slow 8); line = 1 } ∷ record { name = B; kind = Memref (slow 8); line = 1 } ∷ [];
  body =
      stmt 2 (For i (bound.Int (pos 0)) (bound.Int (pos 8)) (pos 1) (
      stmt 3 (Load loaded A (at (Dim 0) i) (slow 8))
      ∷ stmt 4 (Constant c (pos 1) (scalar.Int I32))
      ∷ stmt 5 (Binary raised op.Add loaded c (scalar.Int I32))
      ∷ stmt 6 (Store raised B (at (Dim 0) i) (slow 8)) ∷ []))
      ∷ stmt 8 Return ∷ [];
}
