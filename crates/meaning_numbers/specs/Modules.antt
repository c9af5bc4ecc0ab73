-- Small modules.
use Rattle.std.specs.Prelude.{ℕ, ℤ, pos, false, List, [], ◌∷◌, ◌++◌, Some, None, codes}
use Rattle.affine_expr.specs.declared.expr.Expr.{Expr, Dim, Const, Add, Sub, Mod}
use Rattle.affine_ast.specs.declared.name.Name.{Name}
use Rattle.affine_ast.specs.declared.image.Image.{Image}
use Rattle.affine_ast.specs.declared.image.Cells.{Cells}
use Rattle.affine_ast.specs.declared.module.Arg.{Arg}
use Rattle.affine_ast.specs.declared.module.ArgKind.TheVariants.{Memref}
use Rattle.affine_ast.specs.declared.module.Module.{Module}
use Rattle.affine_ast.specs.declared.types.Access.{Access}
use Rattle.affine_ast.specs.declared.types.Bound.TheVariants.{Int}
use Rattle.affine_ast.specs.declared.types.Element.{Element}
use Rattle.affine_ast.specs.declared.types.Element.TheVariants.{I8, I32}
use Rattle.affine_expr.specs.declared.map.Rel.TheVariants as rel
use Rattle.affine_ast.specs.declared.types.Bound.{Bound}
use Rattle.affine_ast.specs.declared.types.MemrefType.{MemrefType}
use Rattle.affine_ast.specs.declared.types.Scalar.TheVariants as scalar
use Rattle.affine_ast.specs.declared.stmt.Stmt.{Stmt}
use Rattle.affine_ast.specs.declared.stmt.What.{What, For, If, Load, Store, Constant, Binary, Alloc, Dealloc, Start, Wait, Return}
use Rattle.int_ops.specs.declared.operation.Op.{Op}
use Rattle.int_ops.specs.declared.operation.Op.TheVariants as op

-- a name of the text
abbrev pub named : List ℕ → Name
named text = record { text = text; made = false }

-- a statement of no line
abbrev pub stmt : What → Stmt
stmt w = record { line = 0; what = w }

abbrev pub slow : ℕ → Element → MemrefType
slow n element = record { sizes = n ∷ []; element = element; space = 0 }

abbrev pub memref_arg : Name → MemrefType → Arg
memref_arg n ty = record { name = n; kind = Memref ty; line = 1 }

-- one subscript, over one dimension
abbrev pub at : Expr → Name → Access
at e n = record { map = record { dims = 1; syms = 0; results = e ∷ [] }; operands = n ∷ [] }

abbrev pub A : Name
A = named (codes "A")

abbrev pub B : Name
B = named (codes "B")

abbrev pub i : Name
i = named (codes "i")

abbrev pub zero_ : Name
zero_ = named (codes "0")

abbrev pub one_ : Name
one_ = named (codes "1")

abbrev pub c : Name
c = named (codes "c")

abbrev pub load_a : Stmt
load_a = stmt (Load zero_ A (at (Dim 0) i) (slow 8 I32))

abbrev pub one_more : Stmt
one_more = stmt (Constant c (pos 1) (scalar.Int I32))

abbrev pub add_one : Stmt
add_one = stmt (Binary one_ op.Add zero_ c (scalar.Int I32))

abbrev pub store_b : Stmt
store_b = stmt (Store one_ B (at (Dim 0) i) (slow 8 I32))

-- each number of A, raised by one, goes to B: the turns up to `high`
abbrev pub raise : ℤ → Module
raise high = record {
  name = codes "inc";
  args = memref_arg A (slow 8 I32) ∷ memref_arg B (slow 8 I32) ∷ [];
  body =
      stmt (For i (Int (pos 0)) (Int high) (pos 1) (
      load_a ∷ one_more ∷ add_one ∷ store_b ∷ []))
      ∷ stmt Return ∷ [];
}

abbrev pub image : List (List ℤ) → Image
image rows = record { memrefs = cells rows; symbols = [] }
  where
    cells : List (List ℤ) → List Cells
    cells [] = []
    cells (r ∷ rs) = record { values = r } ∷ cells rs

-- where i is even, 7 goes to A
abbrev pub evens : Module
evens = record {
  name = codes "evens";
  args = memref_arg A (slow 8 I32) ∷ [];
  body =
      stmt (For i (Int (pos 0)) (Int (pos 8)) (pos 1) (
      stmt (Constant c (pos 7) (scalar.Int I32))
      ∷ stmt (If (record { dims = 1; syms = 0; rows = record { left = Mod (Dim 0) (Const (pos 2)); rel = rel.Eq; right = Const (pos 0) } ∷ [] }) (i ∷ [])
      (stmt (Store c A (at (Dim 0) i) (slow 8 I32)) ∷ []) None) ∷ []))
      ∷ stmt Return ∷ [];
}

-- one operation on the first elements of A and B, whose result goes to A
abbrev pub operates : Op → Element → Module
operates o element = record {
  name = codes "operates";
  args = memref_arg A (slow 1 element) ∷ memref_arg B (slow 1 element) ∷ [];
  body =
      stmt (For i (Int (pos 0)) (Int (pos 1)) (pos 1) (
      stmt (Load zero_ A (at (Dim 0) i) (slow 1 element))
      ∷ stmt (Load one_ B (at (Dim 0) i) (slow 1 element))
      ∷ stmt (Binary c o zero_ one_ (scalar.Int element))
      ∷ stmt (Store c A (at (Dim 0) i) (slow 1 element)) ∷ []))
      ∷ stmt Return ∷ [];
}

-- a loop from the greatest to the least of two results, which counts its turns into A
abbrev pub bounds : Bound → Bound → Module
bounds low high = record {
  name = codes "bounds";
  args = memref_arg A (slow 8 I32) ∷ [];
  body =
      stmt (For i low high (pos 3) (
      stmt (Constant c (pos 1) (scalar.Int I32))
      ∷ stmt (Store c A (at (Dim 0) i) (slow 8 I32)) ∷ []))
      ∷ stmt Return ∷ [];
}

-- the results of a map without operands
abbrev pub at_numbers : List Expr → Access
at_numbers es = record { map = record { dims = 0; syms = 0; results = es }; operands = [] }

abbrev pub F : Name
F = named (codes "F")

abbrev pub T : Name
T = named (codes "T")

abbrev pub n : Name
n = named (codes "n")

abbrev pub s : Name
s = named (codes "s")

abbrev pub k : Name
k = named (codes "k")

abbrev pub five : Name
five = named (codes "five")

abbrev pub fast : List ℕ → Element → MemrefType
fast sizes element = record { sizes = sizes; element = element; space = 1 }

abbrev pub tags : MemrefType
tags = record { sizes = 1 ∷ []; element = I32; space = 2 }

abbrev pub first_of_all : Access
first_of_all = at_numbers (Const (pos 0) ∷ [])

abbrev pub half_of_all : Access
half_of_all = at_numbers (Const (pos 0) ∷ Const (pos 0) ∷ [])

-- the start of a transfer of so many elements from A to one half of four cells
abbrev pub begin : ℤ → List Stmt
begin count =
    stmt (Alloc F (fast (1 ∷ 4 ∷ []) I32))
    ∷ stmt (Alloc T tags)
    ∷ stmt (Constant n count scalar.Index)
    ∷ stmt (Start A first_of_all F half_of_all T first_of_all n None (slow 4 I32 ∷ fast (1 ∷ 4 ∷ []) I32 ∷ tags ∷ [])) ∷ []

abbrev pub wait_for : Name → Stmt
wait_for count = stmt (Wait T first_of_all count tags)

abbrev pub finish : List Stmt
finish = stmt (Dealloc F (fast (1 ∷ 4 ∷ []) I32)) ∷ stmt (Dealloc T tags) ∷ stmt Return ∷ []

-- a transfer with other statements behind its start
abbrev pub transfer : ℤ → List Stmt → Module
transfer count middle = record { name = codes "t"; args = memref_arg A (slow 4 I32) ∷ []; body = begin count ++ (middle ++ finish) }

abbrev pub load_half : Stmt
load_half = stmt (Load zero_ F half_of_all (fast (1 ∷ 4 ∷ []) I32))

abbrev pub start_again : Stmt
start_again = stmt (Start A first_of_all F half_of_all T first_of_all n None (slow 4 I32 ∷ fast (1 ∷ 4 ∷ []) I32 ∷ tags ∷ []))

-- the constant 5 goes to the first element of A
abbrev pub store_slow : List Stmt
store_slow = stmt (Constant five (pos 5) (scalar.Int I32)) ∷ stmt (Store five A first_of_all (slow 4 I32)) ∷ []

-- another count to wait for
abbrev pub other_count : Stmt
other_count = stmt (Constant k (pos 3) scalar.Index)

-- of 2 x 4 elements the middle two of each row, out of fast memory where the filler stands
abbrev pub strided : Module
strided = record {
  name = codes "strided";
  args = memref_arg A (record { sizes = 2 ∷ 4 ∷ []; element = I8; space = 0 }) ∷ [];
  body =
      stmt (Alloc F (fast (1 ∷ 4 ∷ []) I8))
      ∷ stmt (Alloc T tags)
      ∷ stmt (Constant n (pos 4) scalar.Index)
      ∷ stmt (Constant s (pos 4) scalar.Index)
      ∷ stmt (Constant k (pos 2) scalar.Index)
      ∷ stmt (Start F half_of_all A (at_numbers (Const (pos 0) ∷ Const (pos 1) ∷ [])) T first_of_all n (Some (s, k)) (fast (1 ∷ 4 ∷ []) I8 ∷ record { sizes = 2 ∷ 4 ∷ []; element = I8; space = 0 } ∷ tags ∷ []))
      ∷ wait_for n
      ∷ stmt (Dealloc F (fast (1 ∷ 4 ∷ []) I8)) ∷ stmt (Dealloc T tags) ∷ stmt Return ∷ [];
}

-- four loops inside one another round one constant
abbrev pub deep : Module
deep = record {
  name = codes "deep";
  args = [];
  body = stmt (round i (stmt (round n (stmt (round s (stmt (round k (stmt (Constant c (pos 1) (scalar.Int I32)) ∷ [])) ∷ [])) ∷ [])) ∷ [])) ∷ stmt Return ∷ [];
}
  where
    round : Name → List Stmt → What
    round v body = For v (Int (pos 0)) (Int (pos 65536)) (pos 1) body

-- the names of copies
abbrev pub copy : List ℕ → Name
copy digits = named (codes "copy" ++ digits)

abbrev pub half : Name → Access
half v = record { map = record { dims = 1; syms = 0; results = Const (pos 0) ∷ Dim 0 ∷ [] }; operands = v ∷ [] }

-- `raise` with its memrefs copied into fast memory round the loop
abbrev pub staged_raise : List Stmt
staged_raise =
    stmt (Alloc (copy (codes "0")) (fast (1 ∷ 8 ∷ []) I32))
    ∷ stmt (For (copy (codes "1")) (Int (pos 0)) (Int (pos 8)) (pos 1) (
    stmt (Load (copy (codes "2")) A (at (Dim 0) (copy (codes "1"))) (slow 8 I32))
    ∷ stmt (Store (copy (codes "2")) (copy (codes "0")) (half (copy (codes "1"))) (fast (1 ∷ 8 ∷ []) I32)) ∷ []))
    ∷ stmt (Alloc (copy (codes "3")) (fast (1 ∷ 8 ∷ []) I32))
    ∷ stmt (For (copy (codes "4")) (Int (pos 0)) (Int (pos 8)) (pos 1) (
    stmt (Load (copy (codes "5")) B (at (Dim 0) (copy (codes "4"))) (slow 8 I32))
    ∷ stmt (Store (copy (codes "5")) (copy (codes "3")) (half (copy (codes "4"))) (fast (1 ∷ 8 ∷ []) I32)) ∷ []))
    ∷ stmt (For i (Int (pos 0)) (Int (pos 8)) (pos 1) (
    stmt (Load zero_ (copy (codes "0")) (half i) (fast (1 ∷ 8 ∷ []) I32))
    ∷ stmt (Constant c (pos 1) (scalar.Int I32))
    ∷ stmt (Binary one_ op.Add zero_ c (scalar.Int I32))
    ∷ stmt (Store one_ (copy (codes "3")) (half i) (fast (1 ∷ 8 ∷ []) I32)) ∷ []))
    ∷ stmt (For (copy (codes "6")) (Int (pos 0)) (Int (pos 8)) (pos 1) (
    stmt (Load (copy (codes "7")) (copy (codes "3")) (half (copy (codes "6"))) (fast (1 ∷ 8 ∷ []) I32))
    ∷ stmt (Store (copy (codes "7")) B (at (Dim 0) (copy (codes "6"))) (slow 8 I32)) ∷ []))
    ∷ stmt (Dealloc (copy (codes "3")) (fast (1 ∷ 8 ∷ []) I32))
    ∷ stmt (Dealloc (copy (codes "0")) (fast (1 ∷ 8 ∷ []) I32))
    ∷ stmt Return ∷ []

-- the turns from 2 up to 5 alone
abbrev pub raise_part : Module
raise_part = record (raise (pos 5)) { body = stmt (For i (Int (pos 2)) (Int (pos 5)) (pos 1) (load_a ∷ one_more ∷ add_one ∷ store_b ∷ [])) ∷ stmt Return ∷ [] }

-- two behind a turn, and two before it in the half
abbrev pub two_behind : Name → Access
two_behind v = at (Add (Dim 0) (Const (pos 2))) v

abbrev pub half_before : Name → Access
half_before v = record { map = record { dims = 1; syms = 0; results = Const (pos 0) ∷ Sub (Dim 0) (Const (pos 2)) ∷ [] }; operands = v ∷ [] }

-- the same with copies of three elements from place 2 on
abbrev pub staged_part : List Stmt
staged_part =
    stmt (Alloc (copy (codes "0")) (fast (1 ∷ 3 ∷ []) I32))
    ∷ stmt (For (copy (codes "1")) (Int (pos 0)) (Int (pos 3)) (pos 1) (
    stmt (Load (copy (codes "2")) A (two_behind (copy (codes "1"))) (slow 8 I32))
    ∷ stmt (Store (copy (codes "2")) (copy (codes "0")) (half (copy (codes "1"))) (fast (1 ∷ 3 ∷ []) I32)) ∷ []))
    ∷ stmt (Alloc (copy (codes "3")) (fast (1 ∷ 3 ∷ []) I32))
    ∷ stmt (For (copy (codes "4")) (Int (pos 0)) (Int (pos 3)) (pos 1) (
    stmt (Load (copy (codes "5")) B (two_behind (copy (codes "4"))) (slow 8 I32))
    ∷ stmt (Store (copy (codes "5")) (copy (codes "3")) (half (copy (codes "4"))) (fast (1 ∷ 3 ∷ []) I32)) ∷ []))
    ∷ stmt (For i (Int (pos 2)) (Int (pos 5)) (pos 1) (
    stmt (Load zero_ (copy (codes "0")) (half_before i) (fast (1 ∷ 3 ∷ []) I32))
    ∷ stmt (Constant c (pos 1) (scalar.Int I32))
    ∷ stmt (Binary one_ op.Add zero_ c (scalar.Int I32))
    ∷ stmt (Store one_ (copy (codes "3")) (half_before i) (fast (1 ∷ 3 ∷ []) I32)) ∷ []))
    ∷ stmt (For (copy (codes "6")) (Int (pos 0)) (Int (pos 3)) (pos 1) (
    stmt (Load (copy (codes "7")) (copy (codes "3")) (half (copy (codes "6"))) (fast (1 ∷ 3 ∷ []) I32))
    ∷ stmt (Store (copy (codes "7")) B (two_behind (copy (codes "6"))) (slow 8 I32)) ∷ []))
    ∷ stmt (Dealloc (copy (codes "3")) (fast (1 ∷ 3 ∷ []) I32))
    ∷ stmt (Dealloc (copy (codes "0")) (fast (1 ∷ 3 ∷ []) I32))
    ∷ stmt Return ∷ []
