-- A large input for each number: the product of two square matrices, in tiles of 8 rows, columns and terms, and its memory.
use Rattle.std.specs.Prelude.{ℕ, ◌+◌, ◌*◌, ◌%◌, pos, false, List, [], ◌∷◌, ◌++◌, map, codes}
use Rattle.std.specs.List.{flat_map, range_with_len}
use Rattle.affine_expr.specs.declared.expr.Expr.{Expr, Dim, Const, Add}
use Rattle.int_ops.specs.declared.operation.Op.{Op}
use Rattle.int_ops.specs.declared.operation.Op.TheVariants as op
use Rattle.affine_ast.specs.declared.name.Name.{Name}
use Rattle.affine_ast.specs.declared.image.Cells.{Cells}
use Rattle.affine_ast.specs.declared.image.Image.{Image}
use Rattle.affine_ast.specs.declared.module.Arg.{Arg}
use Rattle.affine_ast.specs.declared.module.ArgKind.TheVariants.{Memref}
use Rattle.affine_ast.specs.declared.module.Module.{Module}
use Rattle.affine_ast.specs.declared.types.Access.{Access}
use Rattle.affine_ast.specs.declared.types.Bound.{Bound}
use Rattle.affine_ast.specs.declared.types.Bound.TheVariants as bound
use Rattle.affine_ast.specs.declared.types.Element.TheVariants.{I32}
use Rattle.affine_ast.specs.declared.types.MemrefType.{MemrefType}
use Rattle.affine_ast.specs.declared.types.Scalar.TheVariants as scalar
use Rattle.affine_ast.specs.declared.stmt.Stmt.{Stmt}
use Rattle.affine_ast.specs.declared.stmt.What as what
use Rattle.affine_ast.specs.declared.stmt.What.{What}

-- the rows and the columns of each matrix
abbrev pub size_of : ℕ → ℕ
size_of number = 24 + 8 * (number % 6)

-- ---- The module

abbrev pub named : List ℕ → Name
named text = record { text = text; made = false }

abbrev pub matrix : ℕ → MemrefType
matrix n = record { sizes = n ∷ n ∷ []; element = I32; space = 0 }

abbrev pub statement : ℕ → What → Stmt
statement line what = record { line = line; what = what }

-- the element at a row and a column, each the value of a loop's variable
abbrev pub at : List ℕ → List ℕ → Access
at row column = record { map = record { dims = 2; syms = 0; results = Dim 0 ∷ Dim 1 ∷ [] }; operands = named row ∷ named column ∷ [] }

-- a bound that is an expression of one variable
abbrev pub bound_by : Expr → List ℕ → Bound
bound_by expr tile = bound.Map (record { map = record { dims = 1; syms = 0; results = expr ∷ [] }; operands = named tile ∷ [] })

-- the end of the 8 turns of a tile
abbrev pub tile_end : Expr
tile_end = Add (Dim 0) (Const (pos 8))

-- a loop over the tiles, and one over the turns of a tile
abbrev pub over_tiles : ℕ → ℕ → List ℕ → List Stmt → Stmt
over_tiles n line tile body = statement line (what.For (named tile) (bound.Int (pos 0)) (bound.Int (pos n)) (pos 8) body)

abbrev pub within_tile : ℕ → List ℕ → List ℕ → List Stmt → Stmt
within_tile line turn tile body = statement line (what.For (named turn) (bound_by (Dim 0) tile) (bound_by tile_end tile) (pos 1) body)

abbrev pub load : ℕ → ℕ → List ℕ → List ℕ → List ℕ → List ℕ → Stmt
load n line result memref row column = statement line (what.Load (named result) (named memref) (at row column) (matrix n))

abbrev pub store : ℕ → ℕ → List ℕ → List ℕ → List ℕ → List ℕ → Stmt
store n line value memref row column = statement line (what.Store (named value) (named memref) (at row column) (matrix n))

abbrev pub operation : ℕ → List ℕ → Op → List ℕ → List ℕ → Stmt
operation line result op left right = statement line (what.Binary (named result) op (named left) (named right) (scalar.Int I32))

abbrev pub loads : ℕ → List Stmt
loads n =
    load n 10 (codes "a") (codes "A") (codes "i") (codes "k")
    ∷ load n 11 (codes "b") (codes "B") (codes "k") (codes "j")
    ∷ load n 12 (codes "c") (codes "C") (codes "i") (codes "j") ∷ []

-- C[i, j] is raised by A[i, k] times B[k, j]
abbrev pub term : ℕ → List Stmt
term n =
    loads n ++ operation 13 (codes "p") op.Mul (codes "a") (codes "b")
    ∷ operation 14 (codes "s") op.Add (codes "c") (codes "p")
    ∷ store n 15 (codes "s") (codes "C") (codes "i") (codes "j") ∷ []

abbrev pub turns : ℕ → List Stmt
turns n =
    within_tile 7 (codes "i") (codes "it") (
    within_tile 8 (codes "j") (codes "jt") (
    within_tile 9 (codes "k") (codes "kt") (term n) ∷ []) ∷ []) ∷ []

abbrev pub tiles : ℕ → Stmt
tiles n =
    over_tiles n 4 (codes "it") (
    over_tiles n 5 (codes "jt") (
    over_tiles n 6 (codes "kt") (turns n) ∷ []) ∷ [])

abbrev pub argument : ℕ → List ℕ → Arg
argument n name = record { name = named name; kind = Memref (matrix n); line = 3 }

abbrev pub arguments : ℕ → List Arg
arguments n = argument n (codes "A") ∷ argument n (codes "B") ∷ argument n (codes "C") ∷ []

-- the product of two matrices of so many rows and columns, as it is read where two aliases stand before it
abbrev pub product : ℕ → Module
product n = record {
  name = codes "mm";
  args = arguments n;
  body = tiles n ∷ statement 22 what.Return ∷ [];
}

-- ---- The memory

-- the elements of a matrix, row by row, each by its row and its column
abbrev pub cells : ℕ → (ℕ → ℕ → ℕ) → Cells
cells n element = record { values = flat_map (λ i. map (λ j. pos (element i j)) (range_with_len 0 n)) (range_with_len 0 n) }

abbrev pub in_a : ℕ → ℕ → ℕ → ℕ → ℕ
in_a number n i j = (i * n + j + number) % 7

abbrev pub in_b : ℕ → ℕ → ℕ
in_b i j = (i + 2 * j) % 3

abbrev pub in_c : ℕ → ℕ → ℕ
in_c i j = 0

abbrev pub memory : ℕ → ℕ → Image
memory number n = record { memrefs = cells n (in_a number n) ∷ cells n in_b ∷ cells n in_c ∷ []; symbols = [] }
