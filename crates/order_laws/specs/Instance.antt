-- A valid module with a transfer in a loop.
use Rattle.std.specs.Prelude.{ℕ, ◌≤◌, ℤ, pos, false, List, [], ◌∷◌, None, codes}
use Rattle.affine_expr.specs.declared.expr.Expr.{Dim, Const}
use Rattle.affine_ast.specs.declared.name.Name.{Name}
use Rattle.affine_ast.specs.declared.image.Image.{Image}
use Rattle.affine_ast.specs.declared.module.ArgKind.TheVariants.{Memref}
use Rattle.affine_ast.specs.declared.module.Module.{Module}
use Rattle.affine_ast.specs.declared.types.Access.{Access}
use Rattle.affine_ast.specs.declared.types.Bound.TheVariants.{Int}
use Rattle.affine_ast.specs.declared.types.Element.TheVariants.{I32}
use Rattle.affine_ast.specs.declared.types.MemrefType.{MemrefType}
use Rattle.affine_ast.specs.declared.types.Scalar.TheVariants as scalar
use Rattle.affine_ast.specs.declared.stmt.Stmt.{Stmt}
use Rattle.affine_ast.specs.declared.stmt.What.{What, For, Constant, Alloc, Dealloc, Start, Wait, Return}
use Rattle.affine_ast.specs.Validity.{IsValid}
use Rattle.direct_meaning.specs.Memory.{Fits, module_actions}
use Rattle.order_meaning.specs.Law.{OrdersAgree}

abbrev pub named : List ℕ → Name
named text = record { text = text; made = false }

abbrev pub stmt : What → Stmt
stmt w = record { line = 0; what = w }

abbrev pub A : Name
A = named (codes "A")

abbrev pub F : Name
F = named (codes "F")

abbrev pub T : Name
T = named (codes "T")

abbrev pub i : Name
i = named (codes "i")

abbrev pub n : Name
n = named (codes "n")

abbrev pub four : MemrefType
four = record { sizes = 4 ∷ []; element = I32; space = 0 }

abbrev pub half : MemrefType
half = record { sizes = 1 ∷ 2 ∷ []; element = I32; space = 1 }

abbrev pub tag : MemrefType
tag = record { sizes = 1 ∷ []; element = I32; space = 2 }

abbrev pub first_of_all : Access
first_of_all = record { map = record { dims = 0; syms = 0; results = Const (pos 0) ∷ [] }; operands = [] }

abbrev pub half_of_all : Access
half_of_all = record { map = record { dims = 0; syms = 0; results = Const (pos 0) ∷ Const (pos 0) ∷ [] }; operands = [] }

-- the place of the loop's turn
abbrev pub turn : Access
turn = record { map = record { dims = 1; syms = 0; results = Dim 0 ∷ [] }; operands = i ∷ [] }

-- twice two elements go out of a fresh half, to the places from the turn on
abbrev pub twice_out : Module
twice_out = record {
  name = codes "twice";
  args = record { name = A; kind = Memref four; line = 0 } ∷ [];
  body =
      stmt (Alloc F half)
      ∷ stmt (Alloc T tag)
      ∷ stmt (Constant n (pos 2) scalar.Index)
      ∷ stmt (For i (Int (pos 0)) (Int (pos 2)) (pos 1) (
      stmt (Start F half_of_all A turn T first_of_all n None (half ∷ four ∷ tag ∷ []))
      ∷ stmt (Wait T first_of_all n tag) ∷ []))
      ∷ stmt (Dealloc T tag) ∷ stmt (Dealloc F half) ∷ stmt Return ∷ [];
}

abbrev pub memory : Image
memory = record { memrefs = record { values = pos 1 ∷ pos 2 ∷ pos 3 ∷ pos 4 ∷ [] } ∷ []; symbols = [] }

pub record TwiceOut : Type 0 where
  pub valid : IsValid twice_out
  pub fits : Fits twice_out memory
  pub agree : (filler : ℤ) (capacity engines : ℕ) → 1 ≤ engines
      → OrdersAgree filler capacity (module_actions twice_out []) memory engines
