-- Sizes of types: bits of elements and scalars, elements of memrefs.
use Rattle.std.specs.Prelude.{ℕ, ◌*◌, List, [], ◌∷◌}
use Rattle.affine_ast.specs.declared.types.Element.{Element}
use Rattle.affine_ast.specs.declared.types.Element.TheVariants.{I8, I16, I32, I64}
use Rattle.affine_ast.specs.declared.types.Scalar.{Scalar}
use Rattle.affine_ast.specs.declared.types.Scalar.TheVariants.{Int, Index}

abbrev pub element_bits : Element → ℕ
element_bits I8 = 8
element_bits I16 = 16
element_bits I32 = 32
element_bits I64 = 64

-- `index` has 64 bits
abbrev pub scalar_bits : Scalar → ℕ
scalar_bits (Int e) = element_bits e
scalar_bits Index = 64

-- the elements of a memref of these sizes: one where there is no dimension
abbrev pub product : List ℕ → ℕ
product [] = 1
product (n ∷ ns) = n * product ns
