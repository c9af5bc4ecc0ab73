-- An image that is put together line by line.
use Rattle.std.specs.Prelude.{ℤ, List, [], ◌∷◌, ◌++◌, take}
use Rattle.affine_ast.specs.declared.image.Cells.{Cells}
use Rattle.affine_ast.specs.declared.image.Image.{Image}
use Rattle.affine_ast.specs.declared.module.ArgKind.{ArgKind}
use Rattle.affine_ast.specs.declared.module.ArgKind.TheVariants as kind

-- the numbers of a line at the end: a memref's cells, or an index argument's number
abbrev pub memrefs_with : ArgKind → List ℤ → List Cells → List Cells
memrefs_with (kind.Memref ty) values memrefs = memrefs ++ record { values = values } ∷ []
memrefs_with (kind.Index range) values memrefs = memrefs

abbrev pub symbols_with : ArgKind → List ℤ → List ℤ → List ℤ
symbols_with (kind.Memref ty) values symbols = symbols
symbols_with (kind.Index range) values symbols = symbols ++ take 1 values

abbrev pub image_with : ArgKind → List ℤ → Image → Image
image_with k values image = record { memrefs = memrefs_with k values image.memrefs; symbols = symbols_with k values image.symbols }
