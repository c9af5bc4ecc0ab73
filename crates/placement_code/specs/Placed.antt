-- A placement of the code as the definitions have it.
use Rattle.std.specs.Prelude.{ℕ, ◌^◌, ◌<◌, pos, List, [], ◌∷◌, Option, Some, None}
use Rattle.affine_ast.specs.declared.name.Name.{Name}
use Rattle.affine_ast.specs.declared.stmt.Stmt.{Stmt}
use Rattle.affine_ast.specs.declared.stmt.What as what
use Rattle.affine_ast.specs.declared.types.Scalar.TheVariants.{Index}
use Rattle.affine_ast.specs.Sizes.{product}
use Rattle.made_names.specs.Made.{made_name}
use Rattle.placement_texts.specs.Template as template
use Rattle.placement_code.specs.declared.placement.How.TheVariants as how
use Rattle.placement_code.specs.declared.placement.How.{How}
use Rattle.placement_code.specs.declared.placement.Placement.{Placement}
use Rattle.placement_code.specs.Small.{AreWell}
use Rattle.placement_lists.specs.Statements.{made}

abbrev pub how_of : How → template.How
how_of how.Copies = template.Copies
how_of (how.Transfers chunks) = template.Transfers chunks

abbrev pub placement_of : Placement → template.Placement
placement_of p = record {
  memref = p.memref;
  element = p.element;
  dims = p.dims;
  reads = p.reads;
  writes = p.writes;
  how = how_of p.how;
  name = made_name p.number;
}

-- its numbers may be written
pub record MayBeWritten (p : Placement) : Type 0 where
  pub number : p.number < 262144
  pub dims : AreWell p.dims
  pub count : product (template.dim_extents p.dims) < 2 ^ 63

-- the constants of stride and chunk, and their names, of the placement of this number
abbrev pub numbers_of : ℕ → Option (ℕ × ℕ) → List Stmt
numbers_of number None = []
numbers_of number (Some two) =
    made (what.Constant (template.stride_name (made_name number)) (pos two.0) Index) ∷ made (what.Constant (template.chunk_name (made_name number)) (pos two.1) Index) ∷ []

abbrev pub strides_of : ℕ → Option (ℕ × ℕ) → Option (Name × Name)
strides_of number None = None
strides_of number (Some two) = Some (template.stride_name (made_name number), template.chunk_name (made_name number))
