-- The placement of the tile.
use Rattle.std.specs.Prelude.{ℕ, pos, Bool, true, false, [], ◌∷◌, None}
use Rattle.affine_ast.specs.declared.types.Element.TheVariants.{I32}
use Rattle.placement_texts.specs.Template.{Placement, Transfers}
use Rattle.made_names.specs.Made.{made_name}
use Rattle.plan_numbers.specs.Modules.{A, it}

-- of so many numbers, read in, or not
abbrev pub tile_of : ℕ → Bool → Placement
tile_of size reads = record {
  memref = A;
  element = I32;
  dims = record { size = size; terms = (it, pos 1) ∷ []; offset = pos 0; extent = 16; clamped = false } ∷ [];
  reads = reads;
  writes = true;
  how = Transfers None;
  name = made_name 0;
}

abbrev pub tile_placement : Bool → Placement
tile_placement reads = tile_of 64 reads
