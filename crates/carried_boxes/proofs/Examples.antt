-- Worked boxes: two rows of 3 of a memref of 6 x 8; two planes of them, which no one transfer carries; and these with whole rows.
use Rattle.std.proofs.Common.{◌≡◌, ℕ, true, false, [], ◌∷◌, refl}
use Rattle.std.specs.Prelude.{Some, None}
use Rattle.boxes.specs.Boxes.{Side}
use Rattle.carried_boxes.specs.Backward.{is_carried, chunks}

abbrev side : ℕ → ℕ → Side
side extent size = record { size = size; place = 0; extent = extent }

rows : chunks (side 2 6 ∷ (side 3 8 ∷ [])) ≡ Some (8, 3)
rows = refl

planes : is_carried (side 2 4 ∷ (side 2 6 ∷ (side 3 8 ∷ []))) ≡ false
planes = refl

whole_rows : chunks (side 2 4 ∷ (side 2 6 ∷ (side 8 8 ∷ []))) ≡ Some (48, 16)
whole_rows = refl

-- a dimension of extent 1 between them parts them further
single_plane : chunks (side 2 4 ∷ (side 1 6 ∷ (side 3 8 ∷ []))) ≡ Some (48, 3)
single_plane = refl

whole : chunks (side 6 6 ∷ (side 8 8 ∷ [])) ≡ None
whole = refl
