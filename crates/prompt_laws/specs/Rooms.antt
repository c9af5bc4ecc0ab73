-- The fast memrefs of a text, by number, and the room of each.
use Rattle.std.specs.Prelude.{ℕ, List, [], ◌∷◌, ◌++◌, slice_index_or, if◌then◌else◌}
use Rattle.affine_ast.specs.declared.module.Module.{Module}
use Rattle.affine_ast.specs.declared.types.Element.{Element}
use Rattle.affine_ast.specs.Nest.{Plain, Nest, Nothing, Loop, Branch, Does, Alloc, nest}
use Rattle.affine_ast.specs.Sizes.{element_bits}
use Rattle.direct_meaning.specs.Actions.{half_cells, is_fast}

-- how many halves, how many cells each half has, and the width of a cell in bits
pub record Room : Type 0 where
  pub halves : ℕ
  pub cells : ℕ
  pub bits : ℕ

-- the first size counts the halves
abbrev pub half_count : List ℕ → ℕ
half_count [] = 0
half_count (n ∷ ns) = n

abbrev pub room_of : Element → List ℕ → Room
room_of element sizes = record { halves = half_count sizes; cells = half_cells sizes; bits = element_bits element }

abbrev pub no_room : Room
no_room = record { halves = 0; cells = 0; bits = 0 }

-- the room of a fast memref
abbrev pub room_at : List Room → ℕ → Room
room_at rooms number = slice_index_or rooms number no_room

abbrev pub rooms_of_plain : Plain → List Room
rooms_of_plain (Alloc r ty) = if is_fast ty then room_of ty.element ty.sizes ∷ [] else []
rooms_of_plain p = []

-- the allocations in space 1 of a text, in its order
abbrev pub rooms_in : Nest → List Room
rooms_in Nothing = []
rooms_in (Loop line v l u s body rest) = rooms_in body ++ rooms_in rest
rooms_in (Branch line set names first has other rest) = rooms_in first ++ (rooms_in other ++ rooms_in rest)
rooms_in (Does line p rest) = rooms_of_plain p ++ rooms_in rest

abbrev pub module_rooms : Module → List Room
module_rooms m = rooms_in (nest m.body)
