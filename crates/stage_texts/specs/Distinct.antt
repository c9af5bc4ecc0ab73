-- Names of which none stands twice.
use Rattle.std.specs.Prelude.{◌≡◌, Bool, true, false, List, [], ◌∷◌, map, take}
use Rattle.std.specs.List.{list_any}
use Rattle.affine_ast.specs.declared.name.Name.{Name}
use Rattle.affine_ast.specs.declared.types.Access.{Access}
use Rattle.affine_ast.specs.Names.{same_name}
use Rattle.affine_ast.specs.Rules.{map_fits}
use Rattle.placement_texts.specs.Normal.{normal}
use Rattle.placement_texts.specs.Own.{OwnNames}
use Rattle.placement_texts.specs.Renamed.{KeepsApart}
use Rattle.printed_texts.specs.Writable.{AllWritten, AreApart}

-- none of the names is the same as one behind it
abbrev pub AreDistinct : List Name → Type 0
AreDistinct [] = Unit {0}
AreDistinct (n ∷ ns) = (list_any (λ x. same_name x n) ns ≡ false) × AreDistinct ns

-- so it is with new names, one for one
abbrev pub NamedAreDistinct : Type 0
NamedAreDistinct = (f : Name → Name) (own : Name → Bool) → KeepsApart f own → (ns : List Name) → OwnNames own ns → AreDistinct ns → AreDistinct (map f ns)

-- and such names of a text have no text twice
abbrev pub DistinctAreApart : Type 0
DistinctAreApart = (ns : List Name) → AllWritten ns → AreDistinct ns → AreApart ns

-- nor does an operand of a dimension, where subscripts have their dimensions numbered by first appearance, if none did
abbrev pub NormalIsDistinct : Type 0
NormalIsDistinct = (at : Access) → map_fits at ≡ true → AreDistinct (take at.map.dims at.operands) → AreDistinct (take (normal at).map.dims (normal at).operands)
