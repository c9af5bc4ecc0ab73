-- Names as keys of tables.
use Rattle.std.specs.Prelude.{Bool, true, false, ◌&&◌, if◌then◌else◌}
use Rattle.std.specs.Str.{bytes_eq}
use Rattle.affine_ast.specs.declared.name.Name.{Name}

abbrev pub same_bool : Bool → Bool → Bool
same_bool true b = b
same_bool false true = false
same_bool false false = true

-- whether two names are one: the same text, and both made or neither
unfoldable pub same_name : Name → Name → Bool
same_name a b = bytes_eq a.text b.text && same_bool a.made b.made

-- a table over names with one entry changed
unfoldable pub put : {A : Type 0} → (Name → A) → Name → A → Name → A
put f n a m = if same_name n m then a else f m
