-- What a numbering makes of names, statements and modules.
use Rattle.std.specs.Prelude.{◌≡◌, ℕ, suc, List, [], ◌∷◌, ◌++◌, map, true, false, if◌then◌else◌}
use Rattle.std.specs.Str.{bytes_eq}
use Rattle.std.specs.Fmt.{decimal}
use Rattle.affine_ast.specs.declared.module.Module.{Module}
use Rattle.affine_ast.specs.declared.name.Name.{Name}
use Rattle.affine_ast.specs.declared.stmt.What.{What}
use Rattle.affine_ast.specs.Nest.{Nest, nest, put_what}
use Rattle.placement_texts.specs.Renamed.{named}
use Rattle.numbered_names.specs.Numbers.{prefix, numbered_arg}

-- the made names of a module in the order of their definitions, and the underscores of its prefix
pub record Numbers : Type 0 where
  pub made : List Name
  pub underscores : ℕ

-- how many stand before the first of this text
abbrev pub place_by_text : List ℕ → List Name → ℕ
place_by_text text [] = 0
place_by_text text (x ∷ xs) = if bytes_eq x.text text then 0 else suc (place_by_text text xs)

-- the new name of a name
abbrev pub new_name : Numbers → Name → Name
new_name numbers n = if n.made then record { text = prefix numbers.underscores ++ decimal (place_by_text n.text numbers.made); made = false } else n

-- a statement with its names replaced
pub record IsRenamed (f : Name → Name) (before after : What) : Type 0 where
  pub put : (line : ℕ) (rest : Nest) → put_what after line (named f rest) ≡ named f (put_what before line rest)

-- a module with its names replaced
pub record IsRenamedModule (f : Name → Name) (before after : Module) : Type 0 where
  pub name : after.name ≡ before.name
  pub args : after.args ≡ map (numbered_arg f) before.args
  pub body : nest after.body ≡ named f (nest before.body)
