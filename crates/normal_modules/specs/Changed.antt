-- A statement, with the plain statements in it changed one by one.
use Rattle.std.specs.Prelude.{◌≡◌, ℕ}
use Rattle.affine_ast.specs.declared.stmt.What.{What}
use Rattle.affine_ast.specs.Nest.{Plain, Nest, put_what}
use Rattle.placement_texts.specs.Mapped.{mapped}

pub record IsChanged (f : Plain → Plain) (before after : What) : Type 0 where
  pub put : (line : ℕ) (rest : Nest) → put_what after line (mapped f rest) ≡ mapped f (put_what before line rest)
