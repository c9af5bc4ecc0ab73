-- A statement, with line 1 in place of each line 0 in its regions. Its own line is the list's matter.
use Rattle.std.specs.Prelude.{◌≡◌, ℕ}
use Rattle.affine_ast.specs.declared.stmt.What.{What}
use Rattle.affine_ast.specs.Nest.{Nest, put_what}
use Rattle.plan_laws.specs.Sites.{line_or_one, lined}

pub record IsLinedWhat (before after : What) : Type 0 where
  pub put : (line : ℕ) (rest : Nest) → put_what after (line_or_one line) (lined rest) ≡ lined (put_what before line rest)
