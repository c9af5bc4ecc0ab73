-- What a statement does to the live bytes of a walk, and to the most of them.
use Rattle.std.specs.Prelude.{◌≡◌, ◌+◌, ◌≤◌, max}
use Rattle.affine_ast.specs.declared.stmt.Stmt.{Stmt}
use Rattle.affine_ast.specs.Nest.{Nest, Nothing, put_what}
use Rattle.peak_laws.specs.Peak.{peak_of, bytes_in}
use Rattle.copy_place.specs.declared.bytes.Live.{Live}

-- from one place to the next: the greatest sum on the whole way is that so far and that from there on; and no more bytes are taken than
-- those of the statement's allocations
pub record Moves (stmt : Stmt) (before after : Live) : Type 0 where
  pub greatest : (rest : Nest) → max before.most (peak_of (put_what stmt.what stmt.line rest) before.now) ≡ max after.most (peak_of rest after.now)
  pub taken : after.now ≤ before.now + bytes_in (put_what stmt.what stmt.line Nothing)
  pub most : after.now ≤ after.most
