-- A statement before others, by its kind.
use Rattle.std.proofs.Common.{◌≡◌, ℕ}
use Rattle.affine_ast.specs.declared.stmt.Stmt.{Stmt}
use Rattle.affine_ast.specs.declared.stmt.What as what
use Rattle.affine_ast.specs.declared.stmt.What.{What}
use Rattle.affine_ast.specs.declared.stmt.What.TheOpen.{What-F}
use Rattle.affine_ast.specs.Nest.{Nest, Puts, put_layer, put_what, put_stmt}
use Rattle.affine_ast.proofs.Nests.{put_what_is}

abbrev pub layers : What → What-F (ℕ → Puts) Puts
layers w = what.map-What What Stmt (ℕ → Puts) Puts put_what put_stmt (what.out-What w)

pub in_layers : (w : What) (line : ℕ) (rest : Nest) → put_what w line rest ≡ put_layer (layers w) line rest
in_layers w line rest = put_what_is line rest (what.out-What w) w (what.roll-out-What w)
