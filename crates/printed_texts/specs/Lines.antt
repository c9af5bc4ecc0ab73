-- Modules that are the same but for the lines of their statements and arguments.
use Rattle.std.specs.Prelude.{◌≡◌, map}
use Rattle.affine_ast.specs.declared.module.Arg.{Arg}
use Rattle.affine_ast.specs.declared.module.Module.{Module}
use Rattle.affine_ast.specs.Nest.{Nest, Nothing, Loop, Branch, Does, nest}

-- statements without their lines
abbrev pub unlined : Nest → Nest
unlined Nothing = Nothing
unlined (Loop line v lower upper s body rest) = Loop 0 v lower upper s (unlined body) (unlined rest)
unlined (Branch line set names first has other rest) =
    Branch 0 set names (unlined first) has (unlined other) (unlined rest)
unlined (Does line p rest) = Does 0 p (unlined rest)

-- an argument without its line
abbrev pub unlined_argument : Arg → Arg
unlined_argument a = record { name = a.name; kind = a.kind; line = 0 }

-- The modules differ in no part but lines: they have the same name, and without their lines the same
-- arguments and the same statements.
pub record AreSameButLines (m n : Module) : Type 0 where
  pub name : m.name ≡ n.name
  pub args : map unlined_argument m.args ≡ map unlined_argument n.args
  pub body : unlined (nest m.body) ≡ unlined (nest n.body)
