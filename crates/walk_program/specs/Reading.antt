-- What a program is with its names put back for their numbers.
use Rattle.std.specs.Prelude.{ℕ, List, map, Option, Some, None}
use Rattle.affine_ast.specs.declared.module.Arg.{Arg}
use Rattle.affine_ast.specs.declared.name.Name.{Name}
use Rattle.affine_ast.specs.declared.types.Access.{Access}
use Rattle.affine_ast.specs.declared.types.Bound.{Bound}
use Rattle.affine_ast.specs.declared.types.Bound.TheVariants as bound
use Rattle.affine_ast.specs.Nest as named
use Rattle.affine_ast.specs.Nest.{Nest}
use Rattle.walk_program.specs.declared.plain.Limit.{Limit}
use Rattle.walk_program.specs.declared.plain.Limit.TheVariants as limit
use Rattle.walk_program.specs.declared.plain.Plain.{Plain}
use Rattle.walk_program.specs.declared.plain.Plain.TheVariants.{Value, Load, Store, RawLoad, RawStore, Constant}
use Rattle.walk_program.specs.declared.plain.Plain.TheVariants.{Binary, Cast, Alloc, Dealloc, Start, Wait, Return}
use Rattle.walk_program.specs.declared.plain.Subscripts.{Subscripts}
use Rattle.walk_program.specs.declared.program.Argument.{Argument}
use Rattle.walk_program.specs.Names.{name_at}
use Rattle.walk_program.specs.Tree.{Tree, Nothing, Loop, Branch, Does}

abbrev pub names_at : List Name → List ℕ → List Name
names_at names ks = map (name_at names) ks

abbrev pub access_of : List Name → Subscripts → Access
access_of names at = record { map = at.map; operands = names_at names at.operands }

abbrev pub bound_of : List Name → Limit → Bound
bound_of names (limit.Int z) = bound.Int z
bound_of names (limit.Value k) = bound.Value (name_at names k)
bound_of names (limit.Map at) = bound.Map (access_of names at)

abbrev pub stride_of : List Name → Option (ℕ × ℕ) → Option (Name × Name)
stride_of names None = None
stride_of names (Some two) = Some (name_at names two.0, name_at names two.1)

-- a plain statement
unfoldable pub plain_of : List Name → Plain → named.Plain
plain_of names (Value r pick at) = named.Value (name_at names r) pick (access_of names at)
plain_of names (Load r m at ty) = named.Load (name_at names r) (name_at names m) (access_of names at) ty
plain_of names (Store x m at ty) = named.Store (name_at names x) (name_at names m) (access_of names at) ty
plain_of names (RawLoad r m at ty) = named.RawLoad (name_at names r) (name_at names m) (names_at names at) ty
plain_of names (RawStore x m at ty) = named.RawStore (name_at names x) (name_at names m) (names_at names at) ty
plain_of names (Constant r z ty) = named.Constant (name_at names r) z ty
plain_of names (Binary r op a b ty) = named.Binary (name_at names r) op (name_at names a) (name_at names b) ty
plain_of names (Cast r kind x from to) = named.Cast (name_at names r) kind (name_at names x) from to
plain_of names (Alloc r ty) = named.Alloc (name_at names r) ty
plain_of names (Dealloc m ty) = named.Dealloc (name_at names m) ty
plain_of names (Start a a_at b b_at t t_at n stride types) =
    named.Start (name_at names a) (access_of names a_at) (name_at names b) (access_of names b_at) (name_at names t)
    (access_of names t_at) (name_at names n) (stride_of names stride) types
plain_of names (Wait t at n ty) = named.Wait (name_at names t) (access_of names at) (name_at names n) ty
plain_of names Return = named.Return

-- statements in program order
abbrev pub nest_of : List Name → Tree → Nest
nest_of names Nothing = named.Nothing
nest_of names (Loop line v l u s inside body rest) = named.Loop line (name_at names v) (bound_of names l)
    (bound_of names u) s (nest_of names body) (nest_of names rest)
nest_of names (Branch line set operands first n has other m rest) =
    named.Branch line set (names_at names operands) (nest_of names first) has (nest_of names other) (nest_of names rest)
nest_of names (Does line p rest) = named.Does line (plain_of names p) (nest_of names rest)

abbrev pub argument_of : List Name → Argument → Arg
argument_of names a = record { name = name_at names a.name; kind = a.kind; line = a.line }

-- the arguments in order
abbrev pub arguments_of : List Name → List Argument → List Arg
arguments_of names arguments = map (argument_of names) arguments
