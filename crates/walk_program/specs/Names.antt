-- The table of a module's names: each name once, in the order of first use. A name's number is its place in it.
use Rattle.std.specs.Prelude.{◌≡◌, ℕ, ◌<◌, false, List, [], ◌∷◌, ◌++◌, length, map, fold, slice_index_or, if◌then◌else◌}
use Rattle.std.specs.List.{list_any}
use Rattle.affine_ast.specs.declared.module.Arg.{Arg}
use Rattle.affine_ast.specs.declared.module.Module.{Module}
use Rattle.affine_ast.specs.declared.name.Name.{Name}
use Rattle.affine_ast.specs.declared.types.Bound.{Bound}
use Rattle.affine_ast.specs.declared.types.Bound.TheVariants as bound
use Rattle.affine_ast.specs.Names.{same_name}
use Rattle.affine_ast.specs.Nest.{Plain, Nest, Nothing, Loop, Branch, Does, nest}
use Rattle.affine_ast.specs.Parts as parts

-- the name of a number
abbrev pub name_at : List Name → ℕ → Name
name_at names k = slice_index_or names k (record { text = []; made = false })

-- no name has two numbers
abbrev pub AreDistinct : List Name → Type 0
AreDistinct names = (j k : ℕ) → j < length names → k < length names → name_at names j ≡ name_at names k → j ≡ k

-- names with one more at the end, unless it stands among them
abbrev pub listed : List Name → Name → List Name
listed names n = if list_any (same_name n) names then names else names ++ n ∷ []

-- the names of a list behind others, each once, where it stands first
abbrev pub all_listed : List Name → List Name → List Name
all_listed names uses = fold listed names uses

abbrev pub uses_in_bound : Bound → List Name
uses_in_bound (bound.Int z) = []
uses_in_bound (bound.Value n) = n ∷ []
uses_in_bound (bound.Map at) = at.operands

-- the names in a plain statement: the one that it defines, and those that it uses, in the order of its parts
abbrev pub uses_in_plain : Plain → List Name
uses_in_plain p = parts.results_of p ++ parts.uses_of p

-- the names in statements, in program order
abbrev pub uses_in : Nest → List Name
uses_in Nothing = []
uses_in (Loop line v l u s body rest) = v ∷ uses_in_bound l ++ (uses_in_bound u ++ (uses_in body ++ uses_in rest))
uses_in (Branch line set names first has other rest) = names ++ (uses_in first ++ (uses_in other ++ uses_in rest))
uses_in (Does line p rest) = uses_in_plain p ++ uses_in rest

-- the names of arguments, in order
abbrev pub uses_of_arguments : List Arg → List Name
uses_of_arguments args = map (λ (arg : Arg). arg.name) args

-- the names in a module: those of its arguments, and then those in its body
abbrev pub uses_of : Module → List Name
uses_of m = uses_of_arguments m.args ++ uses_in (nest m.body)

-- the names in a module, each once, in the order of first use
unfoldable pub names_of : Module → List Name
names_of m = all_listed [] (uses_of m)
