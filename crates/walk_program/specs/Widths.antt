-- How many operands the longest list of them has.
use Rattle.std.specs.Prelude.{ℕ, max, length, List, [], ◌∷◌}
use Rattle.affine_ast.specs.declared.name.Name.{Name}
use Rattle.affine_ast.specs.declared.types.Bound.{Bound}
use Rattle.affine_ast.specs.declared.types.Bound.TheVariants as bound
use Rattle.affine_ast.specs.Nest.{Plain, Nest, Nothing, Loop, Branch, Does}
use Rattle.affine_ast.specs.Parts.{operand_lists}

abbrev pub width_in_bound : Bound → ℕ
width_in_bound (bound.Int z) = 0
width_in_bound (bound.Value n) = 0
width_in_bound (bound.Map at) = length at.operands

abbrev pub longest : List (List Name) → ℕ
longest [] = 0
longest (names ∷ []) = length names
longest (names ∷ others ∷ more) = max (length names) (longest (others ∷ more))

-- in a plain statement
abbrev pub width_in_plain : Plain → ℕ
width_in_plain p = longest (operand_lists p)

-- in statements, 0 where there is no list of operands
abbrev pub width_in : Nest → ℕ
width_in Nothing = 0
width_in (Loop line v l u s body rest) = max (max (width_in_bound l) (width_in_bound u))
    (max (width_in body) (width_in rest))
width_in (Branch line set names first has other rest) =
    max (length names) (max (max (width_in first) (width_in other)) (width_in rest))
width_in (Does line p rest) = max (width_in_plain p) (width_in rest)
