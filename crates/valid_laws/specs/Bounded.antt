-- Texts whose affine values stay within 2 ^ 62.
use Rattle.std.specs.Prelude.{◌≡◌, true, List, map, take, drop}
use Rattle.std.specs.List.{list_all}
use Rattle.affine_expr.specs.declared.map.Set.{Set}
use Rattle.affine_ast.specs.declared.name.Name.{Name}
use Rattle.affine_ast.specs.declared.types.Access.{Access}
use Rattle.affine_ast.specs.declared.types.Bound.{Bound}
use Rattle.affine_ast.specs.declared.types.Bound.TheVariants as bound
use Rattle.affine_ast.specs.Intervals.{Ranges, first_turn, last_end, turn_range}
use Rattle.affine_ast.specs.Names.{put}
use Rattle.affine_ast.specs.Nest.{Plain, Nest, Nothing, Loop, Branch, Does}
use Rattle.affine_ast.specs.Parts.{Every, maps_of}
use Rattle.affine_ast.specs.Rules.{has_interval, row_bounded, is_small}
use Rattle.direct_meaning.specs.Work.{ranges_after}

-- each part of each result has its interval within 2 ^ 62, where the operands lie in these ranges
abbrev pub BoundedAccess : Ranges → Access → Type 0
BoundedAccess rho at = list_all (has_interval (take at.map.dims (map rho at.operands)) (drop at.map.dims (map rho at.operands))) at.map.results ≡ true

abbrev pub BoundedSet : Ranges → Set → List Name → Type 0
BoundedSet rho set names = list_all (row_bounded (take set.dims (map rho names)) (drop set.dims (map rho names))) set.rows ≡ true

abbrev pub BoundedBound : Ranges → Bound → Type 0
BoundedBound rho (bound.Int z) = is_small z ≡ true
BoundedBound rho (bound.Value n) = Unit {0}
BoundedBound rho (bound.Map at) = BoundedAccess rho at

abbrev pub BoundedPlain : Ranges → Plain → Type 0
BoundedPlain rho p = Every (BoundedAccess rho) (maps_of p)

-- so does every bound, condition, subscript and value of the text, each over the ranges of the names round it
abbrev pub BoundedNest : Nest → Ranges → Type 0
BoundedNest Nothing rho = Unit {0}
BoundedNest (Loop line v l u s body rest) rho =
    BoundedBound rho l × BoundedBound rho u × BoundedNest body (put rho v (turn_range (first_turn rho l) (last_end rho u))) × BoundedNest rest rho
BoundedNest (Branch line set names first has other rest) rho = BoundedSet rho set names × BoundedNest first rho × BoundedNest other rho × BoundedNest rest rho
BoundedNest (Does line p rest) rho = BoundedPlain rho p × BoundedNest rest (ranges_after p rho)
