-- Texts whose work can be counted in machine integers: the bounds of loops and the values are affine and stay within 2 ^ 62 over the
-- ranges of the names round them, and steps are positive.
use Rattle.std.specs.Prelude.{◌≡◌, pos, ◌<ℤ◌, true}
use Rattle.affine_ast.specs.declared.types.Access.{Access}
use Rattle.affine_ast.specs.declared.types.Bound.{Bound}
use Rattle.affine_ast.specs.declared.types.Bound.TheVariants as bound
use Rattle.affine_ast.specs.Intervals.{Ranges, first_turn, last_end, turn_range}
use Rattle.affine_ast.specs.Names.{put}
use Rattle.affine_ast.specs.Nest.{Plain, Nest, Nothing, Loop, Branch, Does, Value}
use Rattle.affine_ast.specs.Rules.{map_fits, access_pure}
use Rattle.direct_meaning.specs.Work.{ranges_after}
use Rattle.valid_laws.specs.Bounded.{BoundedAccess}

-- the leaves of the results are among the operands, and the results are affine and stay within 2 ^ 62
pub record WorkableAccess (rho : Ranges) (at : Access) : Type 0 where
  pub fits : map_fits at ≡ true
  pub pure : access_pure at ≡ true
  pub bounded : BoundedAccess rho at

abbrev pub WorkableBound : Ranges → Bound → Type 0
WorkableBound rho (bound.Int z) = Unit {0}
WorkableBound rho (bound.Value n) = Unit {0}
WorkableBound rho (bound.Map at) = WorkableAccess rho at

abbrev pub WorkablePlain : Ranges → Plain → Type 0
WorkablePlain rho (Value r pick at) = WorkableAccess rho at
WorkablePlain rho p = Unit {0}

unfoldable pub Workable : Nest → Ranges → Type 0
Workable Nothing rho = Unit {0}
Workable (Loop line v l u s body rest) rho =
    WorkableBound rho l × WorkableBound rho u × (pos 0 <ℤ s) × Workable body (put rho v (turn_range (first_turn rho l) (last_end rho u))) × Workable rest rho
Workable (Branch line set names first has other rest) rho = Workable first rho × Workable other rho × Workable rest rho
Workable (Does line p rest) rho = WorkablePlain rho p × Workable rest (ranges_after p rho)
