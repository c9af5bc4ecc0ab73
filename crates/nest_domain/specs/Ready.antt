-- Ways whose rows can be formed: each bound, condition and value on them is affine, names operands that are there, and stays within
-- 2 ^ 62 over the ranges of the names round it.
use Rattle.std.specs.Prelude.{◌≡◌, ℕ, Bool, true, List, [], ◌∷◌, Some, pos, ◌<ℤ◌}
use Rattle.affine_expr.specs.declared.map.Set.{Set}
use Rattle.affine_ast.specs.declared.module.Module.{Module}
use Rattle.affine_ast.specs.declared.name.Name.{Name}
use Rattle.affine_ast.specs.Intervals.{Ranges, first_turn, last_end, turn_range}
use Rattle.affine_ast.specs.Names.{put}
use Rattle.affine_ast.specs.Nest.{Plain, Nest, nest, Nothing, Loop, Branch, Does, Value, Load, Store}
use Rattle.affine_ast.specs.Rules.{set_pure}
use Rattle.affine_ast.specs.Validity.{IsValid}
use Rattle.direct_meaning.specs.Work.{ranges_after, start_ranges}
use Rattle.valid_laws.specs.Bounded.{BoundedSet}
use Rattle.module_work.specs.Workable.{WorkableAccess, WorkableBound, WorkablePlain}
use Rattle.nest_domain.specs.Ways.{Header, Round, Given, Except, Behind, Past, Spot, at_path}

pub record ReadySet (rho : Ranges) (set : Set) (names : List Name) : Type 0 where
  pub pure : set_pure set ≡ true
  pub bounded : BoundedSet rho set names

abbrev pub ReadyHeader : Header → Ranges → Type 0
ReadyHeader (Round v l u s) rho = WorkableBound rho l × WorkableBound rho u × (pos 0 <ℤ s)
ReadyHeader (Given set names) rho = ReadySet rho set names
ReadyHeader (Except set names first) rho = Unit {0}
ReadyHeader (Behind p) rho = WorkablePlain rho p
ReadyHeader (Past n) rho = Unit {0}

-- the ranges behind one thing on the way
abbrev pub ranges_along : Header → Ranges → Ranges
ranges_along (Round v l u s) rho = put rho v (turn_range (first_turn rho l) (last_end rho u))
ranges_along (Given set names) rho = rho
ranges_along (Except set names first) rho = rho
ranges_along (Behind p) rho = ranges_after p rho
ranges_along (Past n) rho = rho

unfoldable pub Ready : List Header → Ranges → Type 0
Ready [] rho = Unit {0}
Ready (h ∷ hs) rho = ReadyHeader h rho × Ready hs (ranges_along h rho)

-- the ranges at the end of a way
abbrev pub ranges_at_end : List Header → Ranges → Ranges
ranges_at_end [] rho = rho
ranges_at_end (h ∷ hs) rho = ranges_at_end hs (ranges_along h rho)

-- so are the subscripts of an affine access
abbrev pub ReadyPlain : Ranges → Plain → Type 0
ReadyPlain rho (Value r pick at) = WorkableAccess rho at
ReadyPlain rho (Load r m at ty) = WorkableAccess rho at
ReadyPlain rho (Store x m at ty) = WorkableAccess rho at
ReadyPlain rho p = Unit {0}

abbrev pub ReadyHere : Ranges → Nest → Type 0
ReadyHere rho (Does line p rest) = ReadyPlain rho p
ReadyHere rho n = Unit {0}

unfoldable pub ReadyNest : Nest → Ranges → Type 0
ReadyNest Nothing rho = Unit {0}
ReadyNest (Loop line v l u s body rest) rho =
    WorkableBound rho l × WorkableBound rho u × (pos 0 <ℤ s) × ReadyNest body (put rho v (turn_range (first_turn rho l) (last_end rho u))) × ReadyNest rest rho
ReadyNest (Branch line set names first has other rest) rho = ReadySet rho set names × ReadyNest first rho × ReadyNest other rho × ReadyNest rest rho
ReadyNest (Does line p rest) rho = ReadyPlain rho p × ReadyNest rest (ranges_after p rho)

-- in a valid module the way to each statement that a path names is one whose rows can be formed, and so are the statement's subscripts
abbrev pub WaysAreReady : Type 0
WaysAreReady = (m : Module) → IsValid m → (steps : List (ℕ × Bool)) (s : Spot) → at_path (nest m.body) steps ≡ Some s
    → Ready s.way (start_ranges m.args) × ReadyHere (ranges_at_end s.way (start_ranges m.args)) s.here
