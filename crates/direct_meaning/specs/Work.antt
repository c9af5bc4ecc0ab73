-- The work of a module: a bound on the number of its actions, from the text alone.
pub use Rattle.affine_ast.specs.Intervals.{Ranges, ranges_at, over_all, pick_range, picked_range, turn_range}
unfoldable pub use Rattle.affine_ast.specs.Intervals.{first_turn, last_end}
use Rattle.std.specs.Prelude.{ℕ, ◌+◌, ◌*◌, ◌^◌, min, max, ℤ, pos, ◌-ℤ◌, List, fold}
use Rattle.affine_expr.specs.Value.{ceil_div}
use Rattle.affine_expr.specs.Spread.{only}
use Rattle.affine_ast.specs.declared.name.Name.{Name}
use Rattle.affine_ast.specs.declared.module.Arg.{Arg}
use Rattle.affine_ast.specs.declared.module.ArgKind.{ArgKind}
use Rattle.affine_ast.specs.declared.module.ArgKind.TheVariants.{Memref, Index}
use Rattle.affine_ast.specs.declared.module.Module.{Module}
use Rattle.affine_ast.specs.declared.types.Scalar.{Scalar}
use Rattle.affine_ast.specs.declared.types.Scalar.TheVariants as scalar
use Rattle.affine_ast.specs.Names.{put}
use Rattle.affine_ast.specs.Nest.{Plain, Nest, Nothing, Loop, Branch, Does, Start, nest}
use Rattle.affine_ast.specs.Parts.{Effect, NewIndex, NewConstant, NewData, effect_of}
use Rattle.direct_meaning.specs.Turns.{gap}
use Rattle.direct_meaning.specs.Memory.{range_or}

-- how many turns: max(0, ceil((b - a) / step))
abbrev pub turn_count : ℤ → ℤ → ℤ → ℕ
turn_count a b step = gap (ceil_div (b -ℤ a) step)

-- a name that holds data counts as 0 where an expression has it, as it does in the list of actions
abbrev pub no_range : Name → Ranges → Ranges
no_range r rho = put rho r (only (pos 0))

abbrev pub ranges_after_constant : Name → ℤ → Scalar → Ranges → Ranges
ranges_after_constant r z (scalar.Int element) rho = no_range r rho
ranges_after_constant r z scalar.Index rho = put rho r (only z)

abbrev pub ranges_effect : Effect → Ranges → Ranges
ranges_effect (NewIndex r pick at) rho = put rho r (picked_range pick (ranges_at rho at))
ranges_effect (NewConstant r z ty) rho = ranges_after_constant r z ty rho
ranges_effect (NewData r ty) rho = no_range r rho
ranges_effect x rho = rho

-- the ranges behind a plain statement
abbrev pub ranges_after : Plain → Ranges → Ranges
ranges_after p rho = ranges_effect (effect_of p) rho

-- one for a plain statement, and the count and three for a start
abbrev pub plain_work : Plain → Ranges → ℕ
plain_work (Start a a_at b b_at t t_at n stride types) rho = gap (rho n).greatest + 3
plain_work p rho = 1

-- the work of statements, not yet saturated
unfoldable pub full_work : Nest → Ranges → ℕ
full_work Nothing rho = 0
full_work (Loop line v l u s body rest) rho =
    turn_count (first_turn rho l) (last_end rho u) s * max 1 (full_work body (put rho v (turn_range (first_turn rho l) (last_end rho u)))) + full_work rest rho
full_work (Branch line set names first has other rest) rho = full_work first rho + full_work other rho + full_work rest rho
full_work (Does line p rest) rho = plain_work p rho + full_work rest (ranges_after p rho)

abbrev pub arg_ranges : Ranges → Arg → Ranges
arg_ranges rho arg = ranges_of_kind arg.kind
  where
    ranges_of_kind : ArgKind → Ranges
    ranges_of_kind (Memref ty) = rho
    ranges_of_kind (Index range) = put rho arg.name (record { least = (range_or range).least; greatest = (range_or range).greatest })

abbrev pub start_ranges : List Arg → Ranges
start_ranges args = fold arg_ranges (λ n. only (pos 0)) args

-- the work of a module, saturating at 2 ^ 127
unfoldable pub work : Module → ℕ
work m = min (full_work (nest m.body) (start_ranges m.args)) (2 ^ 127)
