-- The table of intervals, as the range that it has for each name.
use Rattle.std.specs.Prelude.{pos, List, [], ◌∷◌, Option, Some, None}
use Rattle.std.specs.Map.{lookup}
use Rattle.affine_expr.specs.declared.map.Interval.{Interval}
use Rattle.affine_expr.specs.Bounded.{range_at}
use Rattle.affine_expr.specs.Spread.{Range, only}
use Rattle.affine_ast.specs.Intervals.{Ranges}
use Rattle.affine_ast.specs.Names.{put}
use Rattle.affine_rules.specs.declared.scope.Key.{Key}
use Rattle.affine_rules.specs.Scoped.{is_key}
use Rattle.module_work.specs.declared.ranges.Before.{Before}

abbrev pub range_or_zero : Option Interval → Range
range_or_zero (Some i) = range_at i
range_or_zero None = only (pos 0)

-- the range of each name; of one that isn't in the table the number 0 alone
unfoldable pub ranges_of : List (Key × Interval) → Ranges
ranges_of es n = range_or_zero (lookup (is_key n) es)

-- ranges once these names have those that they had before, the last one put back first
abbrev pub put_back : List Before → Ranges → Ranges
put_back [] rho = rho
put_back (b ∷ bs) rho = put (put_back bs rho) b.name.now (range_at b.interval)
