-- Going into a loop, and past a value that is a local, in parts: the forms of the bounds or of the map's results, then the rows,
-- then what is known with them.
use Rattle.std.specs.Prelude.{◌≡◌, ℕ, suc, ℤ, List, [], ◌∷◌, ◌++◌, Option, Some, None, pos, Result, Ok, Err}
use Rattle.affine_expr.specs.declared.linear.LinearFault.{LinearFault}
use Rattle.affine_expr.specs.declared.linear.LinearFault.TheVariants.{Wide, Memory}
use Rattle.affine_expr.specs.Spread.{Range, only}
use Rattle.affine_expr.specs.Forms.{Form, LocalForm}
use Rattle.affine_expr.specs.Linear.{◌>>=◌, number_form, variable_form, minus}
use Rattle.affine_ast.specs.declared.name.Name.{Name}
use Rattle.affine_ast.specs.declared.types.Access.{Access}
use Rattle.affine_ast.specs.declared.types.Bound.{Bound}
use Rattle.affine_ast.specs.declared.types.Pick.{Pick}
use Rattle.affine_ast.specs.Intervals.{first_turn, last_end, turn_range}
use Rattle.affine_ast.specs.Names.{put}
use Rattle.affine_ast.specs.declared.types.Scalar.{Scalar}
use Rattle.direct_meaning.specs.Work.{ranges_after_constant}
use Rattle.nest_domain.specs.Domains.{Known, Going, map_forms, bound_forms, all_from, upper_rows, picked_rows, constant_named, with_divisions}

-- a form is at least a range's least number, and at most its greatest
abbrev pub interval_rows : Form → Range → Result (List Form) LinearFault
interval_rows x range = do
  low ← minus x (number_form 0 range.least)
  high ← minus (number_form 0 range.greatest) x
  Ok (low ∷ high ∷ [])

-- the rows of a local of these results in a range
abbrev pub local_rows : Pick → Form → List Form → Range → Result (List Form) LinearFault
local_rows pick v fs range = do
  rows ← picked_rows pick v fs
  ends ← interval_rows v range
  Ok (rows ++ ends)

-- a name with a form or none, and its range
abbrev pub with_name : Name → Option Form → Range → Known → Known
with_name r f range k = record k { forms = put k.forms r f; ranges = put k.ranges r range }

-- a name's range alone
abbrev pub with_range : Name → Range → Known → Known
with_range r range k = record k { ranges = put k.ranges r range }

-- a constant: a form where it is an index, else data
abbrev pub constant_behind : Name → ℤ → Scalar → Known → Known
constant_behind r z ty k = record (constant_named r z ty k) { ranges = ranges_after_constant r z ty k.ranges }

-- a name that holds data
abbrev pub no_form : Name → Known → Known
no_form r k = with_name r None (only (pos 0)) k

-- a name is one more local, with these rows
abbrev pub with_local : Name → Form → List Form → Known → Known
with_local r v rows k = record k { forms = put k.forms r (Some v); next = suc k.next; locals = k.locals ++ rows }

-- the forms of a loop's bounds, with its step, and the locals that stand after them
pub record LoopBounds : Type 0 where
  pub going : Going
  pub locals : List LocalForm

abbrev pub both_bounds : (Name → Option Form) → ℕ → Bound → Bound → ℤ → Result LoopBounds LinearFault
both_bounds forms width l u s = do
  low ← bound_forms forms width l []
  high ← bound_forms forms width u low.locals
  Ok (record { going = record { lowers = low.forms; uppers = high.forms; step = s }; locals = high.locals })

abbrev pub GivesGoing : Result LoopBounds LinearFault → List LocalForm → Result Going LinearFault → Type 0
GivesGoing wanted locals (Ok g) = wanted ≡ Ok (record { going = g; locals = locals })
GivesGoing wanted locals (Err Memory) = Unit {0}
GivesGoing wanted locals (Err Wide) = wanted ≡ Err Wide

-- the rows of a loop's variable over its bounds
abbrev pub going_rows : Form → Going → Result (List Form) LinearFault
going_rows iv g = do
  below ← all_from iv g.lowers
  above ← upper_rows g.lowers g.step iv g.uppers
  Ok (below ++ above)

-- a loop more, with its variable's range and form and its rows
abbrev pub with_turns : Name → Range → Form → List Form → Going → Known → Known
with_turns v range iv rows g k = record k {
  forms = put k.forms v (Some iv);
  ranges = put k.ranges v range;
  outer = suc k.outer;
  loops = k.loops ++ rows;
  goings = k.goings ++ g ∷ [];
}

-- some rows, and then others
abbrev pub rows_then : List Form → Result (List Form) LinearFault → Result (List Form) LinearFault
rows_then rows w = do
  more ← w
  Ok (rows ++ more)

-- into a loop over these forms, with the locals of their divisions
abbrev pub with_bounds : Name → Range → Going → List LocalForm → Known → Result Known LinearFault
with_bounds v range g ls k = do
  rows ← going_rows (variable_form k.next k.outer) g
  with_divisions ls (with_turns v range (variable_form k.next k.outer) rows g k)

-- going into a loop: its bounds, the rows of its variable, and then what is known with them
abbrev pub loop_in_parts : Name → Bound → Bound → ℤ → Known → Result Known LinearFault
loop_in_parts v l u s k = do
  bounds ← both_bounds k.forms k.next l u s
  with_bounds v (turn_range (first_turn k.ranges l) (last_end k.ranges u)) bounds.going bounds.locals k

-- past a result of `affine.min` or `affine.max`: the forms of its map, the rows of its local, and then what is known with them
abbrev pub pick_in_parts : Name → Pick → Access → Range → Form → Known → Result Known LinearFault
pick_in_parts r pick at range v k = do
  formed ← map_forms k.forms (suc k.next) at []
  rows ← local_rows pick v formed.forms range
  with_divisions formed.locals (with_local r v rows k)
