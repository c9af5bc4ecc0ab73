-- The rows of a place: those of the symbols' ranges, of the loops and conditions round it, and of the locals that it uses. The
-- variables are the index arguments, the loops from the outside in, and then the locals in the order of the text.
use Rattle.std.specs.Prelude.{ℕ, suc, ◌+◌, ℤ, pos, neg_ℤ, ◌+ℤ◌, ◌-ℤ◌, ◌*ℤ◌, Bool, if◌then◌else◌, List, [], ◌∷◌, ◌++◌, length, map, take, drop, Option, Some, None, Result, Ok, Err}
use Rattle.num_row.specs.Ints.{narrowed}
use Rattle.constraint_set.specs.Points.{LinearRow, LinearSystem}
use Rattle.constraint_set.specs.Tidy.{all_zero}
use Rattle.affine_expr.specs.declared.map.Constraint.{Constraint}
use Rattle.affine_expr.specs.declared.map.Rel.{Rel}
use Rattle.affine_expr.specs.declared.map.Rel.TheVariants.{Ge, Le, Eq}
use Rattle.affine_expr.specs.declared.map.Set.{Set}
use Rattle.affine_expr.specs.declared.linear.LinearFault.{LinearFault}
use Rattle.affine_expr.specs.declared.linear.LinearFault.TheVariants.{Wide}
use Rattle.affine_expr.specs.Value.{floor_div}
use Rattle.affine_expr.specs.Spread.{Range, only}
use Rattle.affine_expr.specs.Forms.{Form, LocalForm}
use Rattle.affine_expr.specs.Linear.{◌>>=◌, or_wide, number_form, variable_form, padded, minus, over}
use Rattle.affine_ast.specs.declared.module.Arg.{Arg}
use Rattle.affine_ast.specs.declared.module.ArgKind.{ArgKind}
use Rattle.affine_ast.specs.declared.module.ArgKind.TheVariants.{Memref, Index}
use Rattle.affine_ast.specs.declared.name.Name.{Name}
use Rattle.affine_ast.specs.declared.types.Access.{Access}
use Rattle.affine_ast.specs.declared.types.Bound.{Bound}
use Rattle.affine_ast.specs.declared.types.Bound.TheVariants as bound
use Rattle.affine_ast.specs.declared.types.Pick.{Pick}
use Rattle.affine_ast.specs.declared.types.Pick.TheVariants.{Apply, Min, Max}
use Rattle.affine_ast.specs.declared.types.Scalar.{Scalar}
use Rattle.affine_ast.specs.declared.types.Scalar.TheVariants as scalar
use Rattle.affine_ast.specs.Intervals.{Ranges, range_or, ranges_at, picked_range, first_turn, last_end, turn_range}
use Rattle.affine_ast.specs.Names.{put}
use Rattle.affine_ast.specs.Nest.{Plain, Value, Load, RawLoad, Constant, Binary, Cast}
use Rattle.direct_meaning.specs.Work.{ranges_after}
use Rattle.nest_domain.specs.Ways.{Header, Round, Given, Except, Behind, Past, plain_needed, needed, used, loop_count}
use Rattle.nest_domain.specs.Forms.{try_each, Formed, all_over, all_floor_rows}

-- what a loop goes over: the forms of its lower and of its upper results, and its step
pub record Going : Type 0 where
  pub lowers : List Form
  pub uppers : List Form
  pub step : ℤ

-- what is known along the way to a place
pub record Known : Type 0 where
  -- the forms of index arguments, loop variables, index constants and the values that the place uses; other names have none
  pub forms : Name → Option Form
  -- the intervals of names
  pub ranges : Ranges
  -- how many symbols and loops there are so far: the number of the next one's variable
  pub outer : ℕ
  -- how many variables there are with the symbols and loops still to come: the number of the next local
  pub next : ℕ
  -- the rows so far, by the order in which they stand
  pub symbols : List Form
  pub loops : List Form
  pub conditions : List Form
  pub locals : List Form
  -- the loops so far, from the outside in
  pub goings : List Going

-- ---- the forms of operands, maps and bounds
abbrev pub operand_forms : (Name → Option Form) → List Name → Result (List Form) LinearFault
operand_forms forms = try_each (λ n. or_wide (forms n))

-- the results of a map, over so many variables before the locals
abbrev pub map_forms : (Name → Option Form) → ℕ → Access → List LocalForm → Result Formed LinearFault
map_forms forms width at ls = do
  fs ← operand_forms forms at.operands
  all_over width (take at.map.dims fs) (drop at.map.dims fs) at.map.results ls

abbrev pub bound_forms : (Name → Option Form) → ℕ → Bound → List LocalForm → Result Formed LinearFault
bound_forms forms width (bound.Int z) ls = Ok (record { forms = number_form (width + length ls) z ∷ []; locals = ls })
bound_forms forms width (bound.Value n) ls = do
  f ← or_wide (forms n)
  Ok (record { forms = padded (width + length ls) f ∷ []; locals = ls })
bound_forms forms width (bound.Map at) ls = map_forms forms width at ls

-- ---- rows
-- each form of the list taken from one form, or less one form
abbrev pub all_from : Form → List Form → Result (List Form) LinearFault
all_from f = try_each (minus f)

abbrev pub all_less : List Form → Form → Result (List Form) LinearFault
all_less fs g = try_each (λ f. minus f g) fs

-- a form and a number more
abbrev pub shifted : Form → ℤ → Result Form LinearFault
shifted f z = do
  constant ← or_wide (narrowed (f.constant +ℤ z))
  Ok (record { coefs = f.coefs; constant = constant })

-- `iv <= u - 1`
abbrev pub upper_row : Form → Form → Result Form LinearFault
upper_row iv u = do
  top ← shifted u (neg_ℤ (pos 1))
  minus top iv

-- `iv <= l + ((D - 1) floordiv s) * s`, where the difference D of the bounds is a number
abbrev pub last_row : Form → ℤ → Form → Form → Form → Result Form LinearFault
last_row l s iv u d =
    if all_zero d.coefs
    then (shifted l (floor_div (d.constant -ℤ pos 1) s *ℤ s) >>= (λ top. minus top iv))
    else upper_row iv u

-- the row of an upper result, over the loop's lower ones
abbrev pub upper_row_over : List Form → ℤ → Form → Form → Result Form LinearFault
upper_row_over [] s iv u = upper_row iv u
upper_row_over (l ∷ []) s iv u = do
  d ← minus u l
  last_row l s iv u d
upper_row_over (l ∷ (m ∷ ls)) s iv u = upper_row iv u

abbrev pub upper_rows : List Form → ℤ → Form → List Form → Result (List Form) LinearFault
upper_rows ls s iv = try_each (upper_row_over ls s iv)

-- the rows of a constraint, an equation two
abbrev pub compared_rows : Rel → Form → Form → Result (List Form) LinearFault
compared_rows Ge f g = do
  r ← minus f g
  Ok (r ∷ [])
compared_rows Le f g = do
  r ← minus g f
  Ok (r ∷ [])
compared_rows Eq f g = do
  r ← minus f g
  s ← minus g f
  Ok (r ∷ s ∷ [])

abbrev pub set_rows : ℕ → List Form → List Form → List Constraint → List LocalForm → Result Formed LinearFault
set_rows width ds ss [] ls = Ok (record { forms = []; locals = ls })
set_rows width ds ss (c ∷ cs) ls = do
  left ← (over width ds ss c.left).form ls
  right ← (over width ds ss c.right).form left.locals
  rows ← compared_rows c.rel left.form right.form
  rest ← set_rows width ds ss cs right.locals
  Ok (record { forms = rows ++ rest.forms; locals = rest.locals })

-- ---- along the way
-- with these locals more
abbrev pub with_divisions : List LocalForm → Known → Result Known LinearFault
with_divisions ls k = do
  rows ← all_floor_rows ls
  Ok (record k { next = k.next + length ls; locals = k.locals ++ rows })

-- a loop over these forms, whose variable has the form iv
abbrev pub with_loop : Name → Range → ℤ → Form → Formed → Formed → Known → Result Known LinearFault
with_loop v range s iv low high k = do
  below ← all_from iv low.forms
  above ← upper_rows low.forms s iv high.forms
  with_divisions high.locals (record k {
    forms = put k.forms v (Some iv);
    ranges = put k.ranges v range;
    outer = suc k.outer;
    loops = k.loops ++ (below ++ above);
    goings = k.goings ++ record { lowers = low.forms; uppers = high.forms; step = s } ∷ [];
  })

abbrev pub in_loop : Name → Bound → Bound → ℤ → Known → Result Known LinearFault
in_loop v l u s k = do
  low ← bound_forms k.forms k.next l []
  high ← bound_forms k.forms k.next u low.locals
  with_loop v (turn_range (first_turn k.ranges l) (last_end k.ranges u)) s (variable_form k.next k.outer) low high k

abbrev pub in_condition : Set → List Name → Known → Result Known LinearFault
in_condition set names k = do
  fs ← operand_forms k.forms names
  rows ← set_rows k.next (take set.dims fs) (drop set.dims fs) set.rows []
  with_divisions rows.locals (record k { conditions = k.conditions ++ rows.forms })

-- a name with this form, or with none
abbrev pub named : Name → Option Form → Known → Known
named r f k = record k { forms = put k.forms r f }

abbrev pub first_form : List Form → Result Form LinearFault
first_form [] = Err Wide
first_form (f ∷ fs) = Ok f

-- a result of `affine.apply` is its form
abbrev pub applied : Name → Access → Known → Result Known LinearFault
applied r at k = do
  formed ← map_forms k.forms k.next at []
  f ← first_form formed.forms
  with_divisions formed.locals (named r (Some f) k)

-- the rows of a local v of these results, that of `affine.min` at most each, that of `affine.max` at least each
abbrev pub picked_rows : Pick → Form → List Form → Result (List Form) LinearFault
picked_rows Apply v fs = Ok []
picked_rows Min v fs = all_less fs v
picked_rows Max v fs = all_from v fs

-- a result of `affine.min` or `affine.max` is a local in its interval. It stands before the locals of its map
abbrev pub with_pick : Name → Pick → Access → Range → Form → Known → Result Known LinearFault
with_pick r pick at range v k = do
  formed ← map_forms k.forms (suc k.next) at []
  rows ← picked_rows pick v formed.forms
  low ← minus v (number_form 0 range.least)
  high ← minus (number_form 0 range.greatest) v
  with_divisions formed.locals (record k {
    forms = put k.forms r (Some v);
    next = suc k.next;
    locals = k.locals ++ (rows ++ low ∷ high ∷ []);
  })

abbrev pub with_value : Name → Pick → Access → Known → Result Known LinearFault
with_value r Apply at k = applied r at k
with_value r Min at k = with_pick r Min at (picked_range Min (ranges_at k.ranges at)) (variable_form (suc k.next) k.next) k
with_value r Max at k = with_pick r Max at (picked_range Max (ranges_at k.ranges at)) (variable_form (suc k.next) k.next) k

abbrev pub constant_named : Name → ℤ → Scalar → Known → Known
constant_named r z (scalar.Int element) k = named r None k
constant_named r z scalar.Index k = named r (Some (number_form 0 z)) k

-- the forms behind a statement, whose value may be needed
abbrev pub formed_by : Plain → Bool → Known → Result Known LinearFault
formed_by (Value r pick at) needed k = if needed then with_value r pick at k else Ok (named r None k)
formed_by (Constant r z ty) needed k = Ok (constant_named r z ty k)
formed_by (Load r m at ty) needed k = Ok (named r None k)
formed_by (RawLoad r m at ty) needed k = Ok (named r None k)
formed_by (Binary r op a b ty) needed k = Ok (named r None k)
formed_by (Cast r kind x from to) needed k = Ok (named r None k)
formed_by p needed k = Ok k

abbrev pub behind_by : Plain → Bool → Known → Result Known LinearFault
behind_by p needed k = do
  g ← formed_by p needed k
  Ok (record g { ranges = ranges_after p k.ranges })

-- one thing on the way, whose value may be needed behind it
abbrev pub along_by : Header → Bool → Known → Result Known LinearFault
along_by (Round v l u s) needed k = in_loop v l u s k
along_by (Given set operands) needed k = in_condition set operands k
along_by (Except set operands first) needed k = Ok k
along_by (Behind p) needed k = behind_by p needed k
along_by (Past n) needed k = Ok k

-- where these names are used behind it
abbrev pub formed_behind : Plain → List Name → Known → Result Known LinearFault
formed_behind p names = formed_by p (plain_needed p names)

abbrev pub behind_plain : Plain → List Name → Known → Result Known LinearFault
behind_plain p names = behind_by p (plain_needed p names)

abbrev pub along_one : Header → List Name → Known → Result Known LinearFault
along_one h names = along_by h (needed h names)

-- the way to a place that uses names of its own
unfoldable pub along : List Header → List Name → Known → Result Known LinearFault
along [] own k = Ok k
along (h ∷ hs) own k = along_one h (used hs own) k >>= along hs own

-- ---- the arguments
abbrev pub count_of : ArgKind → ℕ
count_of (Memref ty) = 0
count_of (Index range) = 1

abbrev pub symbol_count : List Arg → ℕ
symbol_count [] = 0
symbol_count (arg ∷ args) = count_of arg.kind + symbol_count args

abbrev pub names_of : ArgKind → Name → List Name
names_of (Memref ty) n = []
names_of (Index range) n = n ∷ []

abbrev pub symbol_names : List Arg → List Name
symbol_names [] = []
symbol_names (arg ∷ args) = names_of arg.kind arg.name ++ symbol_names args

abbrev pub with_symbol : Name → Range → Form → Known → Result Known LinearFault
with_symbol n range x k = do
  low ← minus x (number_form 0 range.least)
  high ← minus (number_form 0 range.greatest) x
  Ok (record k { forms = put k.forms n (Some x); ranges = put k.ranges n range; outer = suc k.outer; symbols = k.symbols ++ low ∷ high ∷ [] })

abbrev pub with_kind : ArgKind → Name → Known → Result Known LinearFault
with_kind (Memref ty) n k = Ok k
with_kind (Index range) n k = with_symbol n (record { least = (range_or range).least; greatest = (range_or range).greatest }) (variable_form k.next k.outer) k

abbrev pub with_arguments : List Arg → Known → Result Known LinearFault
with_arguments [] k = Ok k
with_arguments (arg ∷ args) k = with_kind arg.kind arg.name k >>= with_arguments args

-- nothing is known; there are to be so many symbols and loops
abbrev pub nothing_known : ℕ → Known
nothing_known n = record { forms = λ m. None; ranges = λ m. only (pos 0); outer = 0; next = n; symbols = []; loops = []; conditions = []; locals = []; goings = [] }

-- ---- a place
-- what is known at the end of a way in a module, where names are used
unfoldable pub place : List Arg → List Header → List Name → Result Known LinearFault
place args way own = with_arguments args (nothing_known (symbol_count args + loop_count way)) >>= along way own

-- a form as a row with exactly so many coefficients
unfoldable pub row_at : ℕ → Form → LinearRow
row_at n f = record { coefs = take n (padded n f).coefs; constant = f.constant }

-- the rows in their order, each with a coefficient for each variable
unfoldable pub system_of : Known → LinearSystem
system_of k = record { vars = k.next; rows = map (row_at k.next) (k.symbols ++ (k.loops ++ (k.conditions ++ k.locals))) }

-- what is known at an access, its subscripts among it, and their forms
pub record Accessed : Type 0 where
  pub known : Known
  pub forms : List Form

abbrev pub with_subscripts : Formed → Known → Result Accessed LinearFault
with_subscripts formed k = do
  g ← with_divisions formed.locals k
  Ok (record { known = g; forms = formed.forms })

unfoldable pub access : List Arg → List Header → Access → Result Accessed LinearFault
access args way at = do
  k ← place args way at.operands
  formed ← map_forms k.forms k.next at []
  with_subscripts formed k
