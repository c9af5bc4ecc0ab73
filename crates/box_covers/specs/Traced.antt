-- The forms of names along a way, and those of the bounds of the loops on it. A form that leaves 128 bits is none, and touches no name that
-- doesn't use it. No row is formed.
use Rattle.std.specs.Prelude.{ℕ, suc, ◌+◌, ℤ, List, [], ◌∷◌, length, Option, Some, None, Result, Ok, Err}
use Rattle.affine_expr.specs.declared.linear.LinearFault.{LinearFault}
use Rattle.affine_expr.specs.Forms.{Form}
use Rattle.affine_expr.specs.Linear.{◌>>=◌, number_form, variable_form}
use Rattle.affine_ast.specs.declared.module.Arg.{Arg}
use Rattle.affine_ast.specs.declared.module.ArgKind.{ArgKind}
use Rattle.affine_ast.specs.declared.module.ArgKind.TheVariants.{Memref, Index}
use Rattle.affine_ast.specs.declared.name.Name.{Name}
use Rattle.affine_ast.specs.declared.types.Access.{Access}
use Rattle.affine_ast.specs.declared.types.Bound.{Bound}
use Rattle.affine_ast.specs.declared.types.Pick.{Pick}
use Rattle.affine_ast.specs.declared.types.Pick.TheVariants.{Apply, Min, Max}
use Rattle.affine_ast.specs.declared.types.Scalar.{Scalar}
use Rattle.affine_ast.specs.declared.types.Scalar.TheVariants as scalar
use Rattle.affine_ast.specs.Names.{put}
use Rattle.affine_ast.specs.Nest.{Plain, Value, Load, RawLoad, Constant, Binary, Cast}
use Rattle.nest_domain.specs.Ways.{Header, Round, Given, Except, Behind, Past}
use Rattle.nest_domain.specs.Forms.{Formed}
use Rattle.nest_domain.specs.Domains.{Going, map_forms, bound_forms}

-- the forms of names, how many symbols and loops there are so far, and the number of the next local
pub record Traced : Type 0 where
  pub forms : Name → Option Form
  pub outer : ℕ
  pub next : ℕ

-- nothing is known; there are to be so many symbols and loops
abbrev pub nothing_traced : ℕ → Traced
nothing_traced n = record { forms = λ m. None; outer = 0; next = n }

-- a name with this form, or with none
abbrev pub with_form : Name → Option Form → Traced → Traced
with_form n f k = record { forms = put k.forms n f; outer = k.outer; next = k.next }

-- the next symbol or loop
abbrev pub with_variable : Name → Traced → Traced
with_variable n k = record { forms = put k.forms n (Some (variable_form k.next k.outer)); outer = suc k.outer; next = k.next }

-- a name that is a local
abbrev pub with_local : Name → Traced → Traced
with_local n k = record { forms = put k.forms n (Some (variable_form (suc k.next) k.next)); outer = k.outer; next = suc k.next }

abbrev pub first_form : List Form → Option Form
first_form [] = None
first_form (f ∷ fs) = Some f

-- a result of `affine.apply` is its form, with the locals of its divisions
abbrev pub with_result : Name → Result Formed LinearFault → Traced → Traced
with_result n (Ok formed) k = record { forms = put k.forms n (first_form formed.forms); outer = k.outer; next = k.next + length formed.locals }
with_result n (Err e) k = with_form n None k

-- a result of `affine.min` or `affine.max` is a local, whatever its map
abbrev pub with_value : Name → Pick → Access → Traced → Traced
with_value n Apply at k = with_result n (map_forms k.forms k.next at []) k
with_value n Min at k = with_local n k
with_value n Max at k = with_local n k

-- a constant of type `index` is its number, data has no form
abbrev pub with_constant : Name → ℤ → Scalar → Traced → Traced
with_constant n z (scalar.Int element) k = with_form n None k
with_constant n z scalar.Index k = with_form n (Some (number_form 0 z)) k

abbrev pub behind_plain : Plain → Traced → Traced
behind_plain (Value r pick at) k = with_value r pick at k
behind_plain (Constant r z ty) k = with_constant r z ty k
behind_plain (Load r m at ty) k = with_form r None k
behind_plain (RawLoad r m at ty) k = with_form r None k
behind_plain (Binary r op a b ty) k = with_form r None k
behind_plain (Cast r kind x from to) k = with_form r None k
behind_plain p k = k

-- behind one thing on the way; a loop's variable is a variable, whatever its bounds
abbrev pub behind_one : Header → Traced → Traced
behind_one (Round v l u s) k = with_variable v k
behind_one (Given set names) k = k
behind_one (Except set names first) k = k
behind_one (Behind p) k = behind_plain p k
behind_one (Past n) k = k

-- behind a way
abbrev pub traced : List Header → Traced → Traced
traced [] k = k
traced (h ∷ hs) k = traced hs (behind_one h k)

-- ---- before the body of a module: its index arguments
abbrev pub with_kind : ArgKind → Name → Traced → Traced
with_kind (Memref ty) n k = k
with_kind (Index range) n k = with_variable n k

abbrev pub with_arguments : List Arg → Traced → Traced
with_arguments [] k = k
with_arguments (arg ∷ args) k = with_arguments args (with_kind arg.kind arg.name k)

-- ---- loops
-- what a loop goes over. The locals of its bounds are those of no other form, so what follows may give their numbers again
abbrev pub going : Bound → Bound → ℤ → Traced → Result Going LinearFault
going l u s k = do
  low ← bound_forms k.forms k.next l []
  high ← bound_forms k.forms k.next u low.locals
  Ok (record { lowers = low.forms; uppers = high.forms; step = s })

-- a loop, and then those within it
abbrev pub with_going : Header → Traced → Result (List Going) LinearFault → Result (List Going) LinearFault
with_going (Round v l u s) k rest = do
  g ← going l u s k
  gs ← rest
  Ok (g ∷ gs)
with_going (Given set names) k rest = rest
with_going (Except set names first) k rest = rest
with_going (Behind p) k rest = rest
with_going (Past n) k rest = rest

-- the loops on a way, from the outside in
abbrev pub goings : List Header → Traced → Result (List Going) LinearFault
goings [] k = Ok []
goings (h ∷ hs) k = with_going h k (goings hs (behind_one h k))

-- the loops round an access, from a loop on, and the forms of its subscripts
pub record Swept : Type 0 where
  pub goings : List Going
  pub forms : List Form

abbrev pub with_subscripts : List Going → Result Formed LinearFault → Result Swept LinearFault
with_subscripts gs (Ok formed) = Ok (record { goings = gs; forms = formed.forms })
with_subscripts gs (Err e) = Err e

-- from what is known before the loop
abbrev pub swept : List Header → Access → Traced → Result Swept LinearFault
swept inner at k = do
  gs ← goings inner k
  with_subscripts gs (map_forms (traced inner k).forms (traced inner k).next at [])
