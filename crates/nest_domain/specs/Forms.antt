-- Linear forms of several expressions over the forms of their operands, and the rows of their locals.
use Rattle.std.specs.Prelude.{ℕ, pos, neg_ℤ, ◌-ℤ◌, List, [], ◌∷◌, ◌++◌, length, Result, Ok}
use Rattle.affine_expr.specs.declared.expr.Expr.{Expr}
use Rattle.affine_expr.specs.declared.linear.LinearFault.{LinearFault}
use Rattle.affine_expr.specs.declared.linear.Join.TheVariants.{Difference}
use Rattle.affine_expr.specs.Forms.{Form, LocalForm}
use Rattle.affine_expr.specs.Linear.{◌>>=◌, join_forms, number_form, over}

-- what a function gives for each of a list, where it refuses none
abbrev pub try_each : {A B : Type 0} → (A → Result B LinearFault) → List A → Result (List B) LinearFault
try_each f [] = Ok []
try_each f (x ∷ xs) = do
  y ← f x
  ys ← try_each f xs
  Ok (y ∷ ys)

-- several forms, and the locals that stand after them
pub record Formed : Type 0 where
  pub forms : List Form
  pub locals : List LocalForm

-- the forms of expressions one after the other
abbrev pub all_over : ℕ → List Form → List Form → List Expr → List LocalForm → Result Formed LinearFault
all_over width ds ss [] ls = Ok (record { forms = []; locals = ls })
all_over width ds ss (e ∷ es) ls = do
  f ← (over width ds ss e).form ls
  rest ← all_over width ds ss es f.locals
  Ok (record { forms = f.form ∷ rest.forms; locals = rest.locals })

-- the rows of a local q that is the floor of f over c: `f - c * q >= 0` and `c - 1 - f + c * q >= 0`
abbrev pub floor_rows : LocalForm → Result (List Form) LinearFault
floor_rows l = do
  high ← join_forms Difference (number_form (length l.coefs) (l.divisor -ℤ pos 1)) (record { coefs = l.coefs; constant = l.constant })
  Ok (record { coefs = l.coefs ++ neg_ℤ l.divisor ∷ []; constant = l.constant } ∷ record { coefs = high.coefs ++ l.divisor ∷ []; constant = high.constant } ∷ [])

abbrev pub all_floor_rows : List LocalForm → Result (List Form) LinearFault
all_floor_rows [] = Ok []
all_floor_rows (l ∷ ls) = do
  rows ← floor_rows l
  rest ← all_floor_rows ls
  Ok (rows ++ rest)
