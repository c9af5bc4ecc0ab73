-- The linear form of an affine expression: over the dimensions, then the symbols, then the locals of its divisions.
use Rattle.std.specs.Prelude.{◌≡◌, ℕ, zero, suc, ◌+◌, ◌-◌, ℤ, pos, neg_ℤ, ◌+ℤ◌, ◌-ℤ◌, ◌*ℤ◌, int_lt, if◌then◌else◌, List, [], ◌∷◌, ◌++◌, length, slice_get, slice_set, replicate, Option, Some, None, Result, Ok, Err}
use Rattle.num_row.specs.Ints.{narrowed}
use Rattle.affine_expr.specs.declared.expr.Expr.{Expr, fold-Expr}
use Rattle.affine_expr.specs.declared.expr.Expr.TheOpen.{Expr-F}
use Rattle.affine_expr.specs.declared.linear.LinearFault.{LinearFault}
use Rattle.affine_expr.specs.declared.linear.LinearFault.TheVariants.{Wide, Memory}
use Rattle.affine_expr.specs.declared.linear.Join.{Join}
use Rattle.affine_expr.specs.declared.linear.Join.TheVariants.{Sum, Difference}
use Rattle.affine_expr.specs.Value.{floor_div, ceil_div, floor_mod}
use Rattle.affine_expr.specs.Spread.{both_fixed, one_fixed}
use Rattle.affine_expr.specs.Guarded.{small}
use Rattle.affine_expr.specs.Forms.{Form, LocalForm, LinearForm}

-- for `do`: what comes next takes the form, and a refusal stays
infixl 10 ◌>>=◌
abbrev pub ◌>>=◌ : {A B : Type 0} → Result A LinearFault → (A → Result B LinearFault) → Result B LinearFault
Ok x >>= f = f x
Err e >>= f = Err e

abbrev pub or_wide : {A : Type 0} → Option A → Result A LinearFault
or_wide None = Err Wide
or_wide (Some x) = Ok x

-- ---- the value of an expression without dimensions and symbols, whose parts are all within the limits
abbrev pub known_one : (ℤ → ℤ) → Option ℤ → Option ℤ
known_one f None = None
known_one f (Some x) = small (f x)

abbrev pub known_two : (ℤ → ℤ → ℤ) → Option ℤ → Option ℤ → Option ℤ
known_two f None y = None
known_two f (Some x) None = None
known_two f (Some x) (Some y) = small (f x y)

-- a divisor that is known and positive
abbrev pub divisor : Option ℤ → Option ℤ
divisor None = None
divisor (Some c) = if int_lt (pos 0) c then Some c else None

abbrev pub known_step : Expr-F (Option ℤ) → Option ℤ
known_step (Expr-F.Dim n) = None
known_step (Expr-F.Sym n) = None
known_step (Expr-F.Const z) = small z
known_step (Expr-F.Neg a) = known_one neg_ℤ a
known_step (Expr-F.Add a b) = known_two (λ x y. x +ℤ y) a b
known_step (Expr-F.Sub a b) = known_two (λ x y. x -ℤ y) a b
known_step (Expr-F.Mul a b) = known_two (λ x y. x *ℤ y) a b
known_step (Expr-F.FloorDiv a b) = known_two floor_div a (divisor b)
known_step (Expr-F.CeilDiv a b) = known_two ceil_div a (divisor b)
known_step (Expr-F.Mod a b) = known_two floor_mod a (divisor b)

abbrev pub known_value : Expr → Option ℤ
known_value = fold-Expr (Option ℤ) known_step

-- ---- sums, differences and multiples of forms, whose numbers are tested as they stand
abbrev pub joined : Join → ℤ → ℤ → ℤ
joined Sum x y = x +ℤ y
joined Difference x y = x -ℤ y

abbrev pub first : List ℤ → ℤ
first [] = pos 0
first (x ∷ xs) = x

abbrev pub others : List ℤ → List ℤ
others [] = []
others (x ∷ xs) = xs

-- coefficient by coefficient; the first list counts as filled with zeros up to the second one's length
abbrev pub join_coefs : Join → List ℤ → List ℤ → Result (List ℤ) LinearFault
join_coefs way xs [] = Ok []
join_coefs way xs (y ∷ ys) = do
  z ← or_wide (narrowed (joined way (first xs) y))
  zs ← join_coefs way (others xs) ys
  Ok (z ∷ zs)

unfoldable pub join_forms : Join → Form → Form → Result Form LinearFault
join_forms way f g = do
  coefs ← join_coefs way f.coefs g.coefs
  constant ← or_wide (narrowed (joined way f.constant g.constant))
  Ok (record { coefs = coefs; constant = constant })

abbrev pub scale_coefs : ℤ → List ℤ → Result (List ℤ) LinearFault
scale_coefs k [] = Ok []
scale_coefs k (x ∷ xs) = do
  z ← or_wide (narrowed (k *ℤ x))
  zs ← scale_coefs k xs
  Ok (z ∷ zs)

unfoldable pub scale_form : ℤ → Form → Result Form LinearFault
scale_form k f = do
  coefs ← scale_coefs k f.coefs
  constant ← or_wide (narrowed (k *ℤ f.constant))
  Ok (record { coefs = coefs; constant = constant })

-- what follows the coefficients so far, in front of it
abbrev pub after : List ℤ → Result (List ℤ) LinearFault → Result (List ℤ) LinearFault
after xs (Ok ys) = Ok (xs ++ ys)
after xs (Err e) = Err e

-- ---- forms over so many variables
unfoldable pub number_form : ℕ → ℤ → Form
number_form width z = record { coefs = replicate width (pos 0); constant = z }

unfoldable pub variable_form : ℕ → ℕ → Form
variable_form width place = record { coefs = slice_set (replicate width (pos 0)) place (pos 1); constant = pos 0 }

-- the forms of so many variables, from the one at a place on
abbrev pub variable_forms : ℕ → ℕ → ℕ → List Form
variable_forms width place zero = []
variable_forms width place (suc count) = variable_form width place ∷ variable_forms width (suc place) count

-- a form over at least so many variables
unfoldable pub padded : ℕ → Form → Form
padded n f = record { coefs = f.coefs ++ replicate (n - length f.coefs) (pos 0); constant = f.constant }

-- the sum or the difference of two forms over whichever variables, whose own numbers are tested
abbrev pub combined : Join → Form → Form → Result Form LinearFault
combined way f g = join_forms way f (padded (length f.coefs) g)

-- f - g
unfoldable pub minus : Form → Form → Result Form LinearFault
minus f g = combined Difference f g

-- a form, and the locals that stand after it
pub record State : Type 0 where
  pub form : Form
  pub locals : List LocalForm

abbrev pub state : Form → List LocalForm → State
state f ls = record { form = f; locals = ls }

-- the local that is the floor of a form over c
abbrev pub local_of : Form → ℤ → LocalForm
local_of f c = record { coefs = f.coefs; constant = f.constant; divisor = c }

-- the floor: one more local, and the form that is this local
unfoldable pub floored_form : Form → ℤ → List LocalForm → State
floored_form f c ls = record {
  form = record { coefs = replicate (length f.coefs) (pos 0) ++ pos 1 ∷ []; constant = pos 0 };
  locals = ls ++ local_of f c ∷ [];
}

-- the remainder: one more local q, and the form f - c * q
unfoldable pub rest_form : Form → ℤ → List LocalForm → State
rest_form f c ls = record {
  form = record { coefs = f.coefs ++ neg_ℤ c ∷ []; constant = f.constant };
  locals = ls ++ local_of f c ∷ [];
}

-- f + c - 1, whose floor over c is the ceiling of f over c
unfoldable pub raised : Form → ℤ → Result Form LinearFault
raised f c = do
  constant ← or_wide (narrowed (f.constant +ℤ (c -ℤ pos 1)))
  Ok (record { coefs = f.coefs; constant = constant })

-- ---- level by level: the value of a part where it is known, and its form behind the locals so far
pub record Part : Type 0 where
  pub known : Option ℤ
  pub form : List LocalForm → Result State LinearFault

abbrev pub joined_by : Join → Part → Part → List LocalForm → Result State LinearFault
joined_by way a b ls = do
  f ← a.form ls
  g ← b.form f.locals
  h ← combined way f.form g.form
  Ok (state h g.locals)

abbrev pub scaled_by : ℤ → Part → List LocalForm → Result State LinearFault
scaled_by k a ls = do
  f ← a.form ls
  h ← scale_form k f.form
  Ok (state h f.locals)

-- a side of a product that is known counts by its value and forms nothing, the right one where both are known. A
-- product without such a side isn't affine: purity excludes it
abbrev pub product_by : Part → Part → Option ℤ → Option ℤ → List LocalForm → Result State LinearFault
product_by a b x (Some k) ls = scaled_by k a ls
product_by a b (Some k) None ls = scaled_by k b ls
product_by a b None None ls = Err Wide

-- a divisor counts by its value. Another divisor than a known positive one is excluded by purity
abbrev pub floor_by : Part → Option ℤ → List LocalForm → Result State LinearFault
floor_by a None ls = Err Wide
floor_by a (Some c) ls = do
  f ← a.form ls
  Ok (floored_form f.form c f.locals)

abbrev pub ceil_by : Part → Option ℤ → List LocalForm → Result State LinearFault
ceil_by a None ls = Err Wide
ceil_by a (Some c) ls = do
  f ← a.form ls
  g ← raised f.form c
  Ok (floored_form g c f.locals)

abbrev pub rest_by : Part → Option ℤ → List LocalForm → Result State LinearFault
rest_by a None ls = Err Wide
rest_by a (Some c) ls = do
  f ← a.form ls
  Ok (rest_form f.form c f.locals)

-- a dimension's or symbol's form, behind the locals so far. Where there is none, nothing is formed
abbrev pub leaf : ℕ → Option Form → List LocalForm → Result State LinearFault
leaf width None ls = Err Wide
leaf width (Some f) ls = Ok (state (padded (width + length ls) f) ls)

-- one level of an expression whose dimensions and symbols have these forms, over so many variables before its locals. A
-- divisor that isn't a known positive number is excluded by purity
abbrev pub over_step : ℕ → List Form → List Form → Expr-F Part → Part
over_step width ds ss (Expr-F.Dim n) = record { known = None; form = leaf width (slice_get ds n) }
over_step width ds ss (Expr-F.Sym n) = record { known = None; form = leaf width (slice_get ss n) }
over_step width ds ss (Expr-F.Const z) = record { known = Some z; form = λ ls. Ok (state (number_form (width + length ls) z) ls) }
over_step width ds ss (Expr-F.Neg a) = record { known = one_fixed neg_ℤ a.known; form = scaled_by (neg_ℤ (pos 1)) a }
over_step width ds ss (Expr-F.Add a b) = record { known = both_fixed (λ x y. x +ℤ y) a.known b.known; form = joined_by Sum a b }
over_step width ds ss (Expr-F.Sub a b) = record { known = both_fixed (λ x y. x -ℤ y) a.known b.known; form = joined_by Difference a b }
over_step width ds ss (Expr-F.Mul a b) = record { known = both_fixed (λ x y. x *ℤ y) a.known b.known; form = product_by a b a.known b.known }
over_step width ds ss (Expr-F.FloorDiv a b) = record { known = both_fixed floor_div a.known b.known; form = floor_by a (divisor b.known) }
over_step width ds ss (Expr-F.CeilDiv a b) = record { known = both_fixed ceil_div a.known b.known; form = ceil_by a (divisor b.known) }
over_step width ds ss (Expr-F.Mod a b) = record { known = both_fixed floor_mod a.known b.known; form = rest_by a (divisor b.known) }

-- the form of an expression over the forms of its dimensions and symbols
unfoldable pub over : ℕ → List Form → List Form → Expr → Part
over width ds ss = fold-Expr Part (over_step width ds ss)

abbrev pub finished : Result State LinearFault → Result LinearForm LinearFault
finished (Ok st) = Ok (record { coefs = st.form.coefs; constant = st.form.constant; locals = st.locals })
finished (Err e) = Err e

-- the linear form of a pure expression over its own dimensions and symbols, and `Wide` where a coefficient or constant that is formed, bottom up, isn't in
-- 128 bits
unfoldable pub linear_of : ℕ → ℕ → Expr → Result LinearForm LinearFault
linear_of dims syms e = finished ((over (dims + syms) (variable_forms (dims + syms) 0 dims) (variable_forms (dims + syms) dims syms) e).form [])

-- ---- the same as it is found in numbers of 64 bits: a part counts as known where its value and those of its own parts
-- are within 2 ^ 62
abbrev pub part_step : ℕ → List Form → List Form → Expr-F Part → Part
part_step width ds ss (Expr-F.Dim n) = record { known = None; form = leaf width (slice_get ds n) }
part_step width ds ss (Expr-F.Sym n) = record { known = None; form = leaf width (slice_get ss n) }
part_step width ds ss (Expr-F.Const z) = record { known = small z; form = λ ls. Ok (state (number_form (width + length ls) z) ls) }
part_step width ds ss (Expr-F.Neg a) = record { known = known_one neg_ℤ a.known; form = scaled_by (neg_ℤ (pos 1)) a }
part_step width ds ss (Expr-F.Add a b) = record { known = known_two (λ x y. x +ℤ y) a.known b.known; form = joined_by Sum a b }
part_step width ds ss (Expr-F.Sub a b) = record { known = known_two (λ x y. x -ℤ y) a.known b.known; form = joined_by Difference a b }
part_step width ds ss (Expr-F.Mul a b) = record { known = known_two (λ x y. x *ℤ y) a.known b.known; form = product_by a b a.known b.known }
part_step width ds ss (Expr-F.FloorDiv a b) = record { known = known_two floor_div a.known (divisor b.known); form = floor_by a (divisor b.known) }
part_step width ds ss (Expr-F.CeilDiv a b) = record { known = known_two ceil_div a.known (divisor b.known); form = ceil_by a (divisor b.known) }
part_step width ds ss (Expr-F.Mod a b) = record { known = known_two floor_mod a.known (divisor b.known); form = rest_by a (divisor b.known) }

abbrev pub part_of : ℕ → List Form → List Form → Expr → Part
part_of width ds ss = fold-Expr Part (part_step width ds ss)

-- the form that is found of an expression behind the locals so far
abbrev pub formed : ℕ → List Form → List Form → Expr → List LocalForm → Result State LinearFault
formed width ds ss e = (part_of width ds ss e).form

-- ---- what code answers: want of memory says nothing
abbrev pub Meets : {A B : Type 0} → Result A LinearFault → (B → A) → Result B LinearFault → Type 0
Meets wanted shape (Ok x) = wanted ≡ Ok (shape x)
Meets wanted shape (Err Memory) = Unit {0}
Meets wanted shape (Err Wide) = wanted ≡ Err Wide

abbrev pub GivesForm : Result State LinearFault → List LocalForm → Result Form LinearFault → Type 0
GivesForm wanted locals (Ok f) = wanted ≡ Ok (state f locals)
GivesForm wanted locals (Err Memory) = Unit {0}
GivesForm wanted locals (Err Wide) = wanted ≡ Err Wide
