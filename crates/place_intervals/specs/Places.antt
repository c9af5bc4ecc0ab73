-- The place of a dimension as a template writes it, its interval, and whether the expressions over it keep to the rule on intervals:
-- that each has an interval within -2^62 to 2^62.
use Rattle.std.specs.Prelude.{ℕ, suc, ℤ, pos, neg_ℤ, ◌+ℤ◌, ◌-ℤ◌, Bool, true, false, ◌&&◌, if◌then◌else◌, int_lt, List, [], ◌∷◌, Option, Some, None}
use Rattle.std.specs.Int.{int_min, int_max}
use Rattle.std.specs.Ordering.{int_eq}
use Rattle.affine_expr.specs.declared.expr.Expr.{Expr, Dim, Const, Neg, Add, Sub, Mul}
use Rattle.constraint_set.specs.Tidy.{all_zero}
use Rattle.affine_expr.specs.Spread.{Range, Spread, only}
use Rattle.affine_expr.specs.Bounded.{bounded}
use Rattle.affine_expr.specs.Pure.{is_outside}
use Rattle.nest_domain.specs.Boxes.{Dimension}

-- ---- the expression of a place, over the variables with a coefficient other than 0
-- a first term
abbrev pub first_term : ℕ → ℤ → Expr
first_term n a = if int_eq a (pos 1) then Dim n else (if int_eq a (neg_ℤ (pos 1)) then Neg (Dim n) else Mul (Dim n) (Const a))

-- a further one, by the size of its coefficient
abbrev pub size_term : ℕ → ℤ → Expr
size_term n a = if int_eq a (pos 1) then Dim n else Mul (Dim n) (Const a)

abbrev pub with_term : Expr → ℕ → ℤ → Expr
with_term e n a = if int_lt a (pos 0) then Sub e (size_term n (neg_ℤ a)) else Add e (size_term n a)

abbrev pub with_number : Expr → ℤ → Expr
with_number e k = if int_eq k (pos 0) then e else (if int_lt k (pos 0) then Sub e (Const (neg_ℤ k)) else Add e (Const k))

abbrev pub terms_behind : Expr → ℕ → List ℤ → Expr
terms_behind e n [] = e
terms_behind e n (a ∷ cs) = if int_eq a (pos 0) then terms_behind e n cs else terms_behind (with_term e n a) (suc n) cs

-- the terms in order, and then the constant; the constant alone where there is no term
abbrev pub place_expr : List ℤ → ℤ → Expr
place_expr [] k = Const k
place_expr (a ∷ cs) k = if int_eq a (pos 0) then place_expr cs k else with_number (terms_behind (first_term 0 a) 1 cs) k

-- of a list with a member for each variable, those of the variables that the expression names
abbrev pub chosen : {A : Type 0} → List ℤ → List A → List A
chosen [] xs = []
chosen (a ∷ cs) [] = []
chosen (a ∷ cs) (x ∷ xs) = if int_eq a (pos 0) then chosen cs xs else x ∷ chosen cs xs

-- ---- the intervals of places
abbrev pub range_of_spread : Option Spread → Option Range
range_of_spread (Some s) = Some s.range
range_of_spread None = None

-- of `affine.min` with N - e, and then `affine.max` with 0
abbrev pub clamped_range : Bool → ℤ → Option Range → Option Range
clamped_range c most None = None
clamped_range true most (Some r) = Some (record { least = int_max (pos 0) (int_min r.least most); greatest = int_max (pos 0) (int_min r.greatest most) })
clamped_range false most (Some r) = Some r

-- a constant place that is clamped is the clamped number, and nothing else is written of it
abbrev pub number_range : ℤ → ℤ → Range
number_range most k = only (int_max (pos 0) (int_min k most))

-- the interval of the place of a dimension, over the intervals of the outer variables, and none where one of its parts leaves the
-- limits
abbrev pub place_range : List Range → ℕ → Dimension → Option Range
place_range outer size d =
    if d.clamped && all_zero d.coefs
    then Some (number_range (pos size -ℤ d.extent) d.offset)
    else clamped_range d.clamped (pos size -ℤ d.extent) (range_of_spread (bounded (chosen d.coefs outer) [] (place_expr d.coefs d.offset)))

abbrev pub with_range : Option Range → Option (List Range) → Option (List Range)
with_range (Some r) (Some rs) = Some (r ∷ rs)
with_range (Some r) None = None
with_range None rs = None

abbrev pub place_ranges : List Range → List ℕ → List Dimension → Option (List Range)
place_ranges outer (size ∷ sizes) (d ∷ ds) = with_range (place_range outer size d) (place_ranges outer sizes ds)
place_ranges outer sizes ds = Some []

-- both ends keep to the limits
abbrev pub fits : ℤ → ℤ → Bool
fits least greatest = if is_outside least then false else (if is_outside greatest then false else true)

-- `iv + place` of a copy loop, for iv from 0 to the extent less 1
abbrev pub copies_fit : List Dimension → List Range → Bool
copies_fit (d ∷ ds) (r ∷ rs) = fits r.least (r.greatest +ℤ (d.extent -ℤ pos 1)) && copies_fit ds rs
copies_fit ds rs = true

-- `e - place` of an access whose subscripts have these intervals
abbrev pub subscripts_fit : List Range → List Range → Bool
subscripts_fit (e ∷ es) (r ∷ rs) = fits (e.least -ℤ r.greatest) (e.greatest -ℤ r.least) && subscripts_fit es rs
subscripts_fit es rs = true
