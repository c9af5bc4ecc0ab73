-- The interval of a place, term by term.
use Rattle.std.specs.Prelude.{ℤ, pos, neg_ℤ, ◌+ℤ◌, ◌-ℤ◌, if◌then◌else◌, ◌||◌, int_lt, List, [], ◌∷◌, Option, Some, None, option_map}
use Rattle.std.specs.Ordering.{int_eq}
use Rattle.affine_expr.specs.Spread.{Range, only, scaled}
use Rattle.affine_expr.specs.Bounded.{◌>>=◌}
use Rattle.affine_expr.specs.Pure.{is_outside}

-- an interval within the limits
abbrev pub kept : Range → Option Range
kept r = if is_outside r.least || is_outside r.greatest then None else Some r

abbrev pub plus : Range → Range → Range
plus r s = record { least = r.least +ℤ s.least; greatest = r.greatest +ℤ s.greatest }

abbrev pub less : Range → Range → Range
less r s = record { least = r.least -ℤ s.greatest; greatest = r.greatest -ℤ s.least }

abbrev pub opposite : Range → Range
opposite r = record { least = neg_ℤ r.greatest; greatest = neg_ℤ r.least }

-- a variable times a number
abbrev pub times : Range → ℤ → Option Range
times r a = do
  x ← kept r
  y ← kept (only a)
  kept (scaled x a)

abbrev pub first_range : Range → ℤ → Option Range
first_range r a = if int_eq a (pos 1) then kept r else (if int_eq a (neg_ℤ (pos 1)) then (kept r >>= (λ x. kept (opposite x))) else times r a)

abbrev pub size_range : Range → ℤ → Option Range
size_range r a = if int_eq a (pos 1) then kept r else times r a

abbrev pub added_range : Range → Range → ℤ → Option Range
added_range e r a = if int_lt a (pos 0) then (size_range r (neg_ℤ a) >>= (λ x. kept (less e x))) else (size_range r a >>= (λ x. kept (plus e x)))

abbrev pub numbered_range : Range → ℤ → Option Range
numbered_range e k = if int_eq k (pos 0) then Some e else (if int_lt k (pos 0) then (kept (only (neg_ℤ k)) >>= (λ x. kept (less e x))) else (kept (only k) >>= (λ x. kept (plus e x))))

-- of a list of intervals, the first; 0 alone where there is none
abbrev pub head : List Range → Range
head [] = only (pos 0)
head (r ∷ rs) = r

abbrev pub tail : List Range → List Range
tail [] = []
tail (r ∷ rs) = rs

abbrev pub terms_range : Range → List ℤ → List Range → Option Range
terms_range e [] rs = Some e
terms_range e (a ∷ cs) rs = if int_eq a (pos 0) then terms_range e cs (tail rs) else (added_range e (head rs) a >>= (λ x. terms_range x cs (tail rs)))

abbrev pub form_range : List ℤ → ℤ → List Range → Option Range
form_range [] k rs = kept (only k)
form_range (a ∷ cs) k rs = if int_eq a (pos 0) then form_range cs k (tail rs) else (first_range (head rs) a >>= (λ x. terms_range x cs (tail rs) >>= (λ y. numbered_range y k)))

-- the interval so far, with the term of one variable more
abbrev pub next_range : Option Range → Range → ℤ → Option Range
next_range None r a = first_range r a
next_range (Some e) r a = added_range e r a

-- the same where the coefficient may be 0; none where a part leaves the limits
abbrev pub step_range : Option Range → Range → ℤ → Option (Option Range)
step_range s r a = if int_eq a (pos 0) then Some s else option_map (λ x. Some x) (next_range s r a)

-- what is left of a form, behind the interval so far
abbrev pub form_from : Option Range → List ℤ → ℤ → List Range → Option Range
form_from None cs k rs = form_range cs k rs
form_from (Some e) cs k rs = terms_range e cs rs >>= (λ y. numbered_range y k)
