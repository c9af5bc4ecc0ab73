-- Why there is no region, and what a call answers of it.
use Rattle.std.specs.Prelude.{◌≡◌, List, ◌++◌, Result, Ok, Err}
use Rattle.constraint_set.specs.Elimination.{Refusal, too_wide, too_many}
use Rattle.affine_expr.specs.declared.linear.LinearFault.{LinearFault}
use Rattle.access_region.specs.declared.fault.RegionFault.{RegionFault}
use Rattle.access_region.specs.declared.fault.RegionFault.TheVariants as fault

-- an access isn't affine, or none is left; a number isn't in 128 bits; there are too many variables or rows
pub data NoRegion : Type 0 where
  unplaced : NoRegion
  coefficient : NoRegion
  many_rows : NoRegion

-- for `do`: what comes next takes the value, and a refusal stays
infixl 10 ◌>>=◌
abbrev pub ◌>>=◌ : {A B : Type 0} → Result A NoRegion → (A → Result B NoRegion) → Result B NoRegion
Ok x >>= f = f x
Err e >>= f = Err e

-- a form that leaves 128 bits
abbrev pub by_form : {A : Type 0} → Result A LinearFault → Result A NoRegion
by_form (Ok x) = Ok x
by_form (Err e) = Err coefficient

-- an elimination that is refused
abbrev pub refused : Refusal → NoRegion
refused too_wide = coefficient
refused too_many = many_rows

abbrev pub by_elimination : {A : Type 0} → Result A Refusal → Result A NoRegion
by_elimination (Ok x) = Ok x
by_elimination (Err e) = Err (refused e)

-- ---- what code answers: want of memory says nothing
abbrev pub IsRefused : {A : Type 0} → Result A NoRegion → RegionFault → Type 0
IsRefused wanted fault.Region = wanted ≡ Err unplaced
IsRefused wanted fault.Coefficient = wanted ≡ Err coefficient
IsRefused wanted fault.Rows = wanted ≡ Err many_rows
IsRefused wanted fault.Memory = Unit {0}

abbrev pub Meets : {A B : Type 0} → Result A NoRegion → (B → A) → Result B RegionFault → Type 0
Meets wanted shape (Ok x) = wanted ≡ Ok (shape x)
Meets wanted shape (Err e) = IsRefused wanted e

-- a list, and then what a later step gives
abbrev pub after : {A : Type 0} → List A → Result (List A) NoRegion → Result (List A) NoRegion
after xs (Ok ys) = Ok (xs ++ ys)
after xs (Err e) = Err e

-- what is there now is what is wanted, or the refusal is
abbrev pub Leaves : {A B : Type 0} → Result A NoRegion → A → Result B RegionFault → Type 0
Leaves wanted new (Ok x) = wanted ≡ Ok new
Leaves wanted new (Err e) = IsRefused wanted e
