-- Answers of calls that may be refused, against the answer that is wanted. Want of memory is free.
use Rattle.std.specs.Prelude.{◌≡◌, List, ◌++◌, Result, Ok, Err}
use Rattle.constraint_set.specs.Elimination.{Refusal, too_wide, too_many}
use Rattle.projection.specs.declared.fault.ReachFault.{ReachFault}
use Rattle.projection.specs.declared.fault.ReachFault.TheVariants.{Wide, Rows, Memory}

-- the refusal is the one that is wanted, or memory ran out
abbrev pub IsRefused : {A : Type 0} → Result A Refusal → ReachFault → Type 0
IsRefused wanted Wide = wanted ≡ Err too_wide
IsRefused wanted Rows = wanted ≡ Err too_many
IsRefused wanted Memory = Unit {0}

-- the answer, seen by its shape, or the refusal is the one that is wanted
abbrev pub Meets : {A B : Type 0} → Result A Refusal → (B → A) → Result B ReachFault → Type 0
Meets wanted shape (Ok x) = wanted ≡ Ok (shape x)
Meets wanted shape (Err e) = IsRefused wanted e

-- a list, and then what a later step gives
abbrev pub after : {A : Type 0} → List A → Result (List A) Refusal → Result (List A) Refusal
after xs (Ok ys) = Ok (xs ++ ys)
after xs (Err e) = Err e

-- the list grew by what is wanted, or the refusal is the one that is wanted
abbrev pub Appends : {A B : Type 0} → Result (List A) Refusal → List A → List A → Result B ReachFault → Type 0
Appends wanted old new (Ok x) = after old wanted ≡ Ok new
Appends wanted old new (Err e) = IsRefused wanted e
