-- What code answers of forms along a way and of covers, against what is wanted. Want of memory is free.
use Rattle.std.specs.Prelude.{◌≡◌, List, ◌++◌, Result, Ok, Err}
use Rattle.constraint_set.specs.Lists.{Each}
use Rattle.affine_expr.specs.declared.linear.LinearFault.{LinearFault}
use Rattle.affine_expr.specs.declared.linear.LinearFault.TheVariants.{Wide, Memory}
use Rattle.affine_ast.specs.Intervals.{Ranges}
use Rattle.nest_domain.specs.Ways.{Header}
use Rattle.nest_domain.specs.Table.{forms_of}
use Rattle.nest_domain.specs.Ready.{ReadyHeader}
use Rattle.nest_domain.specs.Domains.{Going}
use Rattle.box_covers.specs.declared.along.TracedForms.{TracedForms}
use Rattle.box_covers.specs.Traced.{Traced, with_going}

abbrev pub traced_of : TracedForms → Traced
traced_of k = record { forms = forms_of k.forms.entries; outer = k.outer; next = k.next }

-- what is wanted, or memory is wanting
abbrev pub Tells : {A B : Type 0} → A → (B → A) → Result B LinearFault → Type 0
Tells wanted shape (Ok x) = shape x ≡ wanted
Tells wanted shape (Err Memory) = Unit {0}
Tells wanted shape (Err Wide) = ⊥

-- each thing on a way can be formed over some ranges
abbrev pub AreReady : List Header → Type 0
AreReady hs = Each (λ h. (rho : Ranges) × ReadyHeader h rho) hs

-- these, and then what follows
abbrev pub behind_goings : List Going → Result (List Going) LinearFault → Result (List Going) LinearFault
behind_goings xs (Ok ys) = Ok (xs ++ ys)
behind_goings xs (Err e) = Err e

-- with what one thing on the way goes over, or the refusal of a form
abbrev pub AddsGoing : Header → Traced → List Going → List Going → Result (Unit {0}) LinearFault → Type 0
AddsGoing h k old new (Ok done) = (rest : Result (List Going) LinearFault) → behind_goings old (with_going h k rest) ≡ behind_goings new rest
AddsGoing h k old new (Err Memory) = Unit {0}
AddsGoing h k old new (Err Wide) = (rest : Result (List Going) LinearFault) → with_going h k rest ≡ Err Wide
