-- What code answers at an access and of a path, against what is wanted. Want of memory is free.
use Rattle.std.specs.Prelude.{◌≡◌, Option, Some, None, Result, Ok, Err}
use Rattle.constraint_set.specs.Points.{LinearSystem}
use Rattle.constraint_set.specs.Elimination.{Refusal, too_wide, too_many}
use Rattle.affine_expr.specs.declared.linear.LinearFault.{LinearFault}
use Rattle.affine_expr.specs.declared.linear.LinearFault.TheVariants as form
use Rattle.affine_ast.specs.declared.types.Access.{Access}
use Rattle.affine_ast.specs.Nest.{Nest, Loop, Does, Load, Store}
use Rattle.nest_domain.specs.declared.place.AccessForms.{AccessForms}
use Rattle.nest_domain.specs.declared.fault.DomainFault.{DomainFault}
use Rattle.nest_domain.specs.declared.fault.DomainFault.TheVariants.{Wide, Rows, Memory}
use Rattle.nest_domain.specs.Ways.{Spot}
use Rattle.nest_domain.specs.Domains.{Accessed}
use Rattle.nest_domain.specs.Gathered.{known_of}

abbrev pub accessed_of : AccessForms → Accessed
accessed_of a = record { known = known_of a.known; forms = a.forms.items }

-- a loop stands there
abbrev pub IsLoop : Nest → Type 0
IsLoop (Loop line v l u s body rest) = Unit {0}
IsLoop n = ⊥

-- the subscripts of an affine access that stands there
abbrev pub subscripts : Nest → Option Access
subscripts (Does line (Load r m at ty) rest) = Some at
subscripts (Does line (Store x m at ty) rest) = Some at
subscripts n = None

-- a path names a loop, or an affine access
abbrev pub NamesLoop : Option Spot → Type 0
NamesLoop o = (s : Spot) × (o ≡ Some s) × IsLoop s.here

abbrev pub NamesAccess : Option Spot → Type 0
NamesAccess o = (s : Spot) × (at : Access) × (o ≡ Some s) × (subscripts s.here ≡ Some at)

-- what is wanted, or why there is nothing
abbrev pub Tells : {A : Type 0} → Result A Refusal → Result A DomainFault → Type 0
Tells wanted (Ok x) = wanted ≡ Ok x
Tells wanted (Err Wide) = wanted ≡ Err too_wide
Tells wanted (Err Rows) = wanted ≡ Err too_many
Tells wanted (Err Memory) = Unit {0}

abbrev pub of_form : LinearFault → DomainFault
of_form form.Wide = Wide
of_form form.Memory = Memory

-- a system is then this one; nothing but memory is wanting
abbrev pub Grows : LinearSystem → LinearSystem → Result (Unit {0}) LinearFault → Type 0
Grows wanted new (Ok done) = new ≡ wanted
Grows wanted new (Err form.Memory) = Unit {0}
Grows wanted new (Err form.Wide) = ⊥
