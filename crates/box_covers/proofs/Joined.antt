-- The steps of a loop that forms expressions one after the other.
use Rattle.std.proofs.Common.{List, ◌++◌, Result, Ok, Err}
use Rattle.affine_expr.specs.declared.linear.LinearFault.{LinearFault}
use Rattle.affine_expr.specs.Forms.{Form}
use Rattle.nest_domain.specs.Forms.{Formed}

-- these forms, and then what follows
abbrev pub joined : List Form → Result Formed LinearFault → Result Formed LinearFault
joined xs (Ok r) = Ok (record { forms = xs ++ r.forms; locals = r.locals })
joined xs (Err e) = Err e
