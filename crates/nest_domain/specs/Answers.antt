-- The rows of a place as an answer: the system with the names of its first variables, or why there is none.
use Rattle.std.specs.Prelude.{if◌then◌else◌, nat_lt, List, [], ◌++◌, map, Result, Ok, Err}
use Rattle.constraint_set.specs.Points.{LinearRow, LinearSystem}
use Rattle.constraint_set.specs.Elimination.{Refusal, too_wide, too_many, variable_limit}
use Rattle.affine_expr.specs.declared.linear.LinearFault.{LinearFault}
use Rattle.affine_ast.specs.declared.module.Arg.{Arg}
use Rattle.affine_ast.specs.declared.name.Name.{Name}
use Rattle.affine_ast.specs.declared.types.Access.{Access}
use Rattle.nest_domain.specs.Ways.{Header, loop_names}
use Rattle.nest_domain.specs.Domains.{Known, Accessed, symbol_names, place, access, row_at, system_of}

-- the symbols and then the loops stand before the locals, which have no names
pub record Domain : Type 0 where
  pub system : LinearSystem
  pub names : List Name

pub record AccessRows : Type 0 where
  pub domain : Domain
  pub forms : List LinearRow

abbrev pub domain_at : List Arg → List Header → Known → Domain
domain_at args way k = record { system = system_of k; names = symbol_names args ++ loop_names way }

-- a form that leaves 128 bits is tested before the number of variables
abbrev pub limited : Known → Domain → Result Domain Refusal
limited k d = if nat_lt variable_limit k.next then Err too_many else Ok d

abbrev pub domain_from : List Arg → List Header → Result Known LinearFault → Result Domain Refusal
domain_from args way (Ok k) = limited k (domain_at args way k)
domain_from args way (Err e) = Err too_wide

-- the rows of the outside of a loop at the end of a way
unfoldable pub domain_of : List Arg → List Header → Result Domain Refusal
domain_of args way = domain_from args way (place args way [])

abbrev pub access_from : List Arg → List Header → Result Accessed LinearFault → Result AccessRows Refusal
access_from args way (Ok a) =
    if nat_lt variable_limit a.known.next
    then Err too_many
    else Ok (record { domain = domain_at args way a.known; forms = map (row_at a.known.next) a.forms })
access_from args way (Err e) = Err too_wide

-- the rows of an affine access at the end of a way, with its subscripts
unfoldable pub access_of : List Arg → List Header → Access → Result AccessRows Refusal
access_of args way at = access_from args way (access args way at)
