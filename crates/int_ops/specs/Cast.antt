-- What each cast between two widths gives.
use Rattle.std.specs.Prelude.{ℕ, ◌<◌, if◌then◌else◌, nat_lt, ℤ, pos}
use Rattle.int_ops.specs.Wrapped.{wrapped, unsigned}
use Rattle.int_ops.specs.declared.operation.CastKind.{CastKind}
use Rattle.int_ops.specs.declared.operation.CastKind.TheVariants.{Index, ExtS, ExtU, Trunc}

-- the number that a cast from one width to another makes: the signed value, the unsigned value, or the value modulo 2 ^ to
unfoldable pub cast_value : CastKind → ℕ → ℕ → ℤ → ℤ
cast_value Index from to a = if nat_lt to from then wrapped to a else a
cast_value ExtS from to a = a
cast_value ExtU from to a = pos (unsigned from a)
cast_value Trunc from to a = wrapped to a

-- the value that a cast reads of its operand: the unsigned one for `extui`, else the signed one
abbrev pub operand_value : CastKind → ℕ → ℤ → ℤ
operand_value ExtU from a = pos (unsigned from a)
operand_value _ from a = a

-- the widths that a cast goes between: `extsi` and `extui` widen, `trunci` narrows, `index_cast` does either or neither
abbrev pub CanCast : CastKind → ℕ → ℕ → Type 0
CanCast Index from to = Unit {0}
CanCast ExtS from to = from < to
CanCast ExtU from to = from < to
CanCast Trunc from to = to < from
