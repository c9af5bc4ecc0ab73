-- Numbers that stop at the greatest of 64 bits, and sums of such.
use Rattle.std.specs.Prelude.{◌≡◌, ℕ, ◌+◌, min, Bool, ◌&&◌, List}
use Rattle.affine_ast.specs.declared.module.Arg.{Arg}
use Rattle.affine_ast.specs.Nest.{Nest}
use Rattle.affine_ast.specs.PlainLimits.{Depths}
use Rattle.plan_laws.specs.Limits.{keeps_limits}
use Rattle.text_limits.specs.declared.measures.Measure.{Measure}
use Rattle.text_limits.specs.declared.measures.Place.{Place}
use Rattle.text_limits.specs.declared.measures.Place.TheVariants as place
use Rattle.text_limits.specs.declared.sums.Sums.{Sums}
use Rattle.text_limits.specs.Sums.{is_shallow, sums_in, are_within}

abbrev pub capped : ℕ → ℕ
capped n = min n 18446744073709551615

-- the depth of an expression that stands at this place
abbrev pub depth_at : Place → Depths → ℕ
depth_at place.Sum d = d.sum
depth_at place.Product d = d.product
depth_at place.Unary d = d.unary
depth_at place.Negated d = d.negated

-- so many operands, and whether they keep to the limits
abbrev pub measured : ℕ → Bool → Measure
measured operands fits = record { operands = capped operands; fits = fits }

abbrev pub with_measure : Measure → Measure → Measure
with_measure a b = record { operands = capped (a.operands + b.operands); fits = a.fits && b.fits }

abbrev pub capped_sums : Sums → Sums
capped_sums t = record { statements = capped t.statements; operands = capped t.operands; elements = capped t.elements; tags = capped t.tags; fits = t.fits }

-- one statement by itself, of this measure
abbrev pub head_sums : ℕ → ℕ → Measure → Sums
head_sums loops ifs m = record { statements = 1; operands = m.operands; elements = 0; tags = 0; fits = is_shallow loops ifs && m.fits }

-- each limit is far below: a text keeps to the limits where its capped sums do
abbrev pub LimitsAreTold : Type 0
LimitsAreTold = (args : List Arg) (n : Nest) → keeps_limits args n ≡ are_within (capped_sums (sums_in 0 0 n))
