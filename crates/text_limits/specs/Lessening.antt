-- What redirecting an access adds to its operands, told without the access that it makes.
use Rattle.std.specs.Prelude.{◌≡◌, ℕ, suc, ◌+◌, ℤ, pos, Bool, true, ◌&&◌, nat_le, if◌then◌else◌, List, [], ◌∷◌, length, Option, Some, None}
use Rattle.std.specs.Ordering.{int_eq}
use Rattle.affine_expr.specs.declared.expr.Expr.{Expr}
use Rattle.affine_ast.specs.declared.types.Access.{Access}
use Rattle.affine_ast.specs.PlainLimits.{operand_count, depths}
use Rattle.placement_texts.specs.Template.{Dimension, Placement, number_of}
use Rattle.placement_code.specs.Beginnings.{has_none, fixed_place}
use Rattle.plan_laws.specs.Limits.{expression_fits}
use Rattle.text_limits.specs.Adding.{operands_more, fits_in_fast}

-- a subscript less the place of its dimension has one operand more, unless it is a number less a number, or the place is 0
abbrev pub more_by : Option ℤ → ℤ → ℕ
more_by (Some k) z = 0
more_by None z = if int_eq z (pos 0) then 0 else 1

abbrev pub more_one : Expr → Dimension → ℕ
more_one e d = if has_none d.terms then more_by (number_of e) (fixed_place d) else 1

-- of each dimension in order; a subscript without one stays
abbrev pub more_over : List Expr → List Dimension → ℕ
more_over [] ds = 0
more_over (e ∷ es) [] = 0 + more_over es []
more_over (e ∷ es) (d ∷ ds) = more_one e d + more_over es ds

-- it is no deeper
abbrev pub fits_one : Expr → Dimension → Bool
fits_one e d = nat_le (operand_count e + more_one e d) 256 && nat_le (depths e).sum 128

abbrev pub fits_over : List Expr → List Dimension → Bool
fits_over [] ds = true
fits_over (e ∷ es) [] = expression_fits e && fits_over es []
fits_over (e ∷ es) (d ∷ ds) = fits_one e d && fits_over es ds

-- the half is a subscript and an operand more
pub record RedirectsAs (p : Placement) (at : Access) : Type 0 where
  pub more : operands_more p at ≡ suc (more_over at.map.results p.dims)
  pub fits : fits_in_fast p at ≡ (nat_le (suc (length at.map.results)) 8 && fits_over at.map.results p.dims)

abbrev pub RedirectsAreCounted : Type 0
RedirectsAreCounted = (p : Placement) (at : Access) → RedirectsAs p at
