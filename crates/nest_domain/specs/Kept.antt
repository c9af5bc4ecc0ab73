-- What code answers of forms and of places, against what is wanted. Want of memory is free.
use Rattle.std.specs.Prelude.{◌≡◌, ℤ, ◌&&◌, Bool, List, Result, Ok, Err}
use Rattle.affine_expr.specs.declared.map.Constraint.{Constraint}
use Rattle.affine_expr.specs.Pure.{is_pure, has_small_numbers}
use Rattle.affine_expr.specs.declared.linear.LinearFault.{LinearFault}
use Rattle.affine_expr.specs.declared.linear.LinearFault.TheVariants.{Wide, Memory}
use Rattle.num_row.specs.Ints.{narrowed}
use Rattle.affine_expr.specs.Forms.{Form, LocalForm}
use Rattle.affine_expr.specs.Linear.{◌>>=◌, or_wide}
use Rattle.nest_domain.specs.Forms.{Formed}

-- these forms, with the locals that stand after them
abbrev pub GivesForms : {B : Type 0} → Result Formed LinearFault → List LocalForm → (B → List Form) → Result B LinearFault → Type 0
GivesForms wanted locals shape (Ok forms) = wanted ≡ Ok (record { forms = shape forms; locals = locals })
GivesForms wanted locals shape (Err Memory) = Unit {0}
GivesForms wanted locals shape (Err Wide) = wanted ≡ Err Wide

-- the two sides of a constraint can be formed
abbrev pub row_ready : Constraint → Bool
row_ready row = (is_pure row.left && has_small_numbers row.left) && (is_pure row.right && has_small_numbers row.right)

-- a form with another constant
unfoldable pub with_constant : Form → ℤ → Result Form LinearFault
with_constant f z = do
  constant ← or_wide (narrowed z)
  Ok (record { coefs = f.coefs; constant = constant })
