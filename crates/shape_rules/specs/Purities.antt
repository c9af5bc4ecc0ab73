-- What the code finds of an expression's purity.
use Rattle.std.specs.Prelude.{◌≡◌, true, false, Some, None}
use Rattle.affine_expr.specs.Pure.{Purity}
use Rattle.shape_rules.specs.declared.purity.Found.{Found}
use Rattle.shape_rules.specs.declared.purity.Found.TheVariants.{Impure, Varies, Fixed}

-- a purity, as far as it is looked for: of an expression that isn't pure no more is found
abbrev pub Finds : Found → Purity → Type 0
Finds Impure p = p.pure ≡ false
Finds Varies p = (p.pure ≡ true) × (p.fixed ≡ None)
Finds (Fixed z) p = (p.pure ≡ true) × (p.fixed ≡ Some z)
