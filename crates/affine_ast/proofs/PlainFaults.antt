-- The fault of a whole module.
use Rattle.std.proofs.Common.{◌≡◌, ℕ, sym, ap, ◌∙◌, refl}
use Rattle.std.specs.Prelude.{Option, Some, None}
use Rattle.affine_ast.specs.declared.module.Module.{Module}
use Rattle.affine_ast.specs.Nest.{nest}
use Rattle.affine_ast.specs.PlainLimits.{line_of_fault, plain_told, plain_fault}
use Rattle.affine_ast.specs.PlainCode.{plain_outcome}

outcome_line : (r : Option ℕ) (n : ℕ) → line_of_fault (plain_outcome r n) ≡ r
outcome_line (Some line) n = refl
outcome_line None n = refl

pub fault_is : (m : Module) (r : Option ℕ) (n : ℕ) → plain_told (nest m.body) 0 0 ≡ plain_outcome r n → r ≡ plain_fault m
unfolding plain_fault
fault_is m r n h = sym (ap line_of_fault h ∙ outcome_line r n)
