-- Texts in which the rows of each place can be formed.
use Rattle.affine_ast.specs.declared.module.Module.{Module}
use Rattle.affine_ast.specs.Nest.{nest}
use Rattle.affine_ast.specs.Validity.{IsValid}
use Rattle.direct_meaning.specs.Work.{start_ranges}
use Rattle.nest_domain.specs.Ready.{ReadyNest}

-- in a valid module each bound, condition, value and subscript is affine, names operands that are there, and stays within 2^62 over
-- the ranges of the names round it
abbrev pub TextsAreReady : Type 0
TextsAreReady = (m : Module) → IsValid m → ReadyNest (nest m.body) (start_ranges m.args)
