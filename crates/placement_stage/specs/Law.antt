-- What a valid module gives of the subscripts that are redirected.
use Rattle.affine_ast.specs.declared.module.Module.{Module}
use Rattle.affine_ast.specs.Nest.{nest}
use Rattle.affine_ast.specs.Validity.{IsValid}
use Rattle.placement_stage.specs.Stages.{IsSmallText}

-- each subscript that is a number alone is small, by the rule on intervals
abbrev pub ValidTextsAreSmall : Type 0
ValidTextsAreSmall = (m : Module) → IsValid m → IsSmallText (nest m.body)
