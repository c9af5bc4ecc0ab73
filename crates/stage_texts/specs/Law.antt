-- What the module that staging makes of a module of a text has of a text.
use Rattle.std.specs.Prelude.{◌≡◌, true, None}
use Rattle.affine_ast.specs.declared.module.Module.{Module}
use Rattle.affine_ast.specs.Nest.{nest}
use Rattle.affine_ast.specs.PlainLimits.{plain_fault}
use Rattle.affine_ast.specs.Validity.{IsValid}
use Rattle.nest_domain.specs.declared.plan.Options.{Options}
use Rattle.numbered_names.specs.Numbers.{value_names}
use Rattle.plan_laws.specs.Limits.{keeps_limits}
use Rattle.plan_theorem.specs.Law.{IsWritten}
use Rattle.printed_texts.specs.Writable.{AllWritten, MayBeWritten}
use Rattle.stage_laws.specs.Law.{IsStageOf}
use Rattle.stage_texts.specs.Shape.{HasShape}

-- of a valid module that may be written and meets V13: the names of its stage's values are names of the grammar, and none counts as made
abbrev pub StageNames : Type 0
StageNames = (o : Options) (m q : Module) → IsValid m → plain_fault m ≡ None → IsWritten m → MayBeWritten m → IsStageOf o m q → AllWritten (value_names q)

-- its body has the shape of a text's
abbrev pub StageShape : Type 0
StageShape = (o : Options) (m q : Module) → HasShape m → IsStageOf o m q → HasShape q

-- as has the body of each module that may be written
abbrev pub WrittenShape : Type 0
WrittenShape = (m : Module) → MayBeWritten m → HasShape m

-- it keeps to the limits of the grammar
abbrev pub StageKeeps : Type 0
StageKeeps = (o : Options) (m q : Module) → IsValid m → plain_fault m ≡ None → IsWritten m → MayBeWritten m → IsStageOf o m q → keeps_limits q.args (nest q.body) ≡ true

-- as does each valid module that may be written
abbrev pub WrittenKeeps : Type 0
WrittenKeeps = (m : Module) → IsValid m → MayBeWritten m → keeps_limits m.args (nest m.body) ≡ true
