-- A module with a line for each statement: it is valid where the module is, means the same and has the same plan.
use Rattle.std.specs.Prelude.{◌≡◌, None}
use Rattle.affine_ast.specs.declared.image.Image.{Image}
use Rattle.affine_ast.specs.declared.module.Module.{Module}
use Rattle.affine_ast.specs.Nest.{nest}
use Rattle.affine_ast.specs.PlainLimits.{plain_fault}
use Rattle.affine_ast.specs.Validity.{IsValid}
use Rattle.direct_meaning.specs.Direct.{plain}
use Rattle.nest_domain.specs.declared.plan.Options.{Options}
use Rattle.plan_laws.specs.Sites.{lined}
use Rattle.plan_laws.specs.Plan.{plan_steps}

-- the second module is the first with line 1 in place of each line 0
pub record IsLined (m m' : Module) : Type 0 where
  pub arguments : m'.args ≡ m.args
  pub body : nest m'.body ≡ lined (nest m.body)

-- each module has one
pub record Lined (m : Module) : Type 0 where
  pub module_ : Module
  pub is : IsLined m module_

abbrev pub AllAreLined : Type 0
AllAreLined = (m : Module) → Lined m

pub record SameButLines (m m' : Module) : Type 0 where
  pub valid : IsValid m → IsValid m'
  pub may_be_staged : plain_fault m ≡ None → plain_fault m' ≡ None
  pub meaning : (memory : Image) → plain m' memory ≡ plain m memory
  pub steps : (o : Options) → plan_steps o m' ≡ plan_steps o m

abbrev pub LinesHaveNoPart : Type 0
LinesHaveNoPart = (m m' : Module) → IsLined m m' → SameButLines m m'
