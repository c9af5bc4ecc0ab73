-- The module that staging makes of a module, without doubling, and the law that it is valid and runs as the module.
use Rattle.std.specs.Prelude.{◌≡◌, ℕ, ◌<◌, ◌^◌, ℤ, List, length, None}
use Rattle.affine_ast.specs.declared.image.Image.{Image}
use Rattle.affine_ast.specs.declared.module.Module.{Module}
use Rattle.affine_ast.specs.PlainLimits.{plain_fault}
use Rattle.affine_ast.specs.Validity.{IsValid}
use Rattle.affine_grammar.specs.Spelling.{Spells}
use Rattle.direct_meaning.specs.Direct.{plain}
use Rattle.direct_meaning.specs.Memory.{Fits}
use Rattle.prompt_semantics.specs.Prompt.{prompt}
use Rattle.box_run_laws.specs.Law.{Agrees}
use Rattle.nest_domain.specs.declared.plan.Options.{Options}
use Rattle.normal_texts.specs.Texts.{IsNormal}
use Rattle.numbered_names.specs.Numbers.{IsNumbered}
use Rattle.plan_theorem.specs.Law.{IsWritten, IsStagedModule}

-- the module with the placements of its plan, then with its subscripts as the grammar reads them, then, under its own name, with the
-- names of templates numbered
pub record IsStageOf (o : Options) (m q : Module) : Type 0 where
  pub placed : Module
  pub ordered : Module
  pub is_placed : IsStagedModule o m placed
  pub is_ordered : IsNormal placed ordered
  pub is_numbered : IsNumbered (record ordered { name = m.name }) q

-- each module has one, whatever the options
pub record Stage (o : Options) (m : Module) : Type 0 where
  pub module_ : Module
  pub is : IsStageOf o m module_

abbrev pub AllHaveStages : Type 0
AllHaveStages = (o : Options) (m : Module) → Stage o m

-- what such a module is: valid, the memories that fit the module fit it, and from each of them, for every filler, in the options'
-- capacity its prompt run has the verdict of the module's direct meaning, and at the end its slow memory
pub record RunsAsOriginal (o : Options) (m q : Module) : Type 0 where
  pub valid : IsValid q
  pub fits : (memory : Image) → Fits m memory → Fits q memory
  pub runs : (memory : Image) → Fits m memory → (filler : ℤ) → Agrees (plain m memory) (prompt q memory filler o.capacity)

-- for every valid module that meets V13 and has the names of a text, whatever the options
abbrev pub StageRuns : Type 0
StageRuns = (o : Options) (m q : Module) → IsValid m → plain_fault m ≡ None → IsWritten m → IsStageOf o m q → RunsAsOriginal o m q

-- so for every module that a text spells
abbrev pub TextsStage : Type 0
TextsStage = (o : Options) (source : List ℕ) (m q : Module) → length source < 2 ^ 64 → Spells source m → IsValid m → plain_fault m ≡ None → IsStageOf o m q → RunsAsOriginal o m q
