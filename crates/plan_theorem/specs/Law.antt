-- The law of staging, of the plan: a module with all placements of its own plan is valid and runs as the module.
use Rattle.std.specs.Prelude.{◌≡◌, ℤ, Bool, not, List, None}
use Rattle.affine_ast.specs.declared.image.Image.{Image}
use Rattle.affine_ast.specs.declared.module.Module.{Module}
use Rattle.affine_ast.specs.declared.name.Name.{Name}
use Rattle.affine_ast.specs.Nest.{nest}
use Rattle.affine_ast.specs.PlainLimits.{plain_fault}
use Rattle.affine_ast.specs.Validity.{IsValid}
use Rattle.direct_meaning.specs.Direct.{plain}
use Rattle.direct_meaning.specs.Memory.{Fits}
use Rattle.prompt_semantics.specs.Prompt.{prompt}
use Rattle.box_run_laws.specs.Law.{Agrees}
use Rattle.nest_domain.specs.declared.plan.Options.{Options}
use Rattle.placement_texts.specs.Own.{OwnNest}
use Rattle.placement_texts.specs.Valid.{OwnArguments}
use Rattle.made_names.specs.Made.{made_by}
use Rattle.plan_validity.specs.Law.{IsPlanOf}
use Rattle.plan_laws.specs.Sites.{lined}
use Rattle.plan_laws.specs.Plan.{plan_steps, planned_text}

-- the names of a module are a text's: none of them is made
abbrev pub of_text : Name → Bool
of_text n = not n.made

pub record IsWritten (m : Module) : Type 0 where
  pub names : OwnNest of_text (nest m.body)
  pub arguments : OwnArguments of_text m.args

-- where each statement of such a module has a line, the placements of its plan are a plan of it, as staging asks for one: whatever the
-- options
abbrev pub PlansArePlans : Type 0
PlansArePlans = (o : Options) (m : Module) → IsValid m → IsWritten m → lined (nest m.body) ≡ nest m.body → (symbols : List ℤ) → IsPlanOf m symbols made_by o.dma (plan_steps o m)

-- the second module is the first with the placements of its plan
pub record IsStagedModule (o : Options) (m q : Module) : Type 0 where
  pub arguments : q.args ≡ m.args
  pub body : nest q.body ≡ planned_text o m

-- what it is: valid, and from every memory that fits, for every filler, in the options' capacity its prompt run has the verdict of the
-- module's direct meaning, and at the end its slow memory
pub record RunsAsPlanned (o : Options) (m q : Module) : Type 0 where
  pub valid : IsValid q
  pub runs : (memory : Image) → Fits m memory → (filler : ℤ) → Agrees (plain m memory) (prompt q memory filler o.capacity)

-- for every valid module that meets V13, whatever its lines and the options
abbrev pub PlanRuns : Type 0
PlanRuns = (o : Options) (m q : Module) → IsValid m → plain_fault m ≡ None → IsWritten m → IsStagedModule o m q → RunsAsPlanned o m q
