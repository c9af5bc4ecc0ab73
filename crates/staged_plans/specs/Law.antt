-- The law of a plan: a valid module that meets V13, with all placements of a plan staged, runs to the end of its direct meaning.
use Rattle.std.specs.Prelude.{◌≡◌, ℕ, ◌≤◌, ℤ, Bool, List, None}
use Rattle.affine_ast.specs.declared.image.Image.{Image}
use Rattle.affine_ast.specs.declared.module.Module.{Module}
use Rattle.affine_ast.specs.declared.name.Name.{Name}
use Rattle.affine_ast.specs.Nest.{nest}
use Rattle.affine_ast.specs.PlainLimits.{plain_fault}
use Rattle.affine_ast.specs.Validity.{IsValid}
use Rattle.direct_meaning.specs.Actions.{actions}
use Rattle.direct_meaning.specs.Direct.{folded, first_state, direct_step}
use Rattle.direct_meaning.specs.Memory.{Fits, start_env}
use Rattle.prompt_semantics.specs.Prompt.{prompt_step, first_device}
use Rattle.boxes.specs.Every.{Every}
use Rattle.box_run_laws.specs.Law.{Agrees}
use Rattle.box_run_laws.specs.Roomy.{most_live}
use Rattle.placement_texts.specs.Fold.{Step, staged_all, there, AllParted}
use Rattle.placement_texts.specs.Own.{OwnNest}
use Rattle.placement_texts.specs.Valid.{OwnArguments, AllPass}
use Rattle.staged_plans.specs.Plans.{IsPlanned, AllNamed}

-- where the module's names are none of the plan's, two placements are of different memrefs or at loops apart, and each text on the
-- way passes the rules: from every memory that fits, at a capacity that the live bytes don't pass, the staged text has the verdict
-- of the module's direct meaning, and at the end its slow memory
abbrev pub PlansAgree : Type 0
PlansAgree = (m : Module) → IsValid m → plain_fault m ≡ None → (memory : Image) → Fits m memory
    → (made_by : Name → ℕ) → OwnNest (there made_by 0) (nest m.body) → OwnArguments (there made_by 0) m.args
    → (dma : Bool) (xs : List Step) → AllNamed made_by 0 xs → Every (IsPlanned dma m.args memory.symbols (nest m.body)) xs → AllParted made_by xs
    → AllPass m.args xs (nest m.body) → (filler : ℤ) (capacity : ℕ)
    → most_live (actions (staged_all xs (nest m.body)) (start_env m.args memory.symbols)) 0 ≤ capacity
    → Agrees (folded direct_step (actions (nest m.body) (start_env m.args memory.symbols)) (first_state memory))
    (folded (prompt_step filler capacity) (actions (staged_all xs (nest m.body)) (start_env m.args memory.symbols)) (first_device memory))
