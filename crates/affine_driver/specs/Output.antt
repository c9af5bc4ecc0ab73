-- What a command writes.
use Rattle.std.specs.Prelude.{◌≡◌, ℕ, ◌+◌, ◌≤◌, List, ◌++◌, length, codes}
use Rattle.std.specs.Fmt.{decimal}
use Rattle.affine_ast.specs.declared.image.Image.{Image}
use Rattle.affine_ast.specs.declared.module.Module.{Module}
use Rattle.affine_ast.specs.Spelling.{spelling}
use Rattle.affine_grammar.specs.Spelling.{Spells}
use Rattle.direct_meaning.specs.Direct.{Outcome, plain, state_of}
use Rattle.mem_image.specs.Images as image
use Rattle.nest_domain.specs.declared.plan.Options.{Options}
use Rattle.order_machine.specs.declared.orders.Ordered.{Ordered}
use Rattle.order_machine.specs.Orders.{RunsOrder, setting}
use Rattle.plan_laws.specs.Plan.{plan}
use Rattle.plan_report.specs.Report.{report}
use Rattle.prompt_semantics.specs.Device.{Device}
use Rattle.prompt_semantics.specs.Prompt.{prompt, prompt_slow}
use Rattle.run_laws.specs.StaysFitting.{with_slow}
use Rattle.stage_laws.specs.Law.{IsStageOf}
use Rattle.affine_driver.specs.declared.command.BothOptions.{BothOptions}
use Rattle.affine_driver.specs.declared.command.OrderOptions.{OrderOptions}
use Rattle.affine_driver.specs.declared.command.RunOptions.{RunOptions}
use Rattle.affine_driver.specs.declared.command.StageOptions.{StageOptions}
use Rattle.affine_driver.specs.declared.limits.TheConstants.{SOURCE_LIMIT}

-- what the options of `stage` ask of a plan
abbrev pub planning : StageOptions → Options
planning options = record { depth = options.depth; dma = options.dma; double = options.double; capacity = options.capacity; buffers = options.buffers }

-- what the options of `both` ask of the run of a stage: no more fast memory than it was staged for
abbrev pub running : BothOptions → RunOptions
running options = record { capacity = options.stage.capacity; filler = options.filler; engines = options.engines }

-- What `stage` writes of a module: the report of its plan, a line for each memref of each block, and the printed spelling of its stage, the
-- module with all placements of that plan.
pub record IsStageOutput (options : StageOptions) (input : Module) (output : List ℕ) : Type 0 where
  pub staged : Module
  pub is : IsStageOf (planning options) input staged
  pub text : output ≡ report input (plan (planning options) input) ++ spelling staged

-- what `plain` writes of a module that is run from a memory: the printed image of the memory that the direct meaning leaves
abbrev pub IsPlainOutput : Module → Image → List ℕ → Type 0
IsPlainOutput input memory output = output ≡ image.printed input (with_slow memory (state_of (plain input memory)).slow)

-- the prompt meaning of a module from a memory, by the filler and the capacity of the options of a run
abbrev pub prompted : RunOptions → Module → Image → Outcome Device
prompted options input memory = prompt input memory options.filler options.capacity

-- what `run` writes of a module that is run from a memory: the printed image of the memory that the prompt meaning leaves
abbrev pub IsRunOutput : Module → RunOptions → Image → List ℕ → Type 0
IsRunOutput input options memory output = output ≡ image.printed input (with_slow memory (prompt_slow (prompted options input memory)))

-- the trace of a run and the number of its steps, a line each
unfoldable pub order_text : ℕ → ℕ → List ℕ
order_text trace steps = codes "trace " ++ (decimal trace ++ (codes "\nsteps " ++ (decimal steps ++ codes "\n")))

-- What `order` writes of a module that is run from a memory: the printed image of the memory that the prompt meaning leaves, and the trace
-- and the number of steps of the run that the pick names, of the machine whose engines move elements one by one.
pub record IsOrderOutput (input : Module) (options : OrderOptions) (memory : Image) (output : List ℕ) : Type 0 where
  pub ordered : Ordered
  pub runs : RunsOrder (setting input memory options.run.filler options.run.capacity options.run.engines) options.pick ordered
  -- so many steps, whatever the pick and the number of engines
  pub count : ordered.steps ≡ (state_of (prompted options.run input memory)).actions + (state_of (prompted options.run input memory)).engine_steps
  pub text : output ≡ image.printed input (with_slow memory (prompt_slow (prompted options.run input memory))) ++ order_text ordered.trace ordered.steps

-- the module was read: a text of no more bytes than a source has spells it
pub record IsRead (input : Module) : Type 0 where
  pub text : List ℕ
  pub spells : Spells text input
  pub short : length text ≤ SOURCE_LIMIT

-- what `both` writes of a module that is run from a memory: what `stage` writes of it, a line `---`, and the printed image of the memory
-- that the direct meaning of the module leaves
pub record IsBothOutput (options : StageOptions) (input : Module) (memory : Image) (output : List ℕ) : Type 0 where
  pub stage : List ℕ
  pub is : IsStageOutput options input stage
  pub text : output ≡ stage ++ (codes "---\n" ++ image.printed input (with_slow memory (state_of (plain input memory)).slow))
