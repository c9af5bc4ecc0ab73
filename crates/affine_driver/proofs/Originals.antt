-- What `stage` and `both` write, from the plan of a module, its stage, and what the run of the stage leaves.
use Rattle.std.proofs.Common.{◌≡◌, ℕ, ℤ, ◌≤◌, List, ◌++◌, length, None, Result, Ok, Err, refl, sym, ◌∙◌, ap, subst, arith, inr}
use Rattle.std.specs.Prelude.{IfOk, codes}
use Rattle.affine_ast.specs.declared.image.Image.{Image}
use Rattle.affine_ast.specs.declared.module.Module.{Module}
use Rattle.affine_ast.specs.PlainLimits.{plain_fault}
use Rattle.affine_ast.specs.Spelling.{spelling}
use Rattle.affine_ast.specs.Validity.{IsValid}
use Rattle.affine_grammar.specs.Spelling.{Spells}
use Rattle.bus_model.specs.declared.step.Verdict.{Verdict}
use Rattle.bus_model.specs.declared.step.Verdict.TheVariants as verdict
use Rattle.direct_meaning.specs.Direct.{plain, state_of, verdict_of}
use Rattle.direct_meaning.specs.Memory.{Fits}
use Rattle.direct_meaning.specs.Work.{work}
use Rattle.mem_image.specs.Images.{printed}
use Rattle.nest_domain.specs.declared.plan.Decision.{Decision}
use Rattle.nest_domain.specs.declared.plan.Options.{Options}
use Rattle.overlap_runner.specs.Preparation.{Run, RunsPromptly}
use Rattle.plan_laws.specs.Plan.{plan}
use Rattle.plan_amounts.specs.Law.{PlansAreReportable}
use Rattle.plan_report.specs.Report.{IsReportable, report}
use Rattle.plan_staging.specs.Decided.{IsPlanFor}
use Rattle.plan_theorem.specs.Law.{IsWritten}
use Rattle.prompt_semantics.specs.Prompt.{prompt_verdict}
use Rattle.run_laws.specs.StaysFitting.{with_slow}
use Rattle.run_laws.proofs.Conclusions.{stays_fitting}
use Rattle.stage_laws.specs.Law.{IsStageOf}
use Rattle.stage_laws.proofs.Written.{is_written}
use Rattle.stage_output.specs.Law.{RunsAs, StagesRun}
use Rattle.affine_driver.specs.declared.command.BothOptions.{BothOptions}
use Rattle.affine_driver.specs.declared.command.RunOptions.{RunOptions}
use Rattle.affine_driver.specs.declared.command.StageOptions.{StageOptions}
use Rattle.affine_driver.specs.declared.limits.TheConstants.{SOURCE_LIMIT}
use Rattle.affine_driver.specs.Behaviour.{EndsWithin}
use Rattle.affine_driver.specs.Outcome.{Writes, Gives}
use Rattle.affine_driver.specs.Output.{planning, prompted, running, IsStageOutput, IsRead, IsBothOutput, IsRunOutput}
use Rattle.affine_driver.specs.Refusals.{work_limit}

pub is_read : (text : List ℕ) (input : Module) → Spells text input → length text ≤ SOURCE_LIMIT → IsRead input
is_read text input spells short = record { text = text; spells = spells; short = short }

-- a stage of a module that was read runs as the module
pub runs_as_read : StagesRun → (options : StageOptions) (input staged : Module) → IsRead input → IsValid input → plain_fault input ≡ None → IsStageOf (planning options) input staged → RunsAs options.capacity input staged
runs_as_read law options input staged read valid v13 is =
    let short : length read.text ≤ 4194304 = read.short in
    law (planning options) read.text input staged (omega (arith, short)) read.spells valid v13 is

-- its names are those of a text
pub names_as_read : (input : Module) → IsRead input → plain_fault input ≡ None → IsWritten input
names_as_read input read v13 = let short : length read.text ≤ 4194304 = read.short in is_written read.text input (omega (arith, short)) read.spells v13

-- the plan by the options of the code is that of the command
pub plan_is : (options : StageOptions) (input : Module) (asked : Options) (decisions : List Decision) → asked ≡ planning options → decisions ≡ plan asked input → decisions ≡ plan (planning options) input
plan_is options input asked decisions same is = is ∙ ap (λ o. plan o input) same

pub is_plan_for : (options : StageOptions) (input : Module) (asked : Options) (decisions : List Decision) → asked ≡ planning options → decisions ≡ plan asked input → IsPlanFor options.dma input decisions
is_plan_for options input asked decisions same is = record { options = planning options; transfers = refl; plan = plan_is options input asked decisions same is }

-- its report can be written
pub reportable_plan : PlansAreReportable → (options : StageOptions) (input : Module) (decisions : List Decision) → IsValid input → decisions ≡ plan (planning options) input → IsReportable input decisions
reportable_plan law options input decisions valid is = subst (IsReportable input) (sym is) (law (planning options) input valid)

pub stage_is : (options : StageOptions) (input staged : Module) (output : List ℕ) → IsStageOf (planning options) input staged → output ≡ report input (plan (planning options) input) ++ spelling staged → IsStageOutput options input output
stage_is options input staged output is text = record { staged = staged; is = is; text = text }

pub both_written : (options : StageOptions) (input ran : Module) (memory image : Image) (run : Verdict) (stage output : List ℕ) → IsStageOutput options input stage → work ran ≤ work_limit
    → run ≡ verdict_of (plain input memory) → (run ≡ verdict.End → image ≡ with_slow memory (state_of (plain input memory)).slow) → run ≡ verdict.End
    → output ≡ stage ++ (codes "---\n" ++ printed input image) → EndsWithin ran (verdict_of (plain input memory)) (Gives (IsBothOutput options input memory)) (Writes output)
both_written options input ran memory image run stage output is within same left ends text =
    inr (tt, (within, inr (tt, (sym same ∙ ends, record { stage = stage; is = is; text = text ∙ ap (λ m. stage ++ (codes "---\n" ++ printed input m)) (left ends) }))))

-- what `run` writes of what the threads leave
pub run_written : (options : RunOptions) (input : Module) (memory image : Image) (run : Verdict) (output : List ℕ) → work input ≤ work_limit
    → RunsPromptly (record { module_ = input; image = memory; filler = options.filler; capacity = options.capacity; engines = options.engines }) run image → run ≡ verdict.End
    → output ≡ printed input image → EndsWithin input (prompt_verdict (prompted options input memory)) (Gives (IsRunOutput input options memory)) (Writes output)
run_written options input memory image run output within p ends text = inr (tt, (within, inr (tt, (sym p.verdict_is ∙ ends, text ∙ ap (printed input) p.memory_is))))

-- a run by threads of these options
abbrev pub of_run : RunOptions → Module → Image → Run
of_run options ran memory = record { module_ = ran; image = memory; filler = options.filler; capacity = options.capacity; engines = options.engines }

-- the run by threads of a stage has the verdict of the direct meaning of the module
pub ran_verdict : {E : Type 0} (options : BothOptions) (asked : RunOptions) (input staged : Module) (memory : Image) (r : Result (Verdict × Image) E) → asked ≡ running options → RunsAs options.stage.capacity input staged → Fits input memory
    → IfOk r (λ ran. RunsPromptly (of_run asked staged memory) ran.0 ran.1) → IfOk r (λ ran. ran.0 ≡ verdict_of (plain input memory))
ran_verdict options asked input staged memory (Ok ran) same runs fits p =
    let q = subst (λ o. RunsPromptly (of_run o staged memory) ran.0 ran.1) same p in
    q.verdict_is ∙ (runs.runs memory fits options.filler).verdict_is
ran_verdict options asked input staged memory (Err e) same runs fits p = tt

-- and at its end the memory which that leaves
pub ran_image : {E : Type 0} (options : BothOptions) (asked : RunOptions) (input staged : Module) (memory : Image) (r : Result (Verdict × Image) E) → asked ≡ running options → RunsAs options.stage.capacity input staged → Fits input memory
    → IfOk r (λ ran. RunsPromptly (of_run asked staged memory) ran.0 ran.1)
    → IfOk r (λ ran. ran.0 ≡ verdict.End → ran.1 ≡ with_slow memory (state_of (plain input memory)).slow)
ran_image options asked input staged memory (Ok ran) same runs fits p = λ end.
    let q = subst (λ o. RunsPromptly (of_run o staged memory) ran.0 ran.1) same p in
    let r = runs.runs memory fits options.filler in
    q.memory_is ∙ ap (with_slow memory) (r.memory_is (sym r.verdict_is ∙ sym q.verdict_is ∙ end))
ran_image options asked input staged memory (Err e) same runs fits p = tt

-- the memory that it leaves fits the module
pub left_fits : (input : Module) (memory image : Image) (run : Verdict) → IsValid input → plain_fault input ≡ None → Fits input memory → (run ≡ verdict.End → image ≡ with_slow memory (state_of (plain input memory)).slow) → run ≡ verdict.End → Fits input image
left_fits input memory image run valid v13 fits left end = subst (Fits input) (sym (left end)) (stays_fitting input valid v13 memory fits).fits
