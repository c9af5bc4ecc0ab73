-- What each command makes of a source.
use Rattle.std.specs.Prelude.{◌≡◌, ℕ, ◌≤◌, List, None}
use Rattle.affine_ast.specs.declared.image.Image.{Image}
use Rattle.affine_ast.specs.declared.module.Module.{Module}
use Rattle.affine_ast.specs.PlainLimits.{plain_fault}
use Rattle.affine_ast.specs.Spelling.{spelling}
use Rattle.affine_ast.specs.Validity.{IsValid}
use Rattle.affine_grammar.specs.Spelling as grammar
use Rattle.bus_model.specs.declared.step.Verdict.{Verdict}
use Rattle.bus_model.specs.declared.step.Verdict.TheVariants as verdict
use Rattle.direct_meaning.specs.Direct.{plain, verdict_of}
use Rattle.direct_meaning.specs.Work.{work}
use Rattle.prompt_semantics.specs.Prompt.{prompt_verdict}
use Rattle.mem_image.specs.Images as image
use Rattle.module_regions.specs.Lines.{regions_text}
use Rattle.source_parts.specs.Parts.{text_part, image_part}
use Rattle.stage_laws.specs.Law.{IsStageOf}
use Rattle.affine_driver.specs.declared.command.Command.{Command}
use Rattle.affine_driver.specs.declared.command.Command.TheVariants.{Check, Regions, Stage, Plain, Run, Order, Both}
use Rattle.affine_driver.specs.declared.command.StageOptions.{StageOptions}
use Rattle.affine_driver.specs.declared.refusal.Refusal.{Refusal}
use Rattle.affine_driver.specs.Outcome.{Outcome, Refused, Complete, Writes, Demands, Gives}
use Rattle.affine_driver.specs.Output.{planning, prompted, IsStageOutput, IsPlainOutput, IsRunOutput, IsBothOutput, IsOrderOutput}
use Rattle.affine_driver.specs.Refusals.{SpellsNone, BreaksRule, BreaksLimits, SpellsNoImage, work_limit, IsTooMuch, StopsAt}

-- ---- Demands

-- a text that spells a valid module
abbrev pub Read : List ℕ → (Module → Outcome → Type 0) → Outcome → Type 0
Read text Behind = Demands (SpellsNone text) (grammar.Spells text) (λ input. Demands (BreaksRule input) (λ (holds : Unit {0}). IsValid input) (λ holds. Behind input))

-- a module that meets V13
abbrev pub Limited : Module → (Outcome → Type 0) → Outcome → Type 0
Limited input Behind = Demands (BreaksLimits input) (λ (holds : Unit {0}). plain_fault input ≡ None) (λ holds. Behind)

-- the stage of the module, by these options, which there always is
abbrev pub StagedFrom : StageOptions → Module → (Module → Outcome → Type 0) → Outcome → Type 0
StagedFrom options input Behind = Demands (λ refusal. ⊥) (IsStageOf (planning options) input) Behind

-- the module's work is within the limit, and a run of this verdict comes to its end
abbrev pub EndsWithin : Module → Verdict → (Outcome → Type 0) → Outcome → Type 0
EndsWithin input run Behind =
    Demands (IsTooMuch input) (λ (holds : Unit {0}). work input ≤ work_limit) (λ within.
    Demands (StopsAt run) (λ (holds : Unit {0}). run ≡ verdict.End) (λ ends. Behind))

-- the text spells an image, whose memory fits the module
abbrev pub WithImage : Module → List ℕ → (Image → Outcome → Type 0) → Outcome → Type 0
WithImage input text Behind = Demands (SpellsNoImage text input) (image.Spells text input) Behind

-- a run that ends: the text spells an image, whose memory fits the module, the module's work is within the limit, and the run from this
-- memory, of which the verdict is given, comes to its end
abbrev pub RunsToEnd : Module → List ℕ → (Image → Verdict) → (Image → Outcome → Type 0) → Outcome → Type 0
RunsToEnd input text run Behind = WithImage input text (λ memory. EndsWithin input (run memory) (Behind memory))

-- ---- Commands

-- What a command makes of a valid module and the text of an image, one line a command: what it demands beyond the rules V1 to V12, in the
-- order in which it is asked for, and what it writes. `check` writes the module's printed spelling, `regions` the lines of its regions,
-- `stage` the report of its plan and the printed spelling of its stage, `plain` the printed image of the memory that the direct
-- meaning leaves, `run` that of the memory that the prompt meaning leaves, `order` the same with the trace and the number of steps of the
-- run that the pick names. `both` writes what `stage` does and then, behind a line `---`, what `plain` does: it is the staged module that
-- is run, within the limit of work.
abbrev pub Makes : Command → Module → List ℕ → Outcome → Type 0
Makes Check input text outcome = Gives (λ output. output ≡ spelling input) outcome
Makes (Regions options) input text outcome = Limited input (Gives (λ output. output ≡ regions_text input options.depth)) outcome
Makes (Stage options) input text outcome = Limited input (Gives (IsStageOutput options input)) outcome
Makes Plain input text outcome = Limited input (RunsToEnd input text (λ memory. verdict_of (plain input memory)) (λ memory. Gives (IsPlainOutput input memory))) outcome
Makes (Run options) input text outcome = RunsToEnd input text (λ memory. prompt_verdict (prompted options input memory)) (λ memory. Gives (IsRunOutput input options memory)) outcome
Makes (Order options) input text outcome = RunsToEnd input text (λ memory. prompt_verdict (prompted options.run input memory)) (λ memory. Gives (IsOrderOutput input options memory)) outcome
Makes (Both options) input text outcome =
    Limited input (StagedFrom options.stage input (λ staged. WithImage input text (λ memory. EndsWithin staged (verdict_of (plain input memory)) (Gives (IsBothOutput options.stage input memory))))) outcome
Makes unbuilt input text outcome = ⊥

-- what a source comes to under a command: its text spells a valid module, of which, with its image, the command makes this
abbrev pub ComesTo : Command → List ℕ → Outcome → Type 0
ComesTo command source = Read (text_part source) (λ input. Makes command input (image_part source))

-- the source is refused so under this command, for this reason in its bytes
abbrev pub Refuses : Command → List ℕ → Refusal → Type 0
Refuses command source refusal = ComesTo command source (Refused refusal)

-- the source has all that the command demands
abbrev pub Completes : Command → List ℕ → Type 0
Completes command source = ComesTo command source Complete

-- the output of a source under a command
abbrev pub IsOutput : Command → List ℕ → List ℕ → Type 0
IsOutput command source output = ComesTo command source (Writes output)
