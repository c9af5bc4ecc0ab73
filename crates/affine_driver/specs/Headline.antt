-- The headline: what a call of the program comes to.
--
-- Let the words ask for a command (`AsksFor`). Then the source gave some bytes, and where the ending comes behind reading, these are
-- all that it had; what went out is the command's output of these bytes, whole at `Done` and a proper part of it at `WriteFault`, and
-- every other ending has its reason in the bytes, or is a fault of the source, its length or want of memory (`Answers`). The bytes
-- decide: no other refusal has its reason, and where the source has what the command asks for, the output was built (`IsExact`).
-- What each command demands and writes is one table (`Behaviour`): the output of `plain` is the memory which the direct meaning of the
-- source's module leaves, and those of `run` and `order` are the memory which its prompt meaning leaves, for `order` with the trace and
-- the number of steps of a run of the machine of all orders.
--
-- And let `stage` be done (`StagesRightly`). Then the source's text spells a valid module, and the bytes that went out spell a valid
-- module again. The memories that fit the one fit the other, and from each of them, whatever fast memory holds before it is written, the
-- second one comes within the capacity to the end of the first one and leaves its memory, or stops at the fault of the first one: where
-- each transfer completes at its start, and in every order of the steps of any number of engines (`stage_output`, `SpellsRunning`). Each
-- memref of each block has a line there: it is staged, or left for the cause that is named.
use Rattle.std.specs.Prelude.{◌≡◌, ℕ, ◌≤◌, Bool, List, length, Option, None}
use Rattle.std.specs.Io.KnownBytes.{Appends, Consumes, IsAtEnd}
use Rattle.affine_ast.specs.declared.module.Module.{Module}
use Rattle.affine_ast.specs.PlainLimits.{plain_fault}
use Rattle.affine_ast.specs.Validity.{IsValid}
use Rattle.affine_grammar.specs.Spelling.{Spells}
use Rattle.source_parts.specs.Parts.{text_part}
use Rattle.stage_output.specs.Law.{SpellsRunning}
use Rattle.stage_reports.specs.Law.{DecidesAll}
use Rattle.affine_driver.specs.declared.command.Command.{Command}
use Rattle.affine_driver.specs.declared.command.StageOptions.{StageOptions}
use Rattle.affine_driver.specs.declared.ending.Ending.{Ending}
use Rattle.affine_driver.specs.declared.limits.TheConstants.{SOURCE_LIMIT}
use Rattle.affine_driver.specs.Command.{AsksFor, runs_threads}
use Rattle.affine_driver.specs.Laws.{IsExact}
use Rattle.affine_driver.specs.Output.{planning, IsStageOutput}
use Rattle.affine_driver.specs.Reading.{Answers}

-- the call answers the command, and the bytes of its source decide the ending
pub record Decides (limit : ℕ) (command : Command) (ending : Ending) (given left before now : Option (List ℕ)) : Type 0 where
  pub answers : Answers limit command ending given left before now
  pub exact : IsExact command answers.bytes ending

-- the words ask for no command
abbrev pub AskForNothing : List (List ℕ) → Type 0
AskForNothing words = (command : Command) → AsksFor words command → ⊥

-- the words ask for no command that runs threads, or for none that doesn't
abbrev pub AskForNone : Bool → List (List ℕ) → Type 0
AskForNone threads words = (command : Command) → AsksFor words command → runs_threads command ≡ threads → ⊥

-- ---- Staging

-- What `stage` wrote where it is done. The source gave some bytes, and no more; their text spells a valid module that meets V13; the
-- report of its plan and its staged module's printed text went out, and these bytes spell a module that runs as the source's. In the plan
-- each memref of each block is staged or left for a cause.
pub record StagesRightly (options : StageOptions) (given left before now : Option (List ℕ)) : Type 0 where
  pub bytes : List ℕ
  pub lost : Consumes given left bytes
  pub whole : IsAtEnd left
  pub source : Module
  pub reads : Spells (text_part bytes) source
  pub valid : IsValid source
  pub may_be_staged : plain_fault source ≡ None
  pub output : List ℕ
  pub went : Appends before now output
  pub is : IsStageOutput options source output
  pub runs : SpellsRunning options.capacity source output
  pub decided : DecidesAll (planning options) source

-- so is everything that `stage` writes of a module of a text
abbrev pub StagedTextsRun : Type 0
StagedTextsRun = (options : StageOptions) (text : List ℕ) (source : Module) (output : List ℕ) → length text ≤ SOURCE_LIMIT → Spells text source → IsValid source → plain_fault source ≡ None
    → IsStageOutput options source output → SpellsRunning options.capacity source output
