-- The headline of staging without doubling.
--
-- Let a text spell a valid module that meets V13, and let any options be given. The printed text of its stage, behind any lines of
-- comments, as those of the report are, spells a module again. That module is valid, and the same memories fit it. From each of them, for
-- every filler of fresh fast memory, within the capacity of the options, it has the verdict of the direct meaning of the text's module
-- and, at the end, its slow memory: where each transfer completes at its start, and in every order of the steps of any number of engines
-- from 1 on. So where the text's module stops at a fault, as a place out of bounds or a division by 0, each of these runs stops at the
-- same, and where it doesn't, none of them stops at any.
use Rattle.std.specs.Prelude.{◌≡◌, ℕ, ◌+◌, ◌≤◌, ◌<◌, ◌^◌, ℤ, List, ◌++◌, length, Some, None, All}
use Rattle.affine_ast.specs.declared.image.Image.{Image}
use Rattle.affine_ast.specs.declared.module.Module.{Module}
use Rattle.affine_ast.specs.PlainLimits.{plain_fault}
use Rattle.affine_ast.specs.Spelling.{spelling}
use Rattle.affine_ast.specs.Validity.{IsValid}
use Rattle.affine_grammar.specs.Spelling.{Spells}
use Rattle.bus_model.specs.declared.step.Step.{Step}
use Rattle.bus_model.specs.declared.step.Verdict.TheVariants as verdict
use Rattle.direct_meaning.specs.Direct.{plain, state_of, verdict_of}
use Rattle.direct_meaning.specs.Memory.{Fits, module_actions}
use Rattle.nest_domain.specs.declared.plan.Options.{Options}
use Rattle.order_meaning.specs.Machine.{Machine, first_machine}
use Rattle.order_meaning.specs.Run.{after_steps, IsRun, IsMaximal}
use Rattle.printed_texts.specs.Comments.{AreOnOneLine, comment_lines}
use Rattle.printed_texts.specs.Lines.{AreSameButLines}
use Rattle.prompt_semantics.specs.Prompt.{prompt, prompt_numbers, prompt_slow, prompt_verdict}
use Rattle.stage_laws.specs.Law.{IsStageOf}

-- runs of two modules from one memory: the direct one of the first, and those of the second with a filler within a capacity
module _ (capacity : ℕ) (source staged : Module) (memory : Image) (filler : ℤ) where
  -- the machine of the second with so many engines, before its first step, and behind some steps
  abbrev pub machine : ℕ → Machine
  machine engines = first_machine engines (module_actions staged memory.symbols) memory

  abbrev pub machine_after : ℕ → List Step → Machine
  machine_after engines steps = after_steps filler capacity (machine engines) steps

  -- these steps of the machine have come where the direct run comes: to the end with its slow memory, or to its fault
  pub record EndsAsDirect (engines : ℕ) (steps : List Step) : Type 0 where
    pub verdict_is : (machine_after engines steps).verdict ≡ Some (verdict_of (plain source memory))
    pub memory_is : verdict_of (plain source memory) ≡ verdict.End → (machine_after engines steps).core.state.slow ≡ (state_of (plain source memory)).slow

  -- every order of the steps of so many engines: it can go on until no step is left, it has no more steps than this, and where no step
  -- is left it has come there
  pub record EveryOrderEnds (engines : ℕ) : Type 0 where
    pub goes_on : (steps : List Step) → IsRun filler capacity (machine engines) steps → (more : List Step) × IsMaximal filler capacity (machine engines) (steps ++ more)
    pub stops : (steps : List Step) → IsRun filler capacity (machine engines) steps
        → length steps ≤ (prompt_numbers (prompt staged memory filler capacity)).actions + (prompt_numbers (prompt staged memory filler capacity)).engine_steps
    pub ends : (steps : List Step) → IsMaximal filler capacity (machine engines) steps → EndsAsDirect engines steps

  -- the prompt run, in which each transfer completes at its start, has come there, and so has every order
  pub record RunsAsDirect : Type 0 where
    pub verdict_is : prompt_verdict (prompt staged memory filler capacity) ≡ verdict_of (plain source memory)
    pub memory_is : verdict_of (plain source memory) ≡ verdict.End → prompt_slow (prompt staged memory filler capacity) ≡ (state_of (plain source memory)).slow
    pub orders : (engines : ℕ) → 1 ≤ engines → EveryOrderEnds engines

-- the second module is valid, the memories that fit it are those that fit the first, and from each of them, for every filler, it runs so
pub record RunsAs (capacity : ℕ) (source staged : Module) : Type 0 where
  pub valid : IsValid staged
  pub fits : (memory : Image) → Fits source memory → Fits staged memory
  pub fits_only : (memory : Image) → Fits staged memory → Fits source memory
  pub runs : (memory : Image) → Fits source memory → (filler : ℤ) → RunsAsDirect capacity source staged memory filler

-- the text spells a module that does so
pub record SpellsRunning (capacity : ℕ) (source : Module) (text : List ℕ) : Type 0 where
  pub staged : Module
  pub spelled : Spells text staged
  pub runs : RunsAs capacity source staged

-- ---- the laws

abbrev pub StagesRun : Type 0
StagesRun = (o : Options) (text : List ℕ) (source staged : Module) → length text < 2 ^ 64 → Spells text source → IsValid source → plain_fault source ≡ None
    → IsStageOf o source staged → RunsAs o.capacity source staged

abbrev pub StageOutput : Type 0
StageOutput = (o : Options) (text : List ℕ) (source staged : Module) → length text < 2 ^ 64 → Spells text source → IsValid source → plain_fault source ≡ None
    → IsStageOf o source staged → (comments : List (List ℕ)) → All AreOnOneLine comments → SpellsRunning o.capacity source (comment_lines comments ++ spelling staged)

abbrev pub LinesChangeNothing : Type 0
LinesChangeNothing = (capacity : ℕ) (source staged other : Module) → AreSameButLines staged other → RunsAs capacity source staged → RunsAs capacity source other
