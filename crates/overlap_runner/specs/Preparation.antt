-- What a prepared run is seen as, and what it does.
use Rattle.std.specs.Prelude.{◌≡◌, ℕ, ℤ, ◌+◌, ◌<◌, ◌^◌, List, length}
use Rattle.std.specs.List.{All}
use Rattle.affine_ast.specs.declared.image.Cells.{Cells}
use Rattle.affine_ast.specs.declared.image.Image.{Image}
use Rattle.affine_ast.specs.declared.module.Module.{Module}
use Rattle.affine_ast.specs.Nest.{nest}
use Rattle.affine_ast.specs.Validity.{IsValid}
use Rattle.bus_model.specs.declared.step.Verdict.{Verdict}
use Rattle.direct_meaning.specs.Direct.{verdict_of}
use Rattle.direct_meaning.specs.Memory.{Fits, module_actions}
use Rattle.prompt_semantics.specs.Prompt.{prompt, prompt_slow, first_device}
use Rattle.run_laws.specs.StaysFitting.{with_slow}
use Rattle.walk_program.specs.declared.program.Program.{Program}
use Rattle.walk_program.specs.Reading.{nest_of, arguments_of}
use Rattle.walk_program.specs.Tree.{tree}
use Rattle.walk_program.specs.WellMade.{WellMade}
use Rattle.nest_walk.specs.Walked.{Walked}
use Rattle.prompt_laws.specs.Rooms.{Room, module_rooms}
use Rattle.tag_table.specs.Shapes.{BusShape, EngineShape, IsIdle}
use Rattle.overlap_memory.specs.declared.memory.Memory.{Memory}
use Rattle.overlap_memory.specs.Tied.{Tied, FastShape}
use Rattle.overlap_memory.specs.First.{IsFirst, shape_at_first}
use Rattle.fast_halves.specs.Shape.{HalvesShape}
use Rattle.prompt_semantics.specs.Device as model
use Rattle.fast_rooms.specs.Rooms.{HaveRooms}
use Rattle.overlap_runner.specs.declared.device.Device.{Device}
use Rattle.overlap_runner.specs.Runs.{StandsAt}

-- a program is that of a module: the module with numbers for its names
pub record IsProgramOf (program : Program) (module_ : Module) : Type 0 where
  pub made : WellMade program
  pub arguments : arguments_of program.names program.arguments ≡ module_.args
  pub body : nest_of program.names (tree program.body) ≡ nest module_.body

-- a run that is prepared: a module, the memory that it begins from, the filler of fresh cells, the capacity in bytes, and the
-- number of engines
pub record Run : Type 0 where
  pub module_ : Module
  pub image : Image
  pub filler : ℤ
  pub capacity : ℕ
  pub engines : ℕ

-- it comes to the verdict of the prompt meaning and to its slow memory, at the end or at the fault; the index arguments are as
-- they were handed in
pub record RunsPromptly (run : Run) (verdict : Verdict) (image : Image) : Type 0 where
  pub verdict_is : verdict ≡ verdict_of (prompt run.module_ run.image run.filler run.capacity)
  pub memory_is : image ≡ with_slow run.image (prompt_slow (prompt run.module_ run.image run.filler run.capacity))
  pub fits : Fits run.module_ image

-- the memory of a compute thread before its first action: these words, halves for these rooms, nothing allocated
pub record Begun (bus : BusShape) (rooms : List Room) (words : List ℤ) (memory : Memory) : Type 0 where
  pub halves : List HalvesShape
  pub have : HaveRooms rooms halves
  pub tied : (y : model.Device) → IsFirst words y → Tied bus (shape_at_first halves) memory y

-- the memory of a run is taken, and all stands at its first action
pub record IsPrepared (run : Run) (bus : BusShape) (walk : Walked) (device : Device) (engines : List EngineShape) (memrefs : List Cells) (words : List ℤ) : Type 0 where
  pub valid : IsValid run.module_
  pub fits : Fits run.module_ run.image
  pub filler : device.filler ≡ run.filler
  pub capacity : device.capacity ≡ run.capacity
  pub names : device.registers.names ≡ walk.names
  pub left : walk.left ≡ module_actions run.module_ run.image.symbols
  pub shape : FastShape
  pub stands : StandsAt bus (module_rooms run.module_) shape (first_device run.image) walk.left device
  pub engines_idle : All (IsIdle bus.id) engines
  pub engines_are : length engines + 1 ≡ run.engines
  pub few : run.engines < 2 ^ 32
  pub memrefs_are : memrefs ≡ run.image.memrefs
  pub words_are : length words ≡ bus.words
