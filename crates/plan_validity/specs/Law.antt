-- Each text on the way of a plan is valid, where it breaks none of the rules that a plan tests.
use Rattle.std.specs.Prelude.{◌≡◌, ℕ, ◌≤◌, ℤ, Bool, false, List, [], ◌∷◌, None}
use Rattle.affine_ast.specs.declared.image.Image.{Image}
use Rattle.affine_ast.specs.declared.module.Arg.{Arg}
use Rattle.affine_ast.specs.declared.module.Module.{Module}
use Rattle.affine_ast.specs.declared.name.Name.{Name}
use Rattle.affine_ast.specs.Nest.{Nest, nest}
use Rattle.affine_ast.specs.PlainLimits.{plain_fault}
use Rattle.affine_ast.specs.Validity.{Broken, told, told_arguments, outside, IsValid}
use Rattle.direct_meaning.specs.Direct.{plain}
use Rattle.direct_meaning.specs.Memory.{Fits, module_actions}
use Rattle.prompt_semantics.specs.Prompt.{prompt}
use Rattle.boxes.specs.Every.{Every}
use Rattle.box_run_laws.specs.Law.{Agrees}
use Rattle.box_run_laws.specs.Roomy.{most_live}
use Rattle.placement_texts.specs.Fold.{Step, staged_all, there, AllParted}
use Rattle.placement_texts.specs.Own.{OwnNest}
use Rattle.placement_texts.specs.Spots.{stage_one}
use Rattle.placement_texts.specs.Tests.{is_tested}
use Rattle.placement_texts.specs.Valid.{OwnArguments, Passes, AllPass}
use Rattle.staged_plans.specs.Plans.{IsPlanned, AllNamed}

-- the first rule that arguments and a text break, if they break one, is none of V9, V11 and V12
abbrev pub MeetsTests : List Arg → Nest → Type 0
MeetsTests args n = (line number : ℕ) → told_arguments args (told n) outside ≡ Broken line number → is_tested number ≡ false

-- so it is with each placement more
abbrev pub AllMeetTests : List Arg → List Step → Nest → Type 0
AllMeetTests args [] n = Unit {0}
AllMeetTests args (x ∷ xs) n = MeetsTests args (stage_one x.placement x.spot n) × AllMeetTests args xs (stage_one x.placement x.spot n)

-- then each text on the way breaks no rule, and the last one doesn't
abbrev pub PlansPass : Type 0
PlansPass = (m : Module) → IsValid m → (made_by : Name → ℕ) → OwnNest (there made_by 0) (nest m.body) → OwnArguments (there made_by 0) m.args
    → (symbols : List ℤ) (dma : Bool) (xs : List Step) → AllNamed made_by 0 xs → Every (IsPlanned dma m.args symbols (nest m.body)) xs
    → AllMeetTests m.args xs (nest m.body) → AllPass m.args xs (nest m.body) × Passes m.args (staged_all xs (nest m.body))

-- the second module is the first with all placements of a plan
pub record IsStagedBy (xs : List Step) (m q : Module) : Type 0 where
  pub arguments : q.args ≡ m.args
  pub body : nest q.body ≡ staged_all xs (nest m.body)

-- a plan of a module: its placements, whose names are none of the module's, each of another memref or at a loop apart, and whose
-- tests are met
pub record IsPlanOf (m : Module) (symbols : List ℤ) (made_by : Name → ℕ) (dma : Bool) (xs : List Step) : Type 0 where
  pub own_text : OwnNest (there made_by 0) (nest m.body)
  pub own_arguments : OwnArguments (there made_by 0) m.args
  pub named : AllNamed made_by 0 xs
  pub planned : Every (IsPlanned dma m.args symbols (nest m.body)) xs
  pub parted : AllParted made_by xs
  pub tested : AllMeetTests m.args xs (nest m.body)

-- so that module is valid
abbrev pub StagedIsValid : Type 0
StagedIsValid = (m q : Module) → IsValid m → (symbols : List ℤ) (made_by : Name → ℕ) (dma : Bool) (xs : List Step) → IsPlanOf m symbols made_by dma xs → IsStagedBy xs m q → IsValid q

-- and where the first meets V13, from every memory that fits it, its prompt meaning at a capacity that the live bytes don't pass has
-- the verdict of the first one's direct meaning, and at the end its slow memory
abbrev pub StagedAgrees : Type 0
StagedAgrees = (m q : Module) → IsValid m → plain_fault m ≡ None → (memory : Image) → Fits m memory → (made_by : Name → ℕ) (dma : Bool) (xs : List Step)
    → IsPlanOf m memory.symbols made_by dma xs → IsStagedBy xs m q → (filler : ℤ) (capacity : ℕ) → most_live (module_actions q memory.symbols) 0 ≤ capacity
    → Agrees (plain m memory) (prompt q memory filler capacity)
