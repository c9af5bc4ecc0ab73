-- The laws of staging: with one placement, and with all placements of a plan.
use Rattle.std.specs.Prelude.{◌≡◌, ℕ, ◌+◌, ◌≤◌, ℤ, Bool, true, false, List, [], ◌∷◌, length}
use Rattle.affine_ast.specs.declared.name.Name.{Name}
use Rattle.affine_ast.specs.declared.image.Image.{Image}
use Rattle.affine_ast.specs.Nest.{Nest}
use Rattle.affine_ast.specs.Sizes.{product}
use Rattle.direct_meaning.specs.Static.{Env}
use Rattle.direct_meaning.specs.Actions.{actions}
use Rattle.direct_meaning.specs.Direct.{folded, first_state, direct_step}
use Rattle.prompt_semantics.specs.Prompt.{prompt_step, first_device}
use Rattle.boxes.specs.Boxes.{Side}
use Rattle.placement_texts.specs.Labels.{Numbers}
use Rattle.placement_texts.specs.Own.{OwnNest}
use Rattle.boxes.specs.Every.{Every}
use Rattle.placement_texts.specs.Each.{Each}
use Rattle.placement_texts.specs.Template.{Dimension, Placement, dim_sizes}
use Rattle.placement_texts.specs.Regions.{Tidy, spans_at}
use Rattle.placement_texts.specs.OneTag.{InText, TagIsOne}
use Rattle.placement_texts.specs.Spots.{Spot, found, stage_one, staged_at, FineAt}
use Rattle.placement_texts.specs.Law.{Suits, Alike}
use Rattle.placement_texts.specs.Fold.{Step, staged_all, numbers_at, IsSlow, there, AllFit, IsReady, AllParted, AllApart}
use Rattle.box_run_laws.specs.Roomy.{roomy_step, most_live}
use Rattle.box_run_laws.specs.Plain.{IsPlain}
use Rattle.box_run_laws.specs.Law.{SameEnd, Agrees}
use Rattle.staging_laws.specs.Joined.{Suited}
use Rattle.staging_laws.specs.Spared.{Keeps, Aside, ReleasedTogether, WaitedFor, AtLoop, LoopIn, StoresAll}

-- the box of a placement, wherever it begins
abbrev pub flat_spans : List Dimension → List Side
flat_spans [] = []
flat_spans (d ∷ ds) = record { size = d.size; place = 0; extent = d.extent } ∷ flat_spans ds

-- what a placement asks of the numbers alone: the memref lies in a slow memory of so many places, and one transfer carries the box
-- where transfers are used
pub record Sized (p : Placement) (first total : ℕ) : Type 0 where
  pub fits : first + product (dim_sizes p.dims) ≤ total
  pub suited : Suited p.how (flat_spans p.dims)

-- the loop keeps to what the placement says of the memref
abbrev pub Kept : Placement → Spot → Nest → Type 0
Kept p s n = LoopIn (InText (Keeps p)) s n

-- what it asks of a text beside names, scope and the region: memrefs are apart, and tags of a dealloc move up together, by
-- the text's validity; and a box that isn't read in is stored to
pub record Allows (p : Placement) (first : ℕ) (new : Numbers) (s : Spot) (n : Nest) (e : Env) : Type 0 where
  pub aside : Each (Aside p.memref first (dim_sizes p.dims)) n e
  pub released : Each (ReleasedTogether new) n e
  pub covered : p.reads ≡ false → p.writes ≡ true
      → AtLoop (λ loop e. StoresAll first (spans_at e p.dims) (actions loop e)) s n e

-- with one placement more, the prompt run of a text without bound has the same verdict, and at the end the same slow memory
abbrev pub OneAgrees : Type 0
OneAgrees = (own : Name → Bool) (p : Placement) (order first : ℕ) (new : Numbers) (s : Spot) (n : Nest) (e g : Env)
    → Suits own p new s n e → Alike own new e g → Each (Tidy new p.memref first (dim_sizes p.dims)) n e
    → FineAt p order first s n e
    → Kept p s n → Allows p first new s n e → WaitedFor n → (memory : Image)
    → Sized p first (length (first_state memory).slow) → (filler : ℤ)
    → SameEnd (folded (roomy_step filler) (actions n e) (first_device memory))
    (folded (roomy_step filler) (actions (staged_at p s n) g) (first_device memory))

-- each text on the way allows its placement
abbrev pub AllAllow : List Step → Nest → Env → Type 0
AllAllow [] n e = Unit {0}
AllAllow (s ∷ ss) n e = Allows s.placement s.first (numbers_at s n e) (found s.spot n) n e
    × AllAllow ss (stage_one s.placement s.spot n) e

-- with all placements of a plan, at a capacity that the live bytes don't pass: the prompt run has the verdict of the direct
-- meaning of the text without any, and at the end its slow memory
abbrev pub PlanAgrees : Type 0
PlanAgrees = (made_by : Name → ℕ) (ss : List Step) (n : Nest) (e : Env) → OwnNest (there made_by 0) n
    → AllFit made_by 0 ss → Every (IsReady made_by n e) ss → AllParted made_by ss
    → ((m : Name) → IsSlow (e.home m)) → InText TagIsOne n → AllApart made_by ss n e
    → Every (λ (s : Step). Kept s.placement (found s.spot n) n) ss → AllAllow ss n e → WaitedFor n
    → (memory : Image) → Every (λ (s : Step). Sized s.placement s.first (length (first_state memory).slow)) ss
    → Every IsPlain (actions n e)
    → (filler : ℤ) (capacity : ℕ) → most_live (actions (staged_all ss n) e) 0 ≤ capacity
    → Agrees (folded direct_step (actions n e) (first_state memory))
    (folded (prompt_step filler capacity) (actions (staged_all ss n) e) (first_device memory))
