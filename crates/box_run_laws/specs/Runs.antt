-- The runs of a placement's loop: by copy loops, or by transfers with a wait each.
use Rattle.std.specs.Prelude.{◌≡◌, ◌≢◌, ℕ, Bool, false, List}
use Rattle.affine_ast.specs.declared.name.Name.{Name}
use Rattle.affine_ast.specs.declared.types.Element.{Element}
use Rattle.bus_model.specs.declared.transfer.Transfer.{Transfer}
use Rattle.direct_meaning.specs.Action.{Action}
use Rattle.direct_meaning.specs.Actions.{half_cells}
use Rattle.box_run_laws.specs.Layouts.{Numbering}
use Rattle.box_run_laws.specs.Boxes.{Half}
use Rattle.box_run_laws.specs.Parts.{Box, box_old, box_new, MeetsBox}
use Rattle.box_run_laws.specs.Templates.{by_copies, Carrier, Carries, by_transfers}

-- the new fast memref: its half, its element and its sizes
pub record Fast : Type 0 where
  pub half : Half
  pub element : Element
  pub sizes : List ℕ

-- it has a number of its own, and its half as many cells as the box
pub record IsFast (nu : Numbering) (f : Fast) : Type 0 where
  pub new : (n : ℕ) → nu.fasts n ≢ f.half.number
  pub long : half_cells f.sizes ≡ f.half.count

pub data Run : Type 0 where
  -- by the names of the values that are copied in and out
  Copying : Fast → Name → Name → Box → Run
  Carrying : Fast → Carrier → Box → Run

abbrev pub run_old : Run → List Action
run_old (Copying f v w x) = box_old x
run_old (Carrying f c x) = box_old x

abbrev pub run_new : Numbering → Run → List Action
run_new nu (Copying f v w x) = box_new nu f.half (by_copies f.half f.element f.sizes v w) x
run_new nu (Carrying f c x) = box_new nu f.half (by_transfers f.half f.element f.sizes c) x

-- copy loops ask nothing more of a box
abbrev pub Anything : (ℕ → ℕ) → Type 0
Anything place = Unit {0}

abbrev pub MeetsRun : (Name → Bool) → Numbering → ℕ → Run → List Transfer → Type 0
MeetsRun own nu total (Copying f v w x) ts = IsFast nu f × (own v ≡ false) × (own w ≡ false)
    × MeetsBox own nu f.half total Anything x ts
MeetsRun own nu total (Carrying f c x) ts = IsFast nu f × ((n : ℕ) → nu.tags n ≢ c.tag)
    × MeetsBox own nu f.half total (Carries f.half c) x ts
