-- What holds of every plan with doubling.
use Rattle.std.specs.Prelude.{◌≡◌, ◌≤◌, Bool, true, false, ◌||◌, List, [], ◌∷◌}
use Rattle.affine_ast.specs.declared.module.Module.{Module}
use Rattle.affine_ast.specs.Nest.{Nest, nest}
use Rattle.nest_domain.specs.declared.plan.Decision.{Decision}
use Rattle.nest_domain.specs.declared.plan.Doubling.TheVariants as doubling
use Rattle.nest_domain.specs.declared.plan.Options.{Options}
use Rattle.nest_domain.specs.declared.plan.Outcome.{Outcome}
use Rattle.nest_domain.specs.declared.plan.Outcome.TheVariants as outcome
use Rattle.placement_texts.specs.Spots.{Spot}
use Rattle.peak_laws.specs.Peak.{peak_of, peak}
use Rattle.plan_laws.specs.Limits.{keeps_limits, keeps_intervals}
use Rattle.plan_laws.specs.Plan.{plan, planned_text}
use Rattle.plan_laws.specs.Sites.{lined}
use Rattle.ring_plans.specs.Plan.{ringed, ring_plan, ring_text}
use Rattle.ring_plans.specs.Spots.{lies_in, loops_by_end, one_lies_in}

-- where the module keeps to the rule on intervals, so does the text with the placements and their rings; where the capacity holds the
-- module's own peak, it holds that of this text; and where the module keeps to the limits, so does this text
pub record KeepsWithin (o : Options) (m : Module) : Type 0 where
  pub intervals : keeps_intervals m.args (lined (nest m.body)) ≡ true → keeps_intervals m.args (ring_text o m) ≡ true
  pub capacity : peak m ≤ o.capacity → peak_of (ring_text o m) 0 ≤ o.capacity
  pub limits : keeps_limits m.args (lined (nest m.body)) ≡ true → keeps_limits m.args (ring_text o m) ≡ true

abbrev pub RingsKeepWithin : Type 0
RingsKeepWithin = (o : Options) (m : Module) → KeepsWithin o m

-- ---- what doubling leaves as it was
abbrev pub undoubled_outcome : Outcome → Outcome
undoubled_outcome (outcome.Left c) = outcome.Left c
undoubled_outcome (outcome.Staged at ds reads writes d) = outcome.Staged at ds reads writes doubling.NotAsked

-- the decisions without a word on doubling
abbrev pub undoubled : List Decision → List Decision
undoubled [] = []
undoubled (d ∷ ds) = record d { outcome = undoubled_outcome d.outcome } ∷ undoubled ds

-- a plan with doubling says of each memref what the plan without it says, and then whether it is doubled
abbrev pub PlacementsStay : Type 0
PlacementsStay = (o : Options) (m : Module) → undoubled (ring_plan o m) ≡ plan o m

-- where doubling isn't asked for, the plan and its text are those without it
abbrev pub PlainPlansStay : Type 0
PlainPlansStay = (o : Options) (m : Module) → o.double ≡ false → (ring_plan o m ≡ plan o m) × (ring_text o m ≡ planned_text o m)

-- ---- loops with rings
-- none of the loops lies in one that comes before it in the list
abbrev pub NoneHolds : List Spot → Type 0
NoneHolds [] = Unit {0}
NoneHolds (l ∷ ls) = (one_lies_in l ls ≡ false) × NoneHolds ls

-- of the loops of a text in the order in which they end none lies in an earlier one
abbrev pub LoopsEndInOrder : Type 0
LoopsEndInOrder = (n : Nest) → NoneHolds (loops_by_end n)

-- a place lies in one of these loops
abbrev pub lies_in_one : List Spot → Spot → Bool
lies_in_one [] s = false
lies_in_one (t ∷ ts) s = lies_in t s || lies_in_one ts s

-- no two loops of a list lie in one another
abbrev pub StandApart : List Spot → Type 0
StandApart [] = Unit {0}
StandApart (l ∷ ls) = (one_lies_in l ls ≡ false) × (lies_in_one ls l ≡ false) × StandApart ls

-- no loop with rings lies in another one
abbrev pub RingsStandApart : Type 0
RingsStandApart = (o : Options) (m : Module) → StandApart (ringed o m).loops
