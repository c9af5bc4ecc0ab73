-- The placement that a decision says, as code has it, where there is one.
use Rattle.std.specs.Prelude.{◌≡◌, ◌≤◌, All, List, [], ◌∷◌, ◌++◌, length, Option, Some, None}
use Rattle.placement_code.specs.Placed.{MayBeWritten}
use Rattle.placement_stage.specs.All.{AreSteps}
use Rattle.placement_stage.specs.declared.all.PlacedAt.{PlacedAt}
use Rattle.placement_texts.specs.Fold.{Step}

abbrev pub AreStepsOf : Option PlacedAt → List Step → Type 0
AreStepsOf None steps = AreSteps [] steps
AreStepsOf (Some x) steps = AreSteps (x ∷ []) steps

-- its numbers may be written
abbrev pub MayBeWrittenAt : PlacedAt → Type 0
MayBeWrittenAt x = MayBeWritten x.placed

abbrev pub MayBeWrittenWhere : Option PlacedAt → Type 0
MayBeWrittenWhere None = Unit {0}
MayBeWrittenWhere (Some x) = MayBeWrittenAt x

-- a list with at most one placement more, which is of these steps
pub record IsAdded (old new : List PlacedAt) (said : List Step) : Type 0 where
  pub added : List PlacedAt
  pub whole : new ≡ old ++ added
  pub steps : AreSteps added said
  pub written : All MayBeWrittenAt added
  pub few : length added ≤ 1
