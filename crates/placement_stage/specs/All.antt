-- Several placements, one staged after the other.
use Rattle.std.specs.Prelude.{◌≡◌, List, [], ◌∷◌}
use Rattle.affine_ast.specs.Nest.{Nest}
use Rattle.placement_texts.specs.Fold.{Step, staged_all}
use Rattle.placement_texts.specs.Spots.{stage_one}
use Rattle.placement_code.specs.Placed.{placement_of, MayBeWritten}
use Rattle.placement_stage.specs.declared.all.PlacedAt.{PlacedAt}
use Rattle.placement_stage.specs.Places.{spot_of}
use Rattle.placement_stage.specs.Stages.{IsSmallText}

abbrev pub with_one : PlacedAt → Nest → Nest
with_one x n = stage_one (placement_of x.placed) (spot_of x.at.steps) n

abbrev pub staged_with : List PlacedAt → Nest → Nest
staged_with [] n = n
staged_with (x ∷ xs) n = staged_with xs (with_one x n)

-- each may be written, and the subscripts of the text that it is staged in are small
abbrev pub AllMayBeStaged : List PlacedAt → Nest → Type 0
AllMayBeStaged [] n = Unit {0}
AllMayBeStaged (x ∷ xs) n = MayBeWritten x.placed × IsSmallText n × AllMayBeStaged xs (with_one x n)

-- steps that are these placements, at the loops of these paths
pub record IsStepOf (x : PlacedAt) (s : Step) : Type 0 where
  pub placement : s.placement ≡ placement_of x.placed
  pub spot : s.spot ≡ spot_of x.at.steps

abbrev pub AreSteps : List PlacedAt → List Step → Type 0
AreSteps [] [] = Unit {0}
AreSteps (x ∷ xs) (s ∷ ss) = IsStepOf x s × AreSteps xs ss
AreSteps [] (s ∷ ss) = ⊥
AreSteps (x ∷ xs) [] = ⊥

-- they give the text of the steps
abbrev pub StepsAreStaged : Type 0
StepsAreStaged = (xs : List PlacedAt) (ss : List Step) (n : Nest) → AreSteps xs ss → staged_all ss n ≡ staged_with xs n
