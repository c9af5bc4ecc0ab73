-- The plan's test on intervals refuses no placement: a region is found only where its templates keep to the rule on intervals, and then
-- they do so in the text with all placements before.
use Rattle.std.specs.Prelude.{◌≡◌, ℕ, ℤ, Bool, true, List, [], ◌∷◌, ◌++◌}
use Rattle.affine_ast.specs.declared.module.Module.{Module}
use Rattle.affine_ast.specs.declared.name.Name.{Name}
use Rattle.affine_ast.specs.Nest.{nest}
use Rattle.affine_ast.specs.Validity.{IsValid}
use Rattle.boxes.specs.Every.{Every}
use Rattle.placement_texts.specs.Fold.{Step, staged_all, there, AllParted}
use Rattle.placement_texts.specs.Own.{OwnNest}
use Rattle.placement_texts.specs.Spots.{stage_one}
use Rattle.placement_texts.specs.Valid.{OwnArguments}
use Rattle.plan_laws.specs.Limits.{keeps_intervals}
use Rattle.staged_plans.specs.Plans.{IsPlanned, AllNamed}

-- placements in a module: each at a loop at which its memref has a region, whose test on intervals passed; each with names of its own;
-- and each of another memref than those before, or at a loop apart. Nothing is asked of the text that they give
pub record ArePlaced (m : Module) (symbols : List ℤ) (made_by : Name → ℕ) (dma : Bool) (xs : List Step) : Type 0 where
  pub own_text : OwnNest (there made_by 0) (nest m.body)
  pub own_arguments : OwnArguments (there made_by 0) m.args
  pub named : AllNamed made_by 0 xs
  pub planned : Every (IsPlanned dma m.args symbols (nest m.body)) xs
  pub parted : AllParted made_by xs

-- a valid module keeps to the rule on intervals with all of them
abbrev pub PlacedKeepIntervals : Type 0
PlacedKeepIntervals = (m : Module) → IsValid m → (symbols : List ℤ) (made_by : Name → ℕ) (dma : Bool) (xs : List Step)
    → ArePlaced m symbols made_by dma xs → keeps_intervals m.args (staged_all xs (nest m.body)) ≡ true

-- so it does with one more of them
abbrev pub OneMoreKeepsIntervals : Type 0
OneMoreKeepsIntervals = (m : Module) → IsValid m → (symbols : List ℤ) (made_by : Name → ℕ) (dma : Bool) (xs : List Step) (x : Step)
    → ArePlaced m symbols made_by dma (xs ++ x ∷ []) → keeps_intervals m.args (stage_one x.placement x.spot (staged_all xs (nest m.body))) ≡ true
