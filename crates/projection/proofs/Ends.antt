-- The loop over the bounds of rows.
use Rattle.std.proofs.Common.{◌≡◌, List, ◌∷◌, Option, Some, None, Ok, fold, ℤ, refl, sym, ap, ◌∙◌}
use Rattle.std.proofs.Common.{FitsSigned}
use Rattle.std.specs.Int.{w128}
use Rattle.std.specs.List.{reduce}
use Rattle.num_row.specs.Ints.{narrowed}
use Rattle.num_row.proofs.Narrow.{narrowed_fits}
use Rattle.constraint_set.specs.Elimination.{or_wide}
use Rattle.projection.specs.declared.bounds.End.{End}
use Rattle.projection.specs.Reaches.{tighter, tighter_than}

-- the tightest of the bounds so far and those of a list
abbrev pub reduced_from : End → Option ℤ → List ℤ → Option ℤ
reduced_from end None bounds = reduce (tighter end) bounds
reduced_from end (Some a) bounds = Some (fold (tighter end) a bounds)

pub one_more : (end : End) (best : Option ℤ) (b : ℤ) (bounds : List ℤ) → reduced_from end best (b ∷ bounds) ≡ reduced_from end (Some (tighter_than end best b)) bounds
one_more end None b bounds = refl
one_more end (Some a) b bounds = refl

-- a number that fits is there
pub fitting : (x y : ℤ) → FitsSigned w128 x → x ≡ y → or_wide (narrowed y) ≡ Ok x
fitting x y f e = ap (λ z. or_wide (narrowed z)) (sym e) ∙ ap or_wide (narrowed_fits x f)
