-- The capped sums of a text with one placement more.
use Rattle.std.specs.Prelude.{◌≡◌, ℕ, List}
use Rattle.affine_ast.specs.Nest.{Nest}
use Rattle.nest_domain.specs.Ways.{Use}
use Rattle.placement_texts.specs.Template.{Placement}
use Rattle.placement_texts.specs.Spots.{Spot, stage_one}
use Rattle.text_limits.specs.declared.sums.Sums.{Sums}
use Rattle.text_limits.specs.Sums.{sums_in}
use Rattle.text_limits.specs.Adding.{with_sums, subscripts, redirected, template_sums, Describes}
use Rattle.text_limits.specs.Capped.{capped_sums}

-- from capped sums, with a placement at a loop with so many loops and conditions round it, whose uses of the memref are these
abbrev pub told_with : Placement → ℕ → ℕ → List Use → Sums → Sums
told_with p loops ifs us t = capped_sums (redirected p (subscripts us) (with_sums t (template_sums p loops ifs)))

abbrev pub PlacementsAreTold : Type 0
PlacementsAreTold = (p : Placement) (loops ifs : ℕ) (us : List Use) (s : Spot) (n : Nest) (t : Sums) → Describes p loops ifs us s n
    → t ≡ capped_sums (sums_in 0 0 n) → told_with p loops ifs us t ≡ capped_sums (sums_in 0 0 (stage_one p s n))
