-- The placement of a plan is one as the law asks for.
use Rattle.std.proofs.Common.{◌≡◌, ◌⊎◌, inl, inr, ℕ, Bool, true, false, List, [], ◌∷◌, refl}
use Rattle.std.specs.Prelude.{◌&&◌, not}
use Rattle.affine_ast.specs.declared.module.Arg.{Arg}
use Rattle.affine_ast.specs.Nest.{nest}
use Rattle.nest_domain.specs.Ways.{Header, Use, Affine, Other}
use Rattle.nest_domain.specs.Boxes as region
use Rattle.box_covers.specs.Covers.{covers}
use Rattle.placement_covers.specs.Law.{is_covered}
use Rattle.staged_plans.specs.Plans.{has_store, uses_there}
use Rattle.made_names.proofs.Tells.{told}
use Rattle.plan_laws.specs.Plan.{placement_at}
use Rattle.plan_theorem.specs.Law.{of_text}
use Rattle.plan_theorem.proofs.Homes.{has_argument}
use Rattle.interval_tests.specs.Planned.{PlanTestIsRule}
use Rattle.interval_tests.proofs.Theorem.{test_is_rule}

-- what covers a box is a store
covered_stores : (args : List Arg) (way : List Header) (us : List Use) (outer : ℕ) (ds : List region.Dimension) → covers args way us outer ds ≡ true → has_store us ≡ true
unfolding covers
covered_stores args way [] outer ds h = absurd (let z : ⊥ = cc in z)
covered_stores args way (Other ∷ us) outer ds h = absurd (let z : ⊥ = cc in z)
covered_stores args way (Affine there false at ∷ us) outer ds h = absurd (let z : ⊥ = cc in z)
covered_stores args way (Affine there true at ∷ us) outer ds h = refl

-- so a box is read in or written out
moved : (dma covered stores : Bool) → (covered ≡ true → stores ≡ true) → (not (dma && covered) ≡ true) ⊎ (stores ≡ true)
moved false covered stores h = inl refl
moved true false stores h = inl refl
moved true true stores h = inr (h refl)

pub plan_test_is_rule : PlanTestIsRule
plan_test_is_rule o m valid written x ty typed s loop ds is number =
    test_is_rule m valid of_text (placement_at o m.args (nest m.body) number x ty (record { at = s; region = ds })) ty s o.dma ds (record {
      loop = loop;
      memref = has_argument m.args x ty typed;
      element = refl;
      is = is;
      dims = refl;
      moves = moved o.dma (is_covered m.args (nest m.body) x s ds) (has_store (uses_there (nest m.body) x s)) (covered_stores _ _ _ _ ds);
      how = refl;
      own_text = written.names;
      own_arguments = written.arguments;
      names = record { made = λ i. refl; apart = λ i j h. told.slots number i j h };
    })
