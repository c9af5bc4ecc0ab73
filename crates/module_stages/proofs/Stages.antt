-- The steps of a stage, one behind the other.
use Rattle.std.proofs.Common.{◌≡◌, ◌∙◌, subst}
use Rattle.affine_ast.specs.declared.module.Module.{Module}
use Rattle.affine_ast.specs.Validity.{IsValid}
use Rattle.nest_domain.specs.declared.plan.Options.{Options}
use Rattle.normal_texts.specs.Texts.{IsNormal}
use Rattle.normal_texts.proofs.Texts.{normal_is_the_same}
use Rattle.numbered_names.specs.Numbers.{IsNumbered}
use Rattle.plan_theorem.specs.Law.{IsStagedModule}
use Rattle.stage_laws.specs.Law.{IsStageOf}

pub stays_valid : (m q : Module) → IsValid m → IsNormal m q → IsValid q
stays_valid m q valid is = (normal_is_the_same m q valid is).valid

pub is_stage : (o : Options) (m placed ordered q : Module) → IsStagedModule o m placed → placed.name ≡ m.name → IsNormal placed ordered → ordered.name ≡ placed.name → IsNumbered ordered q → IsStageOf o m q
is_stage o m placed ordered q staged placed_name normal ordered_name numbered = record {
  placed = placed;
  ordered = ordered;
  is_placed = staged;
  is_ordered = normal;
  is_numbered = subst (λ n. IsNumbered (record ordered { name = n }) q) named numbered;
}
  where
    named : ordered.name ≡ m.name
    named = ordered_name ∙ placed_name
