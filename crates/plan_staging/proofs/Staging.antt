-- The module that is staged by the placements of its plan.
use Rattle.std.proofs.Common.{◌≡◌, ◌≤◌, Bool, List, length, sym, ap, ◌∙◌, subst}
use Rattle.std.specs.Prelude.{All, None}
use Rattle.affine_ast.specs.declared.module.Module.{Module}
use Rattle.affine_ast.specs.Nest.{Nest, nest}
use Rattle.affine_ast.specs.PlainLimits.{plain_fault}
use Rattle.affine_ast.specs.Validity.{IsValid}
use Rattle.nest_domain.specs.declared.plan.Decision.{Decision}
use Rattle.nest_domain.specs.declared.plan.Options.{Options}
use Rattle.placement_stage.specs.All.{staged_with, AllMayBeStaged, AreSteps}
use Rattle.placement_stage.specs.declared.all.PlacedAt.{PlacedAt}
use Rattle.placement_stage.proofs.Alls.{steps_staged}
use Rattle.placement_stage.proofs.Valid.{valid_small}
use Rattle.plan_laws.specs.Plan.{plan, plan_steps}
use Rattle.plan_laws.specs.Sites.{lined}
use Rattle.plan_theorem.specs.Law.{IsWritten, IsStagedModule}
use Rattle.plan_theorem.proofs.Theorem.{plan_runs}
use Rattle.plan_staging.specs.Decided.{placements_of, IsMadeOf, IsPlanFor}
use Rattle.plan_staging.specs.Made.{MayBeWrittenAt}
use Rattle.plan_staging.proofs.Said.{planned_stands, plans_say_placements}
use Rattle.plan_staging.proofs.Few.{few_planned}
use Rattle.plan_staging.proofs.Smalls.{small_lined, may_be_staged}

pub all_may : (dma : Bool) (m : Module) (ds : List Decision) → IsPlanFor dma m ds → All (IsMadeOf dma m.args (nest m.body)) ds
all_may dma m ds p =
    subst (λ d. All (IsMadeOf d m.args (nest m.body)) ds) p.transfers
    (subst (All (IsMadeOf p.options.dma m.args (nest m.body))) (sym p.plan) (planned_stands p.options m.args (nest m.body)).may)

pub few_all : (dma : Bool) (m : Module) (ds : List Decision) → IsValid m → IsPlanFor dma m ds → length ds ≤ 65536
few_all dma m ds valid p = subst (λ ds. length ds ≤ 65536) (sym p.plan) (few_planned p.options m valid)

-- decisions say the steps of the plan that they are
said : (dma : Bool) (m : Module) (ds : List Decision) (o : Options) → o.dma ≡ dma → ds ≡ plan o m → placements_of dma m.args (nest m.body) ds ≡ plan_steps o m
said dma m ds o e h = (λ i. placements_of (sym e i) m.args (nest m.body) (h i)) ∙ plans_say_placements o m

pub may_stage : (dma : Bool) (m : Module) (ds : List Decision) (xs : List PlacedAt) (n : Nest) → n ≡ lined (nest m.body) → IsValid m → IsPlanFor dma m ds
    → AreSteps xs (placements_of dma m.args (nest m.body) ds) → All MayBeWrittenAt xs → AllMayBeStaged xs n
may_stage dma m ds xs n is valid p steps written =
    subst (AllMayBeStaged xs) (sym is)
    (may_be_staged m.args xs (plan_steps p.options m) (lined (nest m.body)) (subst (AreSteps xs) (said dma m ds p.options p.transfers p.plan) steps) written
    (small_lined (nest m.body) (valid_small m valid)) (planned_stands p.options m.args (nest m.body)).keep)

pub is_staged : (dma : Bool) (m q : Module) (ds : List Decision) (xs : List PlacedAt) (n : Nest) → n ≡ lined (nest m.body) → AreSteps xs (placements_of dma m.args (nest m.body) ds)
    → nest q.body ≡ staged_with xs n → q.args ≡ m.args → (o : Options) → o.dma ≡ dma → ds ≡ plan o m → IsStagedModule o m q
is_staged dma m q ds xs n is steps body args o e h = record {
  arguments = args;
  body = body ∙ ap (staged_with xs) is ∙ sym (steps_staged xs (plan_steps o m) (lined (nest m.body)) (subst (AreSteps xs) (said dma m ds o e h) steps));
}

pub is_valid : (dma : Bool) (m q : Module) (ds : List Decision) (xs : List PlacedAt) (n : Nest) → n ≡ lined (nest m.body) → IsValid m → plain_fault m ≡ None → IsWritten m → IsPlanFor dma m ds
    → AreSteps xs (placements_of dma m.args (nest m.body) ds) → nest q.body ≡ staged_with xs n → q.args ≡ m.args → IsValid q
is_valid dma m q ds xs n is valid v13 text p steps body args =
    (plan_runs p.options m q valid v13 text (is_staged dma m q ds xs n is steps body args p.options p.transfers p.plan)).valid
