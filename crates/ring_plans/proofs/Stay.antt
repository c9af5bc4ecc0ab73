-- Doubling changes nothing else of a plan.
use Rattle.std.proofs.Common.{◌≡◌, Bool, true, false, List, [], ◌∷◌, ◌++◌, refl, sym, ap, ◌∙◌}
use Rattle.std.specs.Prelude.{fold, map, if◌then◌else◌}
use Rattle.affine_ast.specs.declared.module.Arg.{Arg}
use Rattle.affine_ast.specs.declared.module.Module.{Module}
use Rattle.affine_ast.specs.Nest.{Nest, nest}
use Rattle.nest_domain.specs.declared.plan.Decision.{Decision}
use Rattle.nest_domain.specs.declared.plan.Doubling.{Doubling}
use Rattle.nest_domain.specs.declared.plan.Doubling.TheVariants as doubling
use Rattle.nest_domain.specs.declared.plan.Options.{Options}
use Rattle.nest_domain.specs.declared.plan.Outcome.{Outcome}
use Rattle.nest_domain.specs.declared.plan.Outcome.TheVariants as outcome
use Rattle.nest_domain.specs.Boxes as region
use Rattle.placement_texts.specs.Fold.{Step}
use Rattle.plan_laws.specs.Plan.{Asked, Planned, Settled, Unstaged, Placed, type_of, settled, outcome_of, decision, decided, asked, planned, plan, plan_steps, planned_text}
use Rattle.ring_plans.specs.Spots.{loops_by_end}
use Rattle.ring_plans.specs.Plan.{Judged, Ringed, in_loop, regions_in, begun, with_doubling, doublings_behind, with_doublings, ringed}
use Rattle.ring_plans.specs.Law.{undoubled_outcome, undoubled, PlacementsStay, PlainPlansStay}

-- ---- a plan without doubling says nothing of it
abbrev IsUnasked : Outcome → Type 0
IsUnasked (outcome.Left c) = Unit {0}
IsUnasked (outcome.Staged at ds reads writes d) = d ≡ doubling.NotAsked

abbrev AllUnasked : List Decision → Type 0
AllUnasked [] = Unit {0}
AllUnasked (d ∷ ds) = IsUnasked d.outcome × AllUnasked ds

one_more : (ds : List Decision) (d : Decision) → AllUnasked ds → IsUnasked d.outcome → AllUnasked (ds ++ d ∷ [])
one_more [] d h k = (k, tt)
one_more (x ∷ xs) d h k = (h.0, one_more xs d h.1 k)

module _ (o : Options) (args : List Arg) (n : Nest) where
  outcome_unasked : (y : Settled) → IsUnasked (outcome_of o args n y)
  outcome_unasked (Unstaged c) = tt
  outcome_unasked (Placed x ds) = refl

  all_unasked : (as_ : List Asked) (so : Planned) → AllUnasked so.decisions → AllUnasked (fold (decided o args n) so as_).decisions
  all_unasked [] so h = h
  all_unasked (a ∷ as_) so h =
      let y = settled o args n so.steps a.memref a.at (type_of args a.memref) in
      all_unasked as_ (decided o args n so a) (one_more so.decisions (decision o args n a y) h (outcome_unasked y))

  planned_unasked : AllUnasked (planned o args n).decisions
  unfolding planned
  planned_unasked = all_unasked (asked o args n) (record { steps = []; decisions = [] }) tt

-- ---- so a plan's decisions come back
undone : (w : Outcome) (xs : List Doubling) → IsUnasked w → undoubled_outcome (with_doubling w xs) ≡ w
undone (outcome.Left c) xs h = refl
undone (outcome.Staged at ds reads writes d) [] h = ap (outcome.Staged at ds reads writes) (sym h)
undone (outcome.Staged at ds reads writes d) (x ∷ xs) h = ap (outcome.Staged at ds reads writes) (sym h)

all_undone : (ds : List Decision) (xs : List Doubling) → AllUnasked ds → undoubled (with_doublings ds xs) ≡ ds
all_undone [] xs h = refl
all_undone (d ∷ ds) xs h = λ i. record d { outcome = undone d.outcome xs h.0 i } ∷ all_undone ds (doublings_behind d.outcome xs) h.1 i

pub placements_stay : PlacementsStay
placements_stay o m = all_undone (plan o m) (map (λ (x : Judged). x.doubling) (ringed o m).placements) (planned_unasked o m.args (nest m.body))

-- ---- and stay where none is doubled
abbrev AllPlain : List Doubling → Type 0
AllPlain [] = Unit {0}
AllPlain (x ∷ xs) = (x ≡ doubling.NotAsked) × AllPlain xs

stays : (w : Outcome) (xs : List Doubling) → IsUnasked w → AllPlain xs → with_doubling w xs ≡ w
stays (outcome.Left c) xs h k = refl
stays (outcome.Staged at ds reads writes d) [] h k = refl
stays (outcome.Staged at ds reads writes d) (x ∷ xs) h k = ap (outcome.Staged at ds reads writes) (k.0 ∙ sym h)

plain_behind : (w : Outcome) (xs : List Doubling) → AllPlain xs → AllPlain (doublings_behind w xs)
plain_behind (outcome.Left c) xs k = k
plain_behind (outcome.Staged at ds reads writes d) [] k = k
plain_behind (outcome.Staged at ds reads writes d) (x ∷ xs) k = k.1

all_stay : (ds : List Decision) (xs : List Doubling) → AllUnasked ds → AllPlain xs → with_doublings ds xs ≡ ds
all_stay [] xs h k = refl
all_stay (d ∷ ds) xs h k = λ i. record d { outcome = stays d.outcome xs h.0 k i } ∷ all_stay ds (doublings_behind d.outcome xs) h.1 (plain_behind d.outcome xs k) i

begun_plain : (xs : List Step) (rs : List (List region.Dimension)) → AllPlain (map (λ (x : Judged). x.doubling) (begun false xs rs))
begun_plain [] rs = tt
begun_plain (x ∷ xs) [] = tt
begun_plain (x ∷ xs) (r ∷ rs) = (refl, begun_plain xs rs)

module _ (o : Options) (m : Module) where
  abbrev plain : Ringed
  plain = record { text = planned_text o m; loops = []; placements = begun false (plan_steps o m) (regions_in (plan o m)) }

  plain_ringed : o.double ≡ false → ringed o m ≡ plain
  unfolding ringed
  plain_ringed h = by o.double h
    where
      by : (double : Bool) → double ≡ false
          → (if double
          then fold (in_loop o m.args (nest m.body)) (record { text = planned_text o m; loops = []; placements = begun double (plan_steps o m) (regions_in (plan o m)) }) (loops_by_end (nest m.body))
          else record { text = planned_text o m; loops = []; placements = begun double (plan_steps o m) (regions_in (plan o m)) }) ≡ plain
      by true k = absurd (let z : ⊥ = cc in z)
      by false k = refl

pub plain_plans_stay : PlainPlansStay
plain_plans_stay o m h = (
  ap (λ (so : Ringed). with_doublings (plan o m) (map (λ (x : Judged). x.doubling) so.placements)) (plain_ringed o m h)
      ∙ all_stay (plan o m) (map (λ (x : Judged). x.doubling) (plain o m).placements) (planned_unasked o m.args (nest m.body)) (begun_plain (plan_steps o m) (regions_in (plan o m))),
  ap (λ (so : Ringed). so.text) (plain_ringed o m h),
)
