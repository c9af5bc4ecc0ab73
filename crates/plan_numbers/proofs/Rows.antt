-- The worked plans.
use Rattle.std.proofs.Common.{ap, ◌∙◌}
use Rattle.plan_laws.specs.Plan.{planned}
use Rattle.plan_numbers.specs.Modules.{no_turn, tiles}
use Rattle.plan_numbers.specs.Law.{with_loops, with_transfers, PlansAre}
use Rattle.plan_numbers.proofs.Plans.{still_is, unstaged, round_is, staged, refused}
use Rattle.plan_numbers.proofs.Copies.{two_staged}

pub plans : PlansAre
plans = record {
  no_region = ap (λ n. (planned with_loops no_turn.args n).decisions) still_is ∙ unstaged;
  staged = ap (λ n. (planned (with_transfers 64) tiles.args n).decisions) round_is ∙ staged;
  capacity = ap (λ n. (planned (with_transfers 63) tiles.args n).decisions) round_is ∙ refused;
  two = two_staged;
}
