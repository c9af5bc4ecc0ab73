use Rattle.placed_intervals.proofs.Untesting.{plan_needs_no_test}
use Rattle.placed_intervals.proofs.plan_needs_no_test.Goals as goal

pub returns : goal.returns
returns c = plan_needs_no_test
