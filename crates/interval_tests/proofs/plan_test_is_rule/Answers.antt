use Rattle.interval_tests.proofs.Planned.{plan_test_is_rule}
use Rattle.interval_tests.proofs.plan_test_is_rule.Goals as goal

pub returns : goal.returns
returns c = plan_test_is_rule
