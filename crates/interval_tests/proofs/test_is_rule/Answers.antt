use Rattle.interval_tests.proofs.Theorem.{test_is_rule}
use Rattle.interval_tests.proofs.test_is_rule.Goals as goal

pub returns : goal.returns
returns c = test_is_rule
