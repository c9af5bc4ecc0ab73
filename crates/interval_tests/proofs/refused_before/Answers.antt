use Rattle.interval_tests.proofs.Theorem.{refused_before}
use Rattle.interval_tests.proofs.refused_before.Goals as goal

pub returns : goal.returns
returns c = refused_before
