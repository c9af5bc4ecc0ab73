use Rattle.std.proofs.Common.{subst}
use Rattle.affine_driver.specs.Behaviour.{ComesTo}
use Rattle.affine_driver.specs.Outcome.{Answered}
use Rattle.affine_driver.proofs.Endings.{because}
use Rattle.affine_driver.proofs.streams.finish.Goals as goal

pub returns-in-Err-clause-because : goal.returns-in-Err-clause-because
returns-in-Err-clause-because g c = λ command source h. because command source c.from.result c.in-Err.refusal _ _ c.from.ensures (subst (λ a. Answered a (λ output. output.items) (ComesTo command source)) c.in-Err.is h)
