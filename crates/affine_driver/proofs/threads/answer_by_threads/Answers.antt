use Rattle.affine_driver.proofs.Refusals.{through}
use Rattle.affine_driver.proofs.threads.answer_by_threads.Goals as goal

pub returns-in-Run : goal.returns-in-Run
returns-in-Run g c = through _ _ _ _ _ _ _ _ c.in-Run.is c.split-parts.ensures.text c.split-parts.ensures.image c.in_ok-verified.ensures.0 c.in_ok-verified.ensures.1 c.run_output.ensures

pub returns-in-Both : goal.returns-in-Both
returns-in-Both g c = through _ _ _ _ _ _ _ _ c.in-Both.is c.split-parts.ensures.text c.split-parts.ensures.image c.in_ok-verified.ensures.0 c.in_ok-verified.ensures.1 c.both_output.ensures
