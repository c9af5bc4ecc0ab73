use Rattle.step_runs.proofs.Run.{steps_run}
use Rattle.step_runs.proofs.steps_agree.Goals as goal

pub returns : goal.returns
returns c = λ ring filler small large xs s d y goes h. steps_run ring filler small large xs s d y goes h
