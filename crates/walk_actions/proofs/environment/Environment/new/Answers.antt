use Rattle.std.proofs.Common.{refl}
use Rattle.walk_actions.proofs.Tables.{empty_is}
use Rattle.walk_actions.proofs.environment.Environment.new.Goals as goal

pub returns-clause-empty : goal.returns-clause-empty
returns-clause-empty c = empty_is _ _ _ c.in_ok-nones.ensures c.in_ok-nones-2.ensures refl refl
