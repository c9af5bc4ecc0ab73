use Rattle.text_limits.proofs.Used.{uses_are_accesses}
use Rattle.text_limits.proofs.uses_are_accesses.Goals as goal

pub returns : goal.returns
returns c = uses_are_accesses
