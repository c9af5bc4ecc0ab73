use Rattle.numbered_names.proofs.Laws.{numbered_valid, none_is_made, numbered_fits}
use Rattle.numbered_names.proofs.numbered_is_valid.Goals as goal

pub returns : goal.returns
returns c = record { valid = numbered_valid; none_made = none_is_made; fits = numbered_fits }
