use Rattle.nest_domain.proofs.Finding.{valid_found}
use Rattle.nest_domain.proofs.forms_are_found.Goals as goal

pub returns : goal.returns
returns c = valid_found
