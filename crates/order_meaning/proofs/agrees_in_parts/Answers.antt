use Rattle.order_meaning.proofs.InParts.{agrees_in_parts}
use Rattle.order_meaning.proofs.agrees_in_parts.Goals as goal

pub returns : goal.returns
returns c = agrees_in_parts
