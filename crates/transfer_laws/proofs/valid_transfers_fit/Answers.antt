use Rattle.transfer_laws.proofs.Valid.{valid_transfers}
use Rattle.transfer_laws.proofs.valid_transfers_fit.Goals as goal

pub returns : goal.returns
returns c = valid_transfers
