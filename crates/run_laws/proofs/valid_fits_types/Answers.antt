use Rattle.run_laws.proofs.Conclusions.{fits_types}
use Rattle.run_laws.proofs.valid_fits_types.Goals as goal

pub returns : goal.returns
returns c = fits_types
