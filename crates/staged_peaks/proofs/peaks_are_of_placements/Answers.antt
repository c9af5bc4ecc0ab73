use Rattle.staged_peaks.proofs.Theorem.{peaks_are_of_placements}
use Rattle.staged_peaks.proofs.peaks_are_of_placements.Goals as goal

pub returns : goal.returns
returns c = peaks_are_of_placements
