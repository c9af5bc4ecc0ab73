use Rattle.std.proofs.Common.{rules}
use Rattle.bus_model.specs.Places.{slow_place}
use Rattle.bus_model.proofs.transfer.Transfer.slow.Goals as goal

pub overflow_mul-result : goal.overflow_mul-result
unfolding slow_place
overflow_mul-result c = let h = c.requires.fits in search rules

pub overflow_add-result : goal.overflow_add-result
unfolding slow_place
overflow_add-result c = let h = c.requires.fits in search rules

pub overflow_add-result-2 : goal.overflow_add-result-2
unfolding slow_place
overflow_add-result-2 c = let h = c.requires.fits in search rules

pub returns : goal.returns
unfolding slow_place
returns c = search rules
