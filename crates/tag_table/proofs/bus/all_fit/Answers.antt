use Rattle.std.proofs.Common.{arith}
use Rattle.tag_table.proofs.Opens.{fits_all}
use Rattle.tag_table.proofs.bus.all_fit.Goals as goal

pub returns : goal.returns
returns c = fits_all c.args.words.now (λ i lt. c.loop-word.invariant i (omega arith))
