use Rattle.std.proofs.Common.{arith}
use Rattle.region_texts.proofs.Places.{further_goes_on, further_ends}
use Rattle.region_texts.proofs.text.put_further_dimensions.Goals as goal

pub loop-dim-preserved : goal.loop-dim-preserved
loop-dim-preserved c = further_goes_on c.args.names.now c.args.dims.now c.loop-dim.dim-index c.dim-item.result c.args.out.now.items c.loop-dim.out.items c.put.new.out.items c.put_dimension.new.out.items (omega arith) c.dim-item.is c.in_ok-put.ensures c.in_ok-put_dimension.ensures c.loop-dim.invariant

pub returns : goal.returns
returns c = further_ends c.args.names.now c.args.dims.now c.loop-dim.dim-index c.args.out.now.items c.loop-dim.out.items (omega arith) c.loop-dim.invariant
