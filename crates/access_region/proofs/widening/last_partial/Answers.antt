use Rattle.std.proofs.Common.{rules, arith, ◌<◌, length, get_or}
use Rattle.access_region.proofs.Wholes.{same_size, partial_made}
use Rattle.access_region.proofs.widening.last_partial.Goals as goal

pub returns-then-not-is_whole-clause-last : goal.returns-then-not-is_whole-clause-last
returns-then-not-is_whole-clause-last c =
    let k = c.loop-at.at in
    let inside : k < length c.args.sizes.now = omega (arith, c.loop-at.invariant.0, c.requires.same) in
    partial_made c.args.dims.now c.args.sizes.now k c.index-dims-at.result (get_or c.args.sizes.now k 0) c.loop-at.invariant.0 c.requires.same c.index-dims-at.is (same_size c.args.sizes.now k 0 (get_or c.args.sizes.now k 0) inside) (search rules) c.loop-at.invariant.1
