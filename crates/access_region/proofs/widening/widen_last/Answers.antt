use Rattle.std.proofs.Common.{arith, ◌<◌, length, get_or, ap, sym, ◌∙◌, pos}
use Rattle.access_region.specs.Widening.{sides, whole_dim}
use Rattle.access_region.proofs.Wholes.{same_size, whole_is_set}
use Rattle.access_region.proofs.widening.widen_last.Goals as goal

pub returns-clause-widened : goal.returns-clause-widened
returns-clause-widened c =
    let k = c.last_partial-at.result in
    let inside : k < length c.args.sizes.now = omega (arith, c.last_partial-at.ensures.within, c.requires.same) in
    ap (λ xs. sides xs c.args.sizes.now) (whole_is_set k c.args.dims.now c.args.sizes.now c.index-dims-at.result c.in_ok-made.made (get_or c.args.sizes.now k 0) c.last_partial-at.ensures.within c.requires.same c.index-dims-at.is (same_size c.args.sizes.now k 0 (get_or c.args.sizes.now k 0) inside) (c.in_ok-made.ensures ∙ ap (λ d. whole_dim d (pos (get_or c.args.sizes.now k 0))) (sym c.index-dims-at.is)))
    ∙ c.last_partial-at.ensures.last
