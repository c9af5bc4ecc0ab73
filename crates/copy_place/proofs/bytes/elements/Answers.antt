use Rattle.std.proofs.Common.{◌∙◌, ◌*◌, min, ap, arith}
use Rattle.affine_ast.specs.Sizes.{product}
use Rattle.std.proofs.lemmas.List.{drop_all}
use Rattle.copy_place.proofs.Walks.{product_step}
use Rattle.copy_place.proofs.bytes.elements.Goals as goal

pub loop-size-preserved : goal.loop-size-preserved
loop-size-preserved c = record {
  same = c.loop-size.invariant.same ∙ product_step c.loop-size.count 18446744073709551615 c.args.sizes.now c.loop-size.size-index c.saturating_mul-count.result c.loop-size-test.true c.saturating_mul-count.ensures;
  within = omega arith;
}

pub returns : goal.returns
returns c =
    let e = c.loop-size.invariant.same ∙ ap (λ ns. min (c.loop-size.count * product ns) 18446744073709551615) (drop_all c.loop-size.size-index c.args.sizes.now (omega arith)) in
    let w = c.loop-size.invariant.within in
    omega arith
