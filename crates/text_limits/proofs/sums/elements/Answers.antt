use Rattle.std.proofs.Common.{◌∙◌, ◌*◌, ap, arith}
use Rattle.std.proofs.lemmas.List.{drop_all}
use Rattle.affine_ast.specs.Sizes.{product}
use Rattle.text_limits.specs.Capped.{capped}
use Rattle.text_limits.proofs.Tallied.{product_step}
use Rattle.text_limits.proofs.sums.elements.Goals as goal

pub loop-size-preserved : goal.loop-size-preserved
loop-size-preserved c = record {
  same = c.loop-size.invariant.same ∙ product_step c.loop-size.count 18446744073709551615 c.args.sizes.now c.loop-size.size-index c.saturating_mul-count.result c.loop-size-test.true c.saturating_mul-count.ensures;
  within = omega arith;
}

pub returns : goal.returns
returns c =
    let e = c.loop-size.invariant.same ∙ ap (λ ns. capped (c.loop-size.count * product ns)) (drop_all c.loop-size.size-index c.args.sizes.now (omega arith)) in
    let w = c.loop-size.invariant.within in
    omega arith
