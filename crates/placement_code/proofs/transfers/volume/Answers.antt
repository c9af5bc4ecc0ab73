use Rattle.std.proofs.Common.{◌∙◌, ◌*◌, min, ap, arith}
use Rattle.affine_ast.specs.Sizes.{product}
use Rattle.std.proofs.lemmas.List.{drop_all}
use Rattle.placement_texts.specs.Template.{dim_extents}
use Rattle.placement_code.proofs.Products.{extents_step}
use Rattle.placement_code.proofs.transfers.volume.Goals as goal

pub loop-dim-preserved : goal.loop-dim-preserved
loop-dim-preserved c = record {
  same = c.loop-dim.invariant.same ∙ extents_step c.loop-dim.count 18446744073709551615 c.args.dims.now c.loop-dim.dim-index c.dim-item.result c.grown-count.result c.loop-dim-test.true c.dim-item.is c.grown-count.ensures;
  within = omega arith;
}

pub returns : goal.returns
returns c =
    let e = c.loop-dim.invariant.same ∙ ap (λ ds. min (c.loop-dim.count * product (dim_extents ds)) 18446744073709551615) (drop_all c.loop-dim.dim-index c.args.dims.now (omega arith)) in
    let w = c.loop-dim.invariant.within in
    omega arith
