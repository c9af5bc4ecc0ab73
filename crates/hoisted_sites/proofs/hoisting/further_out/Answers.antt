use Rattle.std.proofs.Common.{sym, ap, subst, ◌∙◌}
use Rattle.placement_stage.specs.Places.{spot_of}
use Rattle.placement_regions.specs.Sites.{region_there}
use Rattle.text_places.specs.Finding.{block_of}
use Rattle.plan_laws.specs.Plan.{same_extents}
use Rattle.hoisted_sites.specs.Hoisting.{module_of, text_of, IsSiteAt, hoisted_from}
use Rattle.hoisted_sites.proofs.Rounds.{further}
use Rattle.hoisted_sites.proofs.hoisting.further_out.Goals as goal

pub returns-then-alike : goal.returns-then-alike
returns-then-alike c = λ from is. (
    let a = c.args.asking.now in
    let x = c.args.sought in
    let site = c.in-Ok.site in
    let k = subst (IsSiteAt a x c.args.at c.args.place) c.in-Ok.is c.in_ok-site.ensures in
    let region = sym (ap (λ p. region_there (module_of a).args (text_of a) x.memref.now (spot_of p.steps) x.ty.now.sizes a.options.dma) k.1) ∙ k.0.region in
    let alike = ap (λ ds. same_extents ds site.region) is ∙ sym c.alike.ensures ∙ c.if-alike.true in
    let goes = further a x (spot_of c.args.at.steps) from (block_of c.in_ok-block.block) c.in_ok-block.ensures (sym c.if-not-are_accessed.ensures) site.region region alike in
    (k.0, k.1, k.2, λ ss. goes ss ∙ ap (hoisted_from a x ss) (λ i. record { at = spot_of (sym k.1 i).steps; region = site.region })))
