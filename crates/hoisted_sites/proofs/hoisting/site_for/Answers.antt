use Rattle.std.proofs.Common.{ap, subst, ◌∙◌, length}
use Rattle.placement_stage.specs.Places.{spot_of}
use Rattle.text_places.specs.Finding.{block_of}
use Rattle.hoisted_sites.specs.Hoisting.{IsSiteAt}
use Rattle.hoisted_sites.proofs.Rounds.{site_made}
use Rattle.hoisted_sites.proofs.hoisting.site_for.Goals as goal

pub returns : goal.returns
returns c =
    let a = c.args.asking.now in
    let s = spot_of c.args.path.now.at.steps in
    let k = subst (IsSiteAt a (record { memref = c.args.memref; ty = c.args.ty; count = 0 }) c.in_ok-at.at (length c.as_slice-place.result.now)) c.in-Ok.is c.in_ok-start.ensures in
    let made = c.in_ok-hoisted.ensures in
    site_made a c.args.memref.now c.args.ty.now s (block_of c.args.block.now) c.in-Ok.start c.in_ok-hoisted.field-0 (length c.as_slice.result.now) c.requires.block
    (ap (λ p. spot_of p.steps) (k.1 ∙ c.in_ok-at.ensures)) k.0.uses k.0.region (ap length c.as_slice.ensures.value)
    made.site.path made.site.uses made.site.region made.place made.hoisted
