use Rattle.std.proofs.Common.{map, sym, subst, ◌∙◌}
use Rattle.nest_domain.specs.Steps.{header_of}
use Rattle.text_places.specs.Finding.{seen}
use Rattle.access_region.specs.Faults.{Meets}
use Rattle.access_region.specs.Regions.{Outside, outside_at}
use Rattle.access_region.specs.Places.{region_from}
use Rattle.access_region.proofs.AtLoops.{no_outside, region_given}
use Rattle.access_region.proofs.at.region_of_uses.Goals as goal

pub returns-in-Ok : goal.returns-in-Ok
returns-in-Ok c =
    let hs = map header_of c.args.way.now in
    let there = subst (λ r. Meets {A = Outside} (outside_at c.args.args.now hs) (λ o. o) r) c.in-Ok.is c.requires.outside in
    let given = region_given c.args.args.now hs (map seen c.args.uses.now) c.args.sizes.now c.args.dma c.in_ok-accesses.accesses.items c.in-Ok.outside c.in_ok-accesses.ensures there in
    let same = given ∙ (λ i. region_from c.in-Ok.outside (sym c.loops_on.ensures i) (sym c.deref.ensures.value i) c.args.sizes.now c.args.dma) in
    subst (λ w. Meets w (λ region. region) c.region_from.result) (sym same) c.region_from.ensures

pub returns : goal.returns
returns c =
    let hs = map header_of c.args.way.now in
    no_outside c.args.args.now hs (map seen c.args.uses.now) c.args.sizes.now c.args.dma c.in_ok-accesses.accesses.items c.in-Err.fault c.in_ok-accesses.ensures
    (subst (λ r. Meets {A = Outside} (outside_at c.args.args.now hs) (λ o. o) r) c.in-Err.is c.requires.outside)
