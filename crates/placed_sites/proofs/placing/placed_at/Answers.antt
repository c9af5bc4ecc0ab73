use Rattle.std.proofs.Common.{◌++◌, map, refl, ap, subst, ◌∙◌}
use Rattle.staged_plans.specs.Plans.{has_store}
use Rattle.affine_ast.specs.Validity.{IsValid}
use Rattle.nest_domain.specs.Domains.{symbol_names}
use Rattle.nest_domain.specs.Steps.{header_of}
use Rattle.nest_domain.specs.Ways.{loop_names, loop_count}
use Rattle.placement_stage.specs.Places.{spot_of}
use Rattle.text_places.specs.Finding.{block_of, seen}
use Rattle.text_limits.specs.Adding.{condition_count}
use Rattle.hoisted_sites.specs.declared.hoisting.Site.{Site}
use Rattle.hoisted_sites.specs.Sites.{StandsAt}
use Rattle.hoisted_sites.specs.Hoisting.{text_of}
use Rattle.placed_sites.proofs.Candidates.{may_be_placed, is_candidate}
use Rattle.placed_sites.proofs.placing.placed_at.Goals as goal

-- what was found of the site, whose parts were read
pub placement-requires-clause-region : goal.placement-requires-clause-region
placement-requires-clause-region c =
    let n = text_of c.args.asking.now in
    let b = block_of c.in_ok-block.block in
    let stands = subst (λ (y : Site). StandsAt n (spot_of y.at.steps) b) c.site.view_is c.in_ok-block.ensures in
    may_be_placed c.regions_may_be_placed.ensures c.args.asking.now c.args.memref.now c.args.ty.now c.args.site b
    (subst IsValid c.module.ensures.value c.module.ensures.valid) c.requires.site c.requires.typed stands
    c.as_slice-3.result.now c.as_slice-dims.result.now
    (c.as_slice-3.ensures.value ∙ c.in_ok-names.ensures
    ∙ (λ i. symbol_names ((c.as_slice-2.ensures ∙ ap (λ x. x.args) c.module.ensures.value) i) ++ loop_names (map header_of (c.as_slice-way.ensures.value i))))
    (c.as_slice-dims.ensures.value ∙ ap (λ (y : Site). y.region) c.site.view_is)

pub returns : goal.returns
returns c =
    let a = c.args.asking.now in
    let b = block_of c.in_ok-block.block in
    let stands = subst (λ (y : Site). StandsAt (text_of a) (spot_of y.at.steps) b) c.site.view_is c.in_ok-block.ensures in
    is_candidate c.regions_may_be_placed.ensures a c.args.memref.now c.args.ty.now c.args.site b
    (subst IsValid c.module.ensures.value c.module.ensures.valid) c.requires.site c.requires.typed stands
    c.as_slice-3.result.now c.as_slice-dims.result.now c.in_ok-reads_in.field-0 c.has_store.result c.args.number _
    (c.as_slice-3.ensures.value ∙ c.in_ok-names.ensures
    ∙ (λ i. symbol_names ((c.as_slice-2.ensures ∙ ap (λ x. x.args) c.module.ensures.value) i) ++ loop_names (map header_of (c.as_slice-way.ensures.value i))))
    (c.as_slice-dims.ensures.value ∙ ap (λ (y : Site). y.region) c.site.view_is)
    c.in_ok-reads_in.ensures
    (c.has_store.ensures ∙ ap (λ us. has_store (map seen us)) (c.as_slice.ensures.value ∙ ap (λ (y : Site). y.uses.items) c.site.view_is) ∙ ap has_store c.requires.site.uses)
    refl c.in_ok-placed.ensures.placed c.in_ok-placed.ensures.written
    (c.round_of-round.ensures.loops ∙ ap (λ l. loop_count (map header_of l)) c.as_slice-way.ensures.value)
    (c.round_of-round.ensures.ifs ∙ ap (λ l. condition_count (map header_of l)) c.as_slice-way.ensures.value)
