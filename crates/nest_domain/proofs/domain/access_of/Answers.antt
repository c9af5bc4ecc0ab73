use Rattle.std.proofs.Common.{◌≡◌, map, sym, ap, subst, ◌∙◌}
use Rattle.std.specs.Option.{option_map}
use Rattle.affine_ast.specs.Nest.{nest}
use Rattle.direct_meaning.specs.Work.{start_ranges}
use Rattle.nest_domain.specs.Ready.{Ready}
use Rattle.nest_domain.specs.Ways.{at_path}
use Rattle.nest_domain.specs.Steps.{header_of, spot_of}
use Rattle.nest_domain.proofs.Answering.{found_ready, found_subscripts}
use Rattle.nest_domain.proofs.domain.access_of.Goals as goal

pub access_rows_at-requires-clause-way : goal.access_rows_at-requires-clause-way
access_rows_at-requires-clause-way c =
    let m = c.module-module.result.now in
    let steps = c.args.at.now.steps in
    let is = subst (λ o. option_map spot_of o ≡ at_path (nest c.as_slice.result.now) steps) c.in-Some.is c.in_ok-found.ensures in
    subst (λ l. Ready (map header_of c.in-Some.found.way.items) (start_ranges l)) (sym c.as_slice-2.ensures) (found_ready m c.module-module.ensures.valid steps c.in-Some.found (is ∙ ap (λ l. at_path (nest l) steps) c.as_slice.ensures))

pub access_rows_at-requires-clause-subscripts : goal.access_rows_at-requires-clause-subscripts
access_rows_at-requires-clause-subscripts c =
    let m = c.module-module.result.now in
    let steps = c.args.at.now.steps in
    let is = subst (λ o. option_map spot_of o ≡ at_path (nest c.as_slice.result.now) steps) c.in-Some.is c.in_ok-found.ensures in
    found_subscripts m c.module-module.ensures.valid steps c.in-Some.found (is ∙ ap (λ l. at_path (nest l) steps) c.as_slice.ensures) c.in-Some-subscripts_of.access.now (sym c.in-Some-subscripts_of.ensures)
