use Rattle.std.proofs.Common.{◌≡◌, map, sym, ap, subst, ◌∙◌}
use Rattle.std.specs.Option.{option_map}
use Rattle.affine_ast.specs.Nest.{nest}
use Rattle.direct_meaning.specs.Work.{start_ranges}
use Rattle.nest_domain.specs.Ready.{Ready}
use Rattle.nest_domain.specs.Ways.{at_path}
use Rattle.nest_domain.specs.Steps.{header_of, spot_of}
use Rattle.nest_domain.proofs.Answering.{found_ready}
use Rattle.nest_domain.proofs.domain.domain_of.Goals as goal

pub domain_at-requires : goal.domain_at-requires
domain_at-requires c =
    let m = c.module-module.result.now in
    let steps = c.args.at.now.steps in
    let is = subst (λ o. option_map spot_of o ≡ at_path (nest c.as_slice.result.now) steps) c.in-Some.is c.in_ok-found.ensures in
    subst (λ l. Ready (map header_of c.in-Some.found.way.items) (start_ranges l)) (sym c.as_slice-2.ensures) (found_ready m c.module-module.ensures.valid steps c.in-Some.found (is ∙ ap (λ l. at_path (nest l) steps) c.as_slice.ensures))
