use Rattle.std.proofs.Common.{map, sym, ap, subst, ◌∙◌}
use Rattle.affine_ast.specs.Validity.{IsValid}
use Rattle.direct_meaning.specs.Work.{start_ranges}
use Rattle.nest_domain.specs.Steps.{header_of}
use Rattle.nest_domain.specs.Ready.{Ready}
use Rattle.text_places.specs.Finding.{block_of}
use Rattle.hoisted_sites.proofs.Stands.{stands_ready}
use Rattle.hoisted_sites.proofs.standing.Asking.outside.Goals as goal

pub outside_of-requires : goal.outside_of-requires
outside_of-requires c =
    let is = c.module-module.ensures.value in
    let m = c.args.self.now.verified.now.inner in
    let ready = stands_ready m (subst IsValid is c.module-module.ensures.valid) (block_of c.args.block.now) c.requires.block in
    subst (λ l. Ready (map header_of l) (start_ranges c.as_slice.result.now)) (sym c.as_slice-way.ensures.value)
    (subst (λ l. Ready (map header_of c.args.block.now.way.items) (start_ranges l)) (sym (c.as_slice.ensures ∙ ap (λ x. x.args) is)) ready.way)
