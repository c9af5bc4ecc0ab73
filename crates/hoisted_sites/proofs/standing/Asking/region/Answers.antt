use Rattle.std.proofs.Common.{map, sym, ap, subst, ◌∙◌}
use Rattle.constraint_set.specs.Lists.{Each}
use Rattle.affine_ast.specs.Validity.{IsValid}
use Rattle.direct_meaning.specs.Work.{start_ranges}
use Rattle.access_region.specs.Finding.{ReadyUse}
use Rattle.text_places.specs.Finding.{block_of, seen}
use Rattle.hoisted_sites.proofs.Stands.{stands_ready}
use Rattle.hoisted_sites.proofs.standing.Asking.region.Goals as goal

pub region_of_uses-found-requires-clause-ready : goal.region_of_uses-found-requires-clause-ready
region_of_uses-found-requires-clause-ready c =
    let is = c.module-module.ensures.value in
    let m = c.args.self.now.verified.now.inner in
    let ready = stands_ready m (subst IsValid is c.module-module.ensures.valid) (block_of c.args.block.now) c.requires.block in
    subst (λ l. Each (ReadyUse (start_ranges l)) (map seen c.args.uses.now)) (sym (c.as_slice-args.ensures ∙ ap (λ x. x.args) is))
    (subst (λ us. Each (ReadyUse (start_ranges m.args)) us) (sym c.requires.uses) (ready.uses c.args.memref.now))
