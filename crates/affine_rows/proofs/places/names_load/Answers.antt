use Rattle.std.proofs.Common.{rules, ◌≡◌, Some, ap, subst, ◌∙◌}
use Rattle.std.specs.Prelude.{slice_get}
use Rattle.std.specs.Option.{option_map}
use Rattle.affine_ast.specs.Nest.{nest}
use Rattle.nest_domain.specs.Ways.{at_path}
use Rattle.nest_domain.specs.Steps.{spot_of}
use Rattle.affine_rows.proofs.Loops.{loaded}
use Rattle.affine_rows.proofs.places.names_load.Goals as goal

pub returns-in-Load : goal.returns-in-Load
returns-in-Load c = λ t.
    let steps = c.args.at.now.steps in
    let is = subst (λ o. option_map spot_of o ≡ at_path (nest c.as_slice.result.now) steps) c.in-Some.is c.in_ok-found.ensures ∙ ap (λ l. at_path (nest l) steps) c.as_slice.ensures ∙ ap (λ x. at_path (nest x.body) steps) c.module-module.ensures.value in
    let first : slice_get c.in-Some.found.here.now 0 ≡ Some c.in-Some-first.first.now = search rules in
    loaded c.in-Some.found (at_path (nest c.args.module.now.inner.body) steps) c.in-Some-first.first.now c.in-Load.result c.in-Load.memref c.in-Load.at c.in-Load.ty is first c.in-Load.is
