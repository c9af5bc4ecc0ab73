use Rattle.std.proofs.Common.{rules, ◌≡◌, Some, ap, subst, ◌∙◌}
use Rattle.std.specs.Prelude.{slice_get}
use Rattle.std.specs.Option.{option_map}
use Rattle.affine_ast.specs.Nest.{nest}
use Rattle.nest_domain.specs.Ways.{at_path}
use Rattle.nest_domain.specs.Steps.{spot_of}
use Rattle.affine_rows.proofs.Loops.{named}
use Rattle.affine_rows.proofs.regions.names_loop.Goals as goal

pub returns-in-For : goal.returns-in-For
returns-in-For c = λ t.
    let steps = c.args.at.now.steps in
    let is = subst (λ o. option_map spot_of o ≡ at_path (nest c.as_slice.result.now) steps) c.in-Some.is c.in_ok-found.ensures ∙ ap (λ l. at_path (nest l) steps) c.as_slice.ensures ∙ ap (λ x. at_path (nest x.body) steps) c.module-module.ensures.value in
    let first : slice_get c.in-Some.found.here.now 0 ≡ Some c.in-Some-first.first.now = search rules in
    named c.in-Some.found (at_path (nest c.args.module.now.inner.body) steps) c.in-Some-first.first.now c.in-For.var c.in-For.lower c.in-For.upper c.in-For.step c.in-For.body is first c.in-For.is
