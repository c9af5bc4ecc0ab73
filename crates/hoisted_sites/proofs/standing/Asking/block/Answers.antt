use Rattle.std.proofs.Common.{◌≡◌, ap, subst, ◌∙◌}
use Rattle.std.specs.Option.{option_map}
use Rattle.affine_ast.specs.Nest.{nest}
use Rattle.nest_domain.specs.Ways.{at_path}
use Rattle.nest_domain.specs.Steps.{spot_of as way_of}
use Rattle.placement_stage.specs.Places.{spot_of}
use Rattle.text_places.specs.Finding.{block_of}
use Rattle.hoisted_sites.specs.Hoisting.{text_of}
use Rattle.hoisted_sites.proofs.Stands.{stands}
use Rattle.hoisted_sites.proofs.standing.Asking.block.Goals as goal

pub returns : goal.returns
returns c =
    let steps = c.args.at.now.steps in
    let is = subst (λ o. option_map way_of o ≡ at_path (nest c.as_slice.result.now) steps) c.in-Some.is c.in_ok-found.ensures
    ∙ ap (λ l. at_path (nest l) steps) (c.as_slice.ensures ∙ ap (λ m. m.body) c.module-module.ensures.value) in
    stands (text_of c.args.self.now) steps (spot_of steps) (way_of c.in-Some.found) (block_of c.in-Some-loop_of.block) c.requires.path.loop c.requires.path.path is c.in-Some-loop_of.ensures
