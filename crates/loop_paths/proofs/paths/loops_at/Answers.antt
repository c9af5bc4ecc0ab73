use Rattle.std.proofs.Common.{◌∙◌, ◌++◌, map, false}
use Rattle.affine_ast.specs.Nest.{nest}
use Rattle.loop_paths.specs.Found.{found_of}
use Rattle.loop_paths.specs.Walk.{found_in}
use Rattle.loop_paths.proofs.Beginnings.{found_all}
use Rattle.loop_paths.proofs.paths.loops_at.Goals as goal

pub returns : goal.returns
returns c =
    c.in_ok-add_all.ensures.found
    ∙ (λ i. map found_of (c.new-out.ensures.items i) ++ found_in c.args.depth (c.new.ensures i) (c.new-2.ensures i) false 0 (nest c.args.body.now))
    ∙ found_all c.args.depth (nest c.args.body.now)
