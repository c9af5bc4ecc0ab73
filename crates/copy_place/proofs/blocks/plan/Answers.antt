use Rattle.std.proofs.Common.{◌≤◌, [], map, length, sym, ap, subst, ◌∙◌, arith}
use Rattle.affine_ast.specs.Nest.{nest}
use Rattle.loop_paths.specs.Found.{found_of}
use Rattle.text_places.specs.Blocks.{blocks}
use Rattle.text_places.specs.Finding.{block_of}
use Rattle.hoisted_sites.specs.declared.standing.Asking.{Asking}
use Rattle.copy_place.specs.Planning.{blocks_of, IsBlockOf}
use Rattle.copy_place.proofs.Blocked.{is_block, as_many, is_plan}
use Rattle.copy_place.proofs.blocks.plan.Goals as goal

pub decide_block-requires-clause-block : goal.decide_block-requires-clause-block
decide_block-requires-clause-block c =
    let a : Asking = record { hashing = c.of_module.result; verified = c.args.module; options = c.args.options.now } in
    let body = c.as_slice-body.ensures ∙ ap (λ m. m.body) c.module.ensures.value in
    let blocks_are = ap (map block_of) c.as_slice-block-items.ensures.value ∙ c.in_ok-blocks.ensures ∙ ap (λ l. blocks c.args.options.now.depth (nest l) []) body in
    let paths_are = ap (map found_of) c.as_slice.ensures.value ∙ c.loop-place.invariant.paths in
    subst (λ k. IsBlockOf a k c.index-as_slice-place.result (block_of c.block-item.result)) (sym c.in_ok-number.ensures)
    (is_block c.blocks_are_loops.ensures c.memrefs_are_firsts.ensures c.paths_are_spots.ensures a c.requires.plain c.as_slice.result.now c.as_slice-block-items.result.now paths_are blocks_are
    c.loop-place.place c.index-as_slice-place.result c.block-item.result c.loop-place-test.true c.index-as_slice-place.is c.block-item.is)

pub returns : goal.returns
returns c =
    let a : Asking = record { hashing = c.of_module.result; verified = c.args.module; options = c.args.options.now } in
    let body = c.as_slice-body.ensures ∙ ap (λ m. m.body) c.module.ensures.value in
    let blocks_are = ap (map block_of) c.as_slice-block-items.ensures.value ∙ c.in_ok-blocks.ensures ∙ ap (λ l. blocks c.args.options.now.depth (nest l) []) body in
    let e = as_many c.blocks_are_loops.ensures c.memrefs_are_firsts.ensures c.paths_are_spots.ensures a c.requires.plain _ c.as_slice-block-items.result.now c.loop-place.invariant.paths blocks_are in
    let past : length (blocks_of a) ≤ c.loop-place.place = subst (λ k. k ≤ c.loop-place.place) e (omega (arith, c.loop-place-test.false)) in
    is_plan c.plan_is_untested.ensures a c.loop-place.place c.loop-place.planning c.args.module.now.valid c.requires.written past c.loop-place.invariant.planned
