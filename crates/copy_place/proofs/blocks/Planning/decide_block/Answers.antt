use Rattle.std.proofs.Common.{map, ap, ◌∙◌, arith}
use Rattle.text_places.specs.Finding.{block_of, named}
use Rattle.copy_place.proofs.Planned.{begins, goes_on, ends}
use Rattle.copy_place.proofs.blocks.Planning.decide_block.Goals as goal

pub loop-memref-init : goal.loop-memref-init
loop-memref-init c = record {
  planning = begins c.args.asking.now c.args.number c.args.path.now (block_of c.args.block.now) c.requires.block c.args.self.now c.go_to.new.self c.in_ok-go_to.ensures.went c.in_ok-go_to.ensures.few c.requires.planned;
  outside = c.outside-outside.ensures;
}

pub loop-memref-preserved : goal.loop-memref-preserved
loop-memref-preserved c =
    let a = c.args.asking.now in
    let ms = c.as_slice-memref-items.result.now in
    let memrefs = ap (map named) c.as_slice-memref-items.ensures.value ∙ c.in_ok-memrefs.ensures ∙ c.requires.block.memrefs in
    record {
      planning = goes_on a c.args.number c.args.path.now (block_of c.args.block.now) c.requires.block c.placements_stand_aside.ensures a.verified.now.valid c.requires.written ms c.loop-memref.memref-index c.memref-item.result c.loop-memref-test.true c.memref-item.is memrefs
          c.loop-memref.self _ c.in_ok-outcome.outcome c.in_ok-decision.decision c.loop-memref.invariant.planning c.in_ok-outcome.ensures.decided c.in_ok-outcome.ensures.few c.in_ok-push.ensures.items c.in_ok-decision.ensures;
      outside = c.loop-memref.invariant.outside;
    }

pub returns : goal.returns
returns c =
    let memrefs = ap (map named) c.as_slice-memref-items.ensures.value ∙ c.in_ok-memrefs.ensures ∙ c.requires.block.memrefs in
    ends c.args.asking.now c.args.number c.args.path.now (block_of c.args.block.now) c.requires.block c.as_slice-memref-items.result.now c.loop-memref.memref-index c.loop-memref.self (omega arith) memrefs c.loop-memref.invariant.planning
