use Rattle.std.proofs.Common.{◌<◌, ◌≤◌, ◌∙◌, take, drop, ap, refl, length, arith}
use Rattle.std.proofs.lemmas.List.{length-set}
use Rattle.run_parts.proofs.Memories.{refilled_more, refilled_end, room_here, room_behind}
use Rattle.run_parts.proofs.image.refill.Goals as goal

pub split_at-requires : goal.split_at-requires
split_at-requires c =
    let many = c.len-place-end.ensures in
    let all = c.args.memrefs.now.ok.0 in
    let long = c.loop-place.invariant.long in
    let h : c.loop-place.place < length c.loop-place.memrefs.items = omega (arith, many, all, long, c.loop-place-test.true) in
    let k = room_here c.loop-place.memrefs.items _ c.loop-place.place c.index_mut-cells.result.now c.index_mut-cells.result.now c.loop-place.rest.now c.loop-place.rest.now h c.index_mut-cells.ensures.value refl c.loop-place.invariant.enough in
    omega (arith, k, c.len.ensures)

pub loop-place-preserved : goal.loop-place-preserved
loop-place-preserved c =
    let many = c.len-place-end.ensures in
    let all = c.args.memrefs.now.ok.0 in
    let long = c.loop-place.invariant.long in
    let h : c.loop-place.place < length c.loop-place.memrefs.items = omega (arith, many, all, long, c.loop-place-test.true) in record {
      same = refilled_more c.loop-place.memrefs.items _ c.loop-place.place c.index_mut-cells.result.now c.fill.new.cells c.loop-place.rest.now c.split_at.result.1.now h c.index_mut-cells.ensures.value refl _
          (c.fill.ensures ∙ c.split_at.ensures.front ∙ ap (λ n. take n c.loop-place.rest.now) c.len.ensures) (c.split_at.ensures.back ∙ ap (λ n. drop n c.loop-place.rest.now) c.len.ensures) c.loop-place.invariant.same;
      long = length-set c.loop-place.memrefs.items c.loop-place.place c.fill.new.cells ∙ long;
      enough = room_behind c.loop-place.memrefs.items _ c.loop-place.place c.index_mut-cells.result.now c.fill.new.cells c.loop-place.rest.now c.split_at.result.1.now h c.index_mut-cells.ensures.value refl
          (c.split_at.ensures.back ∙ ap (λ n. drop n c.loop-place.rest.now) c.len.ensures) c.loop-place.invariant.enough;
    }

pub returns : goal.returns
returns c =
    let many = c.len-place-end.ensures in
    let all = c.args.memrefs.now.ok.0 in
    let long = c.loop-place.invariant.long in
    let h : length c.loop-place.memrefs.items ≤ c.loop-place.place = omega (arith, many, all, long, c.loop-place-test.false) in
    refilled_end _ c.loop-place.memrefs.items c.loop-place.place c.loop-place.rest.now h c.loop-place.invariant.same
