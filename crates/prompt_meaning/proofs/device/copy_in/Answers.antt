use Rattle.std.proofs.Common.{◌∙◌, ◌+◌, ap, sym, set, get_or, pos, rules, w64, SFits}
use Rattle.std.proofs.lemmas.Int.{to_z-of_z}
use Rattle.bus_model.specs.Copies.{first_in, number_at}
use Rattle.prompt_semantics.specs.Device.{put_half}
use Rattle.prompt_meaning.specs.Memrefs.{halves_at}
use Rattle.prompt_meaning.proofs.Copying.{put_none, put_twice, put_here, in_more}
use Rattle.prompt_meaning.proofs.device.copy_in.Goals as goal

pub loop-element-init : goal.loop-element-init
loop-element-init c = record {
  halves = put_none (halves_at c.args.fasts.now) c.args.transfer.now.fast c.args.transfer.now.half;
  cells = λ n h k i. i;
  rooms = λ rooms i. i;
}

pub put_cell-requires : goal.put_cell-requires
put_cell-requires c = c.loop-element.invariant.cells c.args.transfer.now.fast c.args.transfer.now.half _ (c.requires.cells c.loop-element.element c.loop-element-test.true)

pub loop-element-preserved : goal.loop-element-preserved
loop-element-preserved c =
    let t = c.args.transfer.now in
    let f = halves_at c.args.fasts.now in
    let old = first_in t c.args.slow.now c.loop-element.element (f t.fast t.half) in
    let so = c.loop-element.invariant.halves in
    let fits : SFits w64 (get_or c.args.slow.now c.slow.result (pos 0)) = search rules in
    let value = to_z-of_z w64 (get_or c.args.slow.now c.slow.result (pos 0)) fits ∙ ap (number_at c.args.slow.now) c.slow.ensures in
    record {
      halves = c.put_cell.ensures.halves
          ∙ (λ i. put_half (so i) t.fast t.half (set ((ap (λ g. g t.fast t.half) so ∙ put_here f t.fast t.half old) i) (t.offset + c.loop-element.element) (value i)))
          ∙ put_twice f t.fast t.half old _
          ∙ ap (put_half f t.fast t.half) (sym (in_more t c.args.slow.now (f t.fast t.half) c.loop-element.element));
      cells = λ n h k i. c.put_cell.ensures.cells n h k (c.loop-element.invariant.cells n h k i);
      rooms = λ rooms i. c.put_cell.ensures.rooms rooms (c.loop-element.invariant.rooms rooms i);
    }
