use Rattle.std.proofs.Common.{◌∙◌, sym, set, rules, w64, SFits}
use Rattle.std.proofs.lemmas.Int.{to_z-of_z}
use Rattle.prompt_meaning.specs.Memrefs.{halves_at}
use Rattle.prompt_meaning.proofs.Copying.{out_more}
use Rattle.prompt_meaning.proofs.device.copy_out.Goals as goal

pub loop-element-preserved : goal.loop-element-preserved
loop-element-preserved c =
    let t = c.args.transfer.now in
    let cells = halves_at c.args.fasts.now t.fast t.half in
    let fits : SFits w64 c.cell_of-value.result = search rules in
    (λ i. set (c.loop-element.invariant i) (c.slow.ensures i) ((to_z-of_z w64 c.cell_of-value.result fits ∙ c.cell_of-value.ensures) i))
    ∙ sym (out_more t cells c.args.slow.now c.loop-element.element)
