use Rattle.std.proofs.Common.{[], ◌∷◌, ◌++◌, ap, ◌∙◌, append_assoc}
use Rattle.tag_table.specs.Shapes.{engine_met}
use Rattle.dma_engine.proofs.Missing.{missed_more}
use Rattle.dma_engine.proofs.take_first.Goals as goal

pub loop-tag-preserved : goal.loop-tag-preserved
loop-tag-preserved g c =
    let old = c.loop-tag.invariant in
    let tag = c.loop-tag.tag in
    let word = c.in-Err.field-0.word in
    let got = c.in-Err.ensures in
    let start = c.args.seat.now in (
      old.0 ++ (tag, word) ∷ [],
      missed_more tag word old.0 old.1 got.0,
      got.1 ∙ ap (λ s. engine_met s tag word) old.2 ∙ (λ k. record { id = start.id; number = start.number; work = start.work; met = append_assoc start.met old.0 ((tag, word) ∷ []) k }),
    )
