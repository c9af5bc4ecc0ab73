use Rattle.std.proofs.Common.{rules, ◌∙◌, ap, set, get_or, pos, w64, SFits, refl}
use Rattle.std.proofs.lemmas.Int.{to_z-of_z}
use Rattle.run_parts.proofs.Memories.{filled_more, filled_at, filled_all}
use Rattle.run_parts.proofs.image.fill.Goals as goal

pub set-requires : goal.set-requires
set-requires c = filled_at c.args.values.now c.args.cells.now.values c.loop-place.cells.values c.loop-place.place c.loop-place.invariant c.requires c.loop-place-test.true

pub loop-place-preserved : goal.loop-place-preserved
loop-place-preserved c =
    let f : SFits w64 (get_or c.args.values.now c.loop-place.place (pos 0)) = search rules in
    c.set.ensures ∙ ap (set c.loop-place.cells.values c.loop-place.place) (to_z-of_z w64 (get_or c.args.values.now c.loop-place.place (pos 0)) f)
    ∙ ap (λ xs. set xs c.loop-place.place (get_or c.args.values.now c.loop-place.place (pos 0))) c.loop-place.invariant
    ∙ filled_more c.args.values.now c.args.cells.now.values c.loop-place.place (get_or c.args.values.now c.loop-place.place (pos 0)) c.requires c.loop-place-test.true refl

pub returns : goal.returns
returns c = filled_all c.args.values.now c.args.cells.now.values c.loop-place.cells.values c.loop-place.place c.loop-place.invariant c.requires c.loop-place-test.false
