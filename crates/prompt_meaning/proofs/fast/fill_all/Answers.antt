use Rattle.std.proofs.Common.{◌∙◌, ap, refl, length, get_or, w64}
use Rattle.std.specs.Prelude.{replicate}
use Rattle.std.proofs.lemmas.Int.{to_z-of_z}
use Rattle.std.proofs.lemmas.List.{length-replicate}
use Rattle.prompt_meaning.proofs.Copying.{fills, memref_there, replaced_rooms}
use Rattle.prompt_meaning.proofs.fast.fill_all.Goals as goal

pub returns-clause-filled : goal.returns-clause-filled
returns-clause-filled c =
    let m = get_or c.args.fasts.now c.args.number c.index-fasts-number.result in
    let cells = c.fill.ensures.cells ∙ ap (replicate (length m.cells.items)) (to_z-of_z w64 c.args.value c.ranges.value) in
    fills c.args.fasts.now _ c.args.number m c.fill.new.self (memref_there c.args.fasts.now c.args.number c.index-fasts-number.result c.requires) c.fill.ensures.same c.args.value cells refl

pub returns-clause-rooms : goal.returns-clause-rooms
returns-clause-rooms c = λ rooms h.
    (let m = get_or c.args.fasts.now c.args.number c.index-fasts-number.result in
    let cells = c.fill.ensures.cells ∙ ap (replicate (length m.cells.items)) (to_z-of_z w64 c.args.value c.ranges.value) in
    replaced_rooms c.args.fasts.now _ c.args.number m c.fill.new.self (memref_there c.args.fasts.now c.args.number c.index-fasts-number.result c.requires) c.fill.ensures.same
    (ap length cells ∙ length-replicate (length m.cells.items) c.args.value) refl rooms h)
