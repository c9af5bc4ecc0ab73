use Rattle.std.proofs.Common.{◌+◌, ◌*◌, ◌∙◌, ap, refl, set, get_or, w64}
use Rattle.std.proofs.lemmas.Int.{to_z-of_z}
use Rattle.prompt_meaning.proofs.Copying.{stored}
use Rattle.prompt_meaning.proofs.fast.put_cell.Goals as goal

pub returns-clause-halves : goal.returns-clause-halves
returns-clause-halves c =
    let m = get_or c.args.fasts.now c.args.number c.index-fasts-number.result in
    let cells = c.store.ensures.cells ∙ ap (set m.cells.items (c.args.half * m.half + c.args.cell)) (to_z-of_z w64 c.args.value c.ranges.value) in
    (stored c.args.fasts.now c.args.number c.args.half c.args.cell c.index-fasts-number.result c.requires _ c.store.new.self c.args.value c.store.ensures.same cells refl).halves

pub returns-clause-rooms : goal.returns-clause-rooms
returns-clause-rooms c =
    let m = get_or c.args.fasts.now c.args.number c.index-fasts-number.result in
    let cells = c.store.ensures.cells ∙ ap (set m.cells.items (c.args.half * m.half + c.args.cell)) (to_z-of_z w64 c.args.value c.ranges.value) in
    (stored c.args.fasts.now c.args.number c.args.half c.args.cell c.index-fasts-number.result c.requires _ c.store.new.self c.args.value c.store.ensures.same cells refl).rooms

pub returns-clause-cells : goal.returns-clause-cells
returns-clause-cells c =
    let m = get_or c.args.fasts.now c.args.number c.index-fasts-number.result in
    let cells = c.store.ensures.cells ∙ ap (set m.cells.items (c.args.half * m.half + c.args.cell)) (to_z-of_z w64 c.args.value c.ranges.value) in
    (stored c.args.fasts.now c.args.number c.args.half c.args.cell c.index-fasts-number.result c.requires _ c.store.new.self c.args.value c.store.ensures.same cells refl).cells
