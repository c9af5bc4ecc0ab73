use Rattle.std.proofs.Common.{◌+◌, Some, rules, arith, refl, sym, set, ap, ◌∙◌, w64}
use Rattle.std.proofs.lemmas.Int.{to_z-of_z}
use Rattle.tag_table.specs.Rule.{job}
use Rattle.tag_table.specs.Steps.{working}
use Rattle.tag_table.proofs.Engines.{moves_in}
use Rattle.tag_table.proofs.steps.move_in.Goals as goal

pub load-found-requires : goal.load-found-requires
load-found-requires c =
    let z = c.requires.seat.1 in
    let v = c.requires.view in
    let x = c.args.x.now in
    let near = c.requires.fits.0.within c.args.moved c.requires.next.0 in (
      c.requires.seat.0,
      omega arith,
      rw (z.1, z.2, c.place_of-place.ensures) (moves_in _ c.args.tags _ c.args.seat.now.me v.0 (job v.1 x c.args.cells.now.items c.args.moved) (ap (λ m. m.0) v.2) v.3 c.requires.next.1 c.requires.next.0),
    )

pub returns-clause-view : goal.returns-clause-view
returns-clause-view c e t is has =
    let x = c.args.x.now in
    let told = c.load-found.ensures.2 e (job t x c.args.cells.now.items c.args.moved) (ap (λ m. m.0) is) has in
    let same = sym (to_z-of_z w64 c.cast_signed.result (search rules) ∙ c.cast_signed.ensures) in
    λ k. ((told.0 ∙ ap (λ z. working e (Some (job t x (set c.args.cells.now.items (x.offset + c.args.moved) z) (c.args.moved + 1)))) same) k, (told.1 ∙ ap (λ m. m.1) is) k)

pub returns-clause-cell : goal.returns-clause-cell
returns-clause-cell c = (_, refl)
