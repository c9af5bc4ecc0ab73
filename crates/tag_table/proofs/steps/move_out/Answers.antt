use Rattle.std.proofs.Common.{◌+◌, ◌<◌, pos, length, rules, arith, ap, ◌∙◌, to_z, of_z, w64}
use Rattle.std.proofs.lemmas.Int.{to_z-of_z}
use Rattle.std.proofs.lemmas.List.{get_or_read}
use Rattle.tag_table.specs.Rule.{job}
use Rattle.tag_table.proofs.Engines.{moves_out}
use Rattle.tag_table.proofs.steps.move_out.Goals as goal

pub store-requires : goal.store-requires
store-requires c =
    let z = c.requires.seat.1 in
    let v = c.requires.view in
    let x = c.args.x.now in
    let near = c.requires.fits.0.within c.args.moved c.requires.next.0 in
    let r = c.index.result.now in
    let cells = c.args.cells.now.items in
    let at = x.offset + c.args.moved in
    let room : at < length cells = let a = c.requires.fits.0.inside in let b = c.requires.next.0 in omega arith in
    let bits = to_z-of_z w64 r (search rules) in
    let is = ap (to_z w64) (c.cast_unsigned.ensures ∙ ap (of_z w64) bits) ∙ bits ∙ get_or_read cells at r room c.index.ensures (pos 0) in (
      c.requires.seat.0,
      omega arith,
      rw (z.1, z.2, c.place_of-place.ensures) (moves_out _ c.args.tags _ c.args.seat.now.me v.0 (job v.1 x cells c.args.moved) (ap (λ m. m.0) v.2) v.3 c.requires.next.1 c.requires.next.0 _ is),
    )
