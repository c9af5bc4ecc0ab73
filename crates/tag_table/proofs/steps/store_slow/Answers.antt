use Rattle.std.proofs.Common.{arith, rules, of_z, to_z, w64, ap, ◌∙◌}
use Rattle.std.proofs.lemmas.Int.{to_z-of_z}
use Rattle.tag_table.proofs.Compute.{stores_slow}
use Rattle.tag_table.proofs.steps.store_slow.Goals as goal

pub store-requires : goal.store-requires
store-requires c =
    let z = c.requires.seat.1 in
    let v = c.requires.view in (
      c.requires.seat.0,
      omega arith,
      rw (z.1, z.2) (stores_slow _ c.args.tags _ c.args.word c.args.seat.now.me v.0 c.args.value c.requires.word v.1 v.2 _ (ap (to_z w64) (c.cast_unsigned.ensures ∙ ap (of_z w64) (to_z-of_z w64 c.args.value (search rules))) ∙ to_z-of_z w64 c.args.value (search rules)) v.3),
    )
