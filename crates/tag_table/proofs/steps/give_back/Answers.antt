use Rattle.std.proofs.Common.{◌∷◌, Some, arith, ◌∙◌}
use Rattle.atomic_table.specs.Table.{rest}
use Rattle.tag_table.proofs.Engines.{gives_back}
use Rattle.tag_table.proofs.steps.give_back.Goals as goal

pub store-requires : goal.store-requires
store-requires c =
    let z = c.requires.seat.1 in
    let v = c.requires.view in
    let me = c.exchange.ensures.3 ∙ (λ i. ((v.1 i).0, (c.args.tag, Some c.args.parcel) ∷ rest (v.1 i).1)) in (
      c.exchange.ensures.0 ∙ c.requires.seat.0,
      omega arith,
      rw (z.1, z.2, me) (gives_back _ c.args.tags _ c.args.tag v.0 c.args.parcel v.2 c.requires.moved),
    )
