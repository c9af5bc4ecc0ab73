use Rattle.std.proofs.Common.{◌∷◌, ◌++◌, [], Some, None, set, sym, refl, arith, ap, ◌∙◌}
use Rattle.atomic_table.specs.Table.{rest}
use Rattle.tag_table.proofs.Compute.{collects, emptied}
use Rattle.tag_table.proofs.steps.try_collect.Goals as goal

pub compare_exchange-found-requires : goal.compare_exchange-found-requires
compare_exchange-found-requires c =
    let z = c.requires.seat.1 in
    let v = c.requires.view in (
      c.requires.seat.0,
      omega arith,
      rw (z.1, z.2) (collects _ c.args.tags _ c.args.tag c.args.seat.now.me v.0 v.1 c.requires.tag (ap (λ m. m.0) v.2) v.3 v.4),
    )

pub exchange-requires : goal.exchange-requires
exchange-requires c =
    let v = c.requires.view in
    let told = c.compare_exchange-found.ensures in
    let got = (told.2 v.0 v.1 (ap (λ m. m.0) v.2) v.4).0 c.if-found-ne-DONE.false in
    (told.0 ∙ c.requires.seat.0, (Some got.0, got.2 ∙ (λ i. (c.args.tag, Some got.0) ∷ sym (ap rest got.2) i)))

pub release-requires-clause-view : goal.release-requires-clause-view
release-requires-clause-view c =
    let v = c.requires.view in
    let got = (c.compare_exchange-found.ensures.2 v.0 v.1 (ap (λ m. m.0) v.2) v.4).0 c.if-found-ne-DONE.false in (
      record { prompt = v.0.prompt; held = Some c.args.tag; tags = set v.0.tags c.args.tag None; met = v.0.met ++ (c.args.tag, 3) ∷ []; engines = v.0.engines },
      c.exchange.ensures.3 ∙ (λ i. (got.1 i, (c.args.tag, None) ∷ (ap rest got.2 ∙ ap (λ m. m.1) v.2) i)),
      refl,
      emptied v.0.tags c.args.tag,
    )
