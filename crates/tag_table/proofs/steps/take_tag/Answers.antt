use Rattle.std.proofs.Common.{◌≡◌, ◌∷◌, [], Some, None, subst, sym, arith, ap, ◌∙◌}
use Rattle.atomic_table.specs.Table.{rest}
use Rattle.tag_table.specs.Rule.{job, FitsIn}
use Rattle.tag_table.specs.Steps.{met_more}
use Rattle.tag_table.proofs.Engines.{takes_tag, has_parcel, same_parcel}
use Rattle.tag_table.proofs.steps.take_tag.Goals as goal
use Rattle.tag_table.specs.declared.view.Parcel.{Parcel}

pub compare_exchange-found-requires : goal.compare_exchange-found-requires
compare_exchange-found-requires c =
    let z = c.requires.seat.1 in
    let v = c.requires.view in (
      c.requires.seat.0,
      omega arith,
      rw (z.1, z.2, v.1) (takes_tag _ c.args.tags _ c.args.tag v.0 c.requires.tag v.2),
    )

pub exchange-requires : goal.exchange-requires
exchange-requires c =
    let v = c.requires.view in
    let told = c.compare_exchange-found.ensures in
    let got = (told.2 v.0 (ap (λ m. m.0) v.1)).0 c.if-found-ne-READY.false in
    (told.0 ∙ c.requires.seat.0, (Some got.0, got.2 ∙ (λ i. (c.args.tag, Some got.0) ∷ sym (ap rest got.2) i)))

pub unreachable-requires : goal.unreachable-requires
unreachable-requires c =
    let v = c.requires.view in
    let got = (c.compare_exchange-found.ensures.2 v.0 (ap (λ m. m.0) v.1)).0 c.if-found-ne-READY.false in
    has_parcel _ _ _ _ _ _ got.2 c.exchange.ensures.2 c.in-None.is

pub returns-clause-taken : goal.returns-clause-taken
returns-clause-taken c e is =
    let got = (c.compare_exchange-found.ensures.2 e is).0 c.if-found-ne-READY.false in
    let tag = c.args.tag in
    let q : got.0 ≡ c.in-Some.parcel = same_parcel _ _ _ _ _ _ _ got.2 c.exchange.ensures.2 c.in-Some.is in
    let P : Parcel → Type 0 = λ p. (c.exchange.new.seat.me ≡ (met_more e (Some (job tag p.transfer p.cells.items p.moved)) tag 1, (tag, None) ∷ [])) × (p.moved ≡ 0) × FitsIn e.words p.transfer p.cells.items in
    subst P q (c.exchange.ensures.3 ∙ (λ k. (got.1 k, (tag, None) ∷ (ap rest got.2 ∙ ap (λ m. m.1) c.requires.view.1) k)), got.3, got.4)
