use Rattle.std.proofs.Common.{◌<◌, [], ◌∷◌, ◌++◌, Some, None, refl, sym, subst, ap, ◌∙◌}
use Rattle.atomic_table.specs.Seated.{TableId}
use Rattle.tag_table.specs.declared.view.EngineView.{EngineView}
use Rattle.tag_table.specs.Rule.{job}
use Rattle.tag_table.specs.Shapes.{engine_of, seen_engine, IsEngineMe, IsFitting, with_work, engine_met}
use Rattle.tag_table.proofs.Shown.{engine_me, no_parcel}
use Rattle.tag_table.proofs.bus.Bus.try_take.Goals as goal

pub invariant_of-seat : goal.invariant_of-seat
invariant_of-seat c =
    let e = engine_of c.seat.inside.seat.me.0 in
    let p = c.in-Ok.parcel in
    let got = c.in-Ok.ensures.taken e (ap (λ m. m.0) c.seat.invariant.0.0) in
    let e' : EngineView = record { words = e.words; number = e.number; work = Some (job c.args.tag p.transfer p.cells.items p.moved); met = e.met ++ (c.args.tag, 1) ∷ [] } in
    let ids = ap (λ z. z.id) c.seat.view_is ∙ c.requires.seat ∙ sym (ap (λ z. z.id) c.self.view_is) in
    let slots = ap (λ z. z.slots) ids ∙ c.self.invariant.0.1 ∙ ap (λ z. z.tags) c.self.view_is in
    let same = c.in-Ok.ensures.same.0 in (
      engine_me _ (Some (c.args.tag, p)) e' got.0 refl,
      subst (λ (z : TableId × EngineView). IsFitting z.0 z.1) (λ k. (sym same k, sym (ap (λ m. engine_of m.0) got.0) k)) (c.seat.invariant.1.0, (subst (λ q. c.args.tag < q) (sym slots) c.requires.tag, got.2)),
    )

pub invariant_of-seat-in-Err : goal.invariant_of-seat-in-Err
invariant_of-seat-in-Err c =
    let e = engine_of c.seat.inside.seat.me.0 in
    let is = c.seat.invariant.0 in
    let got = c.in-Err.ensures.taken e (ap (λ m. m.0) is.0) in
    let none = no_parcel c.seat.inside.held (sym is.1 ∙ ap (λ z. z.work) c.seat.view_is ∙ c.requires.idle) in
    let e' : EngineView = record { words = e.words; number = e.number; work = None; met = e.met ++ (c.args.tag, c.in-Err.word) ∷ [] } in
    let same = c.in-Err.ensures.same.0 in (
      subst (IsEngineMe _) (sym none) (engine_me _ None e' got.1 refl),
      subst (λ (z : TableId × EngineView). IsFitting z.0 z.1) (λ k. (sym same k, sym (ap (λ m. engine_of m.0) got.1) k)) (c.seat.invariant.1.0, tt),
    )

pub returns-in-Ok : goal.returns-in-Ok
returns-in-Ok c =
    let e = engine_of c.seat.inside.seat.me.0 in
    let p = c.in-Ok.parcel in
    let got = c.in-Ok.ensures.taken e (ap (λ m. m.0) c.seat.invariant.0.0) in
    let same = c.in-Ok.ensures.same.0 in
    let w = job c.args.tag p.transfer p.cells.items p.moved in
    (w, (λ k. seen_engine (same k) (engine_of (got.0 k).0)) ∙ ap (λ z. with_work (engine_met z c.args.tag 1) (Some w)) c.seat.view_is, refl, got.1)

pub returns-in-Err : goal.returns-in-Err
returns-in-Err c =
    let e = engine_of c.seat.inside.seat.me.0 in
    let got = c.in-Err.ensures.taken e (ap (λ m. m.0) c.seat.invariant.0.0) in
    let same = c.in-Err.ensures.same.0 in
    let tag = c.args.tag in
    (got.0, (λ k. seen_engine (same k) (engine_of (got.1 k).0)) ∙ ap (λ z. with_work (engine_met z tag c.in-Err.word) None) c.seat.view_is ∙ (λ k. with_work (engine_met c.args.seat.now tag c.in-Err.word) (sym c.requires.idle k)))
