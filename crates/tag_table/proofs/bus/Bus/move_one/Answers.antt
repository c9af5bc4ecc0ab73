use Rattle.std.proofs.Common.{◌≡◌, ℤ, ◌<◌, ◌≤◌, Some, refl, sym, subst, ap, ◌∙◌}
use Rattle.std.specs.Bool.{MatchBool}
use Rattle.atomic_table.specs.Seated.{TableId}
use Rattle.tag_table.specs.declared.view.EngineView.{EngineView}
use Rattle.tag_table.specs.declared.view.Work.{Work}
use Rattle.tag_table.specs.Rule.{job}
use Rattle.tag_table.specs.Shapes.{engine_of, seen_engine, IsFitting, with_work, after_move}
use Rattle.tag_table.proofs.Shown.{engine_me, held_me, held_work, held_fits, fits_still, same_jobs, move_told}
use Rattle.tag_table.proofs.bus.Bus.move_one.Goals as goal

pub invariant_of-seat : goal.invariant_of-seat
invariant_of-seat c =
    let i = c.seat.inside in
    let e = engine_of i.seat.me.0 in
    let t = c.in-Some.field-0-0 in
    let p = c.in-Some.parcel in
    let q = c.move_next.new.parcel in
    let inv = c.seat.invariant in
    let f = held_fits i.seat.me i.held t p c.in-Some.is inv.0 i.seat.table_id inv.1 in
    let told = c.move_next.ensures.view e t (held_me i.seat.me i.held t p c.in-Some.is inv.0) (held_work i.seat.me i.held t p c.in-Some.is inv.0) in
    let e' : EngineView = record { words = e.words; number = e.number; work = Some (job t q.transfer q.cells.items q.moved); met = e.met } in (
      engine_me _ (Some (t, q)) e' told refl,
      subst (λ (z : TableId × EngineView). IsFitting z.0 z.1) (λ k. (sym c.move_next.ensures.same.0 k, sym (ap (λ m. engine_of m.0) told) k))
          (inv.1.0, (f.0, fits_still e.words p.transfer q.transfer p.cells.items q.cells.items f.1 c.move_next.ensures.same.2 c.move_next.ensures.same.3)),
    )

pub returns : goal.returns
returns c w is =
    let i = c.seat.inside in
    let e = engine_of i.seat.me.0 in
    let t = c.in-Some.field-0-0 in
    let p = c.in-Some.parcel in
    let q = c.move_next.new.parcel in
    let inv = c.seat.invariant in
    let work = held_work i.seat.me i.held t p c.in-Some.is inv.0 in
    let told = c.move_next.ensures.view e t (held_me i.seat.me i.held t p c.in-Some.is inv.0) work in
    let old = c.args.seat.now in
    let had = sym (ap (λ z. z.work) c.seat.view_is) ∙ work in
    let path = (λ k. seen_engine (c.move_next.ensures.same.0 k) (engine_of (told k).0)) ∙ ap (λ z. with_work z (Some (job t q.transfer q.cells.items q.moved))) c.seat.view_is in
    let all = move_told c.move_next.result old _ (job t p.transfer p.cells.items p.moved) q had path c.move_next.ensures.same.2 c.move_next.ensures.more c.move_next.ensures.cells c.move_next.ensures.still in
    let same : job t p.transfer p.cells.items p.moved ≡ w = same_jobs _ _ _ _ refl had is in
    subst (λ (z : Work). MatchBool c.move_next.result ((z.moved < z.transfer.count) × ((y : ℤ) × (seen_engine c.move_next.new.seat.table_id (engine_of c.move_next.new.seat.me.0) ≡ with_work old (Some (after_move z y))))) ((z.transfer.count ≤ z.moved) × (seen_engine c.move_next.new.seat.table_id (engine_of c.move_next.new.seat.me.0) ≡ old))) same all
