use Rattle.std.proofs.Common.{◌∙◌, sym, ap, subst, arith, refl, length}
use Rattle.std.specs.Prelude.{slice_get}
use Rattle.fast_halves.specs.Shape.{HalvesShape, IsAway}
use Rattle.std.proofs.lemmas.List.Edits.{length-remove}
use Rattle.prompt_semantics.specs.Device.{record_of}
use Rattle.overlap_memory.proofs.Changed.{memref_is, changed_is}
use Rattle.overlap_memory.proofs.Waits.{tag_below, seat_started, memref_there, half_away, half_in, taken_back}
use Rattle.overlap_memory.proofs.memory.Memory.collect.Goals as goal

pub wait_for-parcel-requires-clause-tag : goal.wait_for-parcel-requires-clause-tag
wait_for-parcel-requires-clause-tag g c = let y = c.requires.tied in tag_below _ _ _ y.1 y.2 _ c.args.transfer (ap (record_of c.args.tag) (sym y.2.records) ∙ c.requires.place.1)

pub wait_for-parcel-requires-clause-started : goal.wait_for-parcel-requires-clause-started
wait_for-parcel-requires-clause-started g c = let y = c.requires.tied in (_, seat_started _ _ _ y.1 y.2 _ c.args.transfer (ap (record_of c.args.tag) (sym y.2.records) ∙ c.requires.place.1))

pub index_mut-requires : goal.index_mut-requires
index_mut-requires g c = let y = c.requires.tied in let h = memref_there _ _ _ y.1 y.2 c.args.tag c.args.transfer (ap (record_of c.args.tag) (sym y.2.records) ∙ c.requires.place.1) in grind (arith, h)

pub accept-requires-clause-away : goal.accept-requires-clause-away
accept-requires-clause-away g c =
    let y = c.requires.tied in
    let on = ap (record_of c.args.tag) (sym y.2.records) ∙ c.requires.place.1 in
    let m = memref_is _ _ _ (memref_there _ _ _ y.1 y.2 c.args.tag c.args.transfer on) c.index_mut.ensures.value in
    subst IsAway (sym (ap (λ (m : HalvesShape). slice_get m.halves c.args.transfer.half) m ∙ half_away _ _ _ y.1 y.2 c.args.tag c.args.transfer on)) tt

pub accept-requires-clause-length : goal.accept-requires-clause-length
accept-requires-clause-length g c =
    let y = c.requires.tied in
    let on = ap (record_of c.args.tag) (sym y.2.records) ∙ c.requires.place.1 in
    let m = memref_is _ _ _ (memref_there _ _ _ y.1 y.2 c.args.tag c.args.transfer on) c.index_mut.ensures.value in
    ap (λ l. length l) (c.wait_for-parcel.ensures.parcel _ (seat_started _ _ _ y.1 y.2 _ c.args.transfer on)).1 ∙ y.2.rooms c.args.tag c.args.transfer on ∙ sym (ap (λ (m : HalvesShape). m.cells) m)

pub returns : goal.returns
returns g c = record {
  tied = λ shape y t.
      let on = ap (record_of c.args.tag) (sym t.records) ∙ c.requires.place.1 in
      let there = memref_there _ _ _ y t c.args.tag c.args.transfer on in
      let m = memref_is _ _ _ there c.index_mut.ensures.value in
      taken_back _ _ _ y t c.args.tag c.args.transfer on _ _ (c.wait_for-parcel.ensures.parcel _ (seat_started _ _ _ y t _ c.args.transfer on)).1
      c.wait_for-parcel.ensures.seat.0 c.wait_for-parcel.ensures.seat.1 c.wait_for-parcel.ensures.seat.2 c.wait_for-parcel.ensures.helper
      (changed_is _ c.args.transfer.fast c.args.transfer.half _ there _ _ m (ap (λ (m : HalvesShape). m.cells) c.accept.ensures) (ap (λ (m : HalvesShape). m.halves) c.accept.ensures))
      (half_in _ _ _ y t c.args.tag c.args.transfer on)
      (c.forget.ensures.items ∙ sym c.requires.place.2) refl c.forget.ensures.capacity;
  fewer = let e = length-remove _ c.args.place c.requires.place.0 in let h = ap (λ l. length l) c.forget.ensures.items in omega (arith, e, h);
}
