use Rattle.std.proofs.Common.{◌∙◌, sym, ap, arith, refl}
use Rattle.std.specs.Prelude.{slice_get}
use Rattle.fast_halves.specs.Shape.{HalvesShape}
use Rattle.overlap_memory.proofs.Changed.{memref_is, changed_is}
use Rattle.overlap_memory.proofs.Starts.{has_room, may_start, begun_as, not_out}
use Rattle.overlap_memory.proofs.memory.Memory.begin.Goals as goal

pub unreachable-requires : goal.unreachable-requires
unreachable-requires c =
    let y = c.requires.tied in
    let can = c.requires.can in
    let m = memref_is _ _ _ can.fast c.index_mut.ensures.value in
    not_out _ _ _ y.1 y.2 c.args.transfer can y.4 c.in_default.field-0.tag (ap (λ (m : HalvesShape). slice_get m.halves c.args.transfer.half) (sym m) ∙ c.in_default.ensures.halves.0)

pub push_reserved-requires : goal.push_reserved-requires
push_reserved-requires c = let y = c.requires.tied in omega (arith, has_room _ _ _ y.1 y.2 c.args.transfer c.requires.can y.3, c.args.self.now.records.ok.0)

pub start-requires-clause-parcel : goal.start-requires-clause-parcel
start-requires-clause-parcel c =
    let y = c.requires.tied in
    let can = c.requires.can in
    let m = memref_is _ _ _ can.fast c.index_mut.ensures.value in
    may_start _ _ _ y.1 y.2 c.args.transfer can y.3 y.5 (record { transfer = c.args.transfer; cells = c.in-Ok.cells; moved = 0 }) refl refl (c.in-Ok.ensures.halves.1 ∙ ap (λ (m : HalvesShape). m.cells) m)

pub returns : goal.returns
returns c = record {
  tied = λ shape y t allocated has.
      let k = c.requires.tied in
      let can = c.requires.can in
      let m = memref_is _ _ _ can.fast c.index_mut.ensures.value in
      begun_as _ _ _ _ k.1 k.2 y t c.args.transfer can allocated has k.3 k.4 c.in-Ok.cells.items (ap (λ (m : HalvesShape). slice_get m.halves c.args.transfer.half) (sym m) ∙ c.in-Ok.ensures.halves.0) (c.in-Ok.ensures.halves.1 ∙ ap (λ (m : HalvesShape). m.cells) m)
      _ c.start.ensures refl (changed_is _ c.args.transfer.fast c.args.transfer.half _ can.fast _ _ m c.lend.ensures.cells c.in-Ok.ensures.halves.2) c.push_reserved.ensures.items refl c.push_reserved.ensures.capacity;
}
