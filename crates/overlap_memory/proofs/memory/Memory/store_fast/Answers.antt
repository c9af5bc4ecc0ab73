use Rattle.std.proofs.Common.{rules, ◌∙◌, sym, ap, refl, w64}
use Rattle.std.proofs.lemmas.Int.{to_z-of_z}
use Rattle.std.specs.Prelude.{slice_get}
use Rattle.fast_halves.specs.Shape.{HalvesShape}
use Rattle.overlap_memory.proofs.Changed.{memref_is, changed_is, put_back}
use Rattle.overlap_memory.proofs.Fast.{store_follows_as, store_faults, tied_again}
use Rattle.overlap_memory.proofs.memory.Memory.store_fast.Goals as goal

pub returns-in-Ok : goal.returns-in-Ok
returns-in-Ok c = record {
  follows = λ shape y t allocated.
      let r = c.in-Ok.ensures.halves in
      let m = memref_is _ _ _ c.requires.place.0 c.index_mut.ensures.value in
      let is = ap (λ (m : HalvesShape). slice_get m.halves c.args.half) (sym m) ∙ r.1 in
      store_follows_as _ _ _ y t c.args.number c.args.half c.args.cell allocated _ _ (to_z-of_z w64 c.args.value (search rules)) r.0 is c.requires.place.0 c.requires.place.1 _ refl refl refl refl (changed_is _ c.args.number c.args.half _ c.requires.place.0 _ _ m c.in-Ok.ensures.cells r.2);
}

pub returns-in-Err : goal.returns-in-Err
returns-in-Err c = record {
  follows = λ shape y t allocated.
      let r = c.in-Err.ensures.halves in
      let m = memref_is _ _ _ c.requires.place.0 c.index_mut.ensures.value in
      let is = ap (λ (m : HalvesShape). slice_get m.halves c.args.half) (sym m) ∙ r.0 in
      let f = store_faults _ _ _ y t c.args.number c.args.half c.args.cell c.args.value c.in-Err.field-0.tag is in
      (f.0, f.1, tied_again _ _ _ f.0 f.2 _ refl refl refl refl (put_back _ c.args.number _ _ r.1 m));
}
