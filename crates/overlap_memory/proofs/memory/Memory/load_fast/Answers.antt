use Rattle.std.proofs.Common.{rules, ◌∙◌, sym, ap, w64}
use Rattle.std.proofs.lemmas.Int.{to_z-of_z}
use Rattle.std.specs.Prelude.{slice_get, Some}
use Rattle.fast_halves.specs.Shape.{HalvesShape}
use Rattle.overlap_memory.proofs.Changed.{memref_is}
use Rattle.overlap_memory.proofs.Fast.{load_gives, load_faults}
use Rattle.overlap_memory.proofs.memory.Memory.load_fast.Goals as goal

pub returns-in-Ok : goal.returns-in-Ok
returns-in-Ok c = record {
  gives = λ shape y t allocated.
      let r = c.in-Ok.ensures in
      load_gives _ _ _ y t c.args.number c.args.half c.args.cell allocated _ r.0 (ap (λ (m : HalvesShape). slice_get m.halves c.args.half) (sym (memref_is _ _ _ c.requires.place.0 c.index.ensures)) ∙ r.1) (r.2 ∙ ap Some (sym (to_z-of_z w64 c.in-Ok.value (search rules))));
}

pub returns-in-Err : goal.returns-in-Err
returns-in-Err c = record { gives = λ shape y t allocated. load_faults _ _ _ y t c.args.number c.args.half c.args.cell c.in-Err.field-0.tag (ap (λ (m : HalvesShape). slice_get m.halves c.args.half) (sym (memref_is _ _ _ c.requires.place.0 c.index.ensures)) ∙ c.in-Err.ensures) }
