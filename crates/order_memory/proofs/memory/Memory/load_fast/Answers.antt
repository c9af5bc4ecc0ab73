use Rattle.std.proofs.Common.{rules, ◌∙◌, sym, ap, w64}
use Rattle.std.proofs.lemmas.Int.{to_z-of_z}
use Rattle.std.specs.Prelude.{slice_get, Some}
use Rattle.fast_halves.specs.Shape.{HalvesShape}
use Rattle.order_memory.proofs.Changed.{memref_is}
use Rattle.order_memory.proofs.Loads.{fast_gives, fast_faults}
use Rattle.order_memory.proofs.memory.Memory.load_fast.Goals as goal

pub returns-in-Ok : goal.returns-in-Ok
returns-in-Ok c = λ rooms x t i.
    (let r = c.in-Ok.ensures in
    fast_gives rooms x _ t c.args.number c.args.half c.args.cell r.0 _ i (ap (λ (m : HalvesShape). slice_get m.halves c.args.half) (sym (memref_is _ _ _ c.requires.there c.index.ensures)) ∙ r.1) (r.2 ∙ ap Some (sym (to_z-of_z w64 c.in-Ok.value (search rules)))))

pub returns-in-Err : goal.returns-in-Err
returns-in-Err c = λ rooms x t i. fast_faults rooms x _ t c.args.number c.args.half c.args.cell c.in-Err.field-0.tag (ap (λ (m : HalvesShape). slice_get m.halves c.args.half) (sym (memref_is _ _ _ c.requires.there c.index.ensures)) ∙ c.in-Err.ensures)
