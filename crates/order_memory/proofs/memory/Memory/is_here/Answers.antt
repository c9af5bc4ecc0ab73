use Rattle.std.proofs.Common.{◌∙◌, sym, ap}
use Rattle.std.specs.Prelude.{slice_get}
use Rattle.fast_halves.specs.Shape.{HalvesShape}
use Rattle.order_memory.proofs.Changed.{memref_is}
use Rattle.order_memory.proofs.memory.Memory.is_here.Goals as goal

pub returns-in-Ok : goal.returns-in-Ok
returns-in-Ok c = let r = c.in-Ok.ensures in (r.0, ap (λ (m : HalvesShape). slice_get m.halves c.args.half) (sym (memref_is _ _ _ c.requires.there c.index.ensures)) ∙ r.1)

pub returns-in-Err : goal.returns-in-Err
returns-in-Err c = (c.in-Err.field-0.tag, ap (λ (m : HalvesShape). slice_get m.halves c.args.half) (sym (memref_is _ _ _ c.requires.there c.index.ensures)) ∙ c.in-Err.ensures)
