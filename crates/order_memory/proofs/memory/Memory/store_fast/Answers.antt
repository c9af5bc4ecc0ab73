use Rattle.std.proofs.Common.{rules, ◌∙◌, sym, ap, refl, subst, set, w64}
use Rattle.std.proofs.lemmas.Int.{to_z-of_z}
use Rattle.std.specs.Prelude.{slice_get}
use Rattle.fast_halves.specs.Shape.{HalvesShape, here}
use Rattle.order_memory.specs.Halves.{SameHalves}
use Rattle.order_memory.proofs.Changed.{memref_is, changed, changed_is, put_back}
use Rattle.order_memory.proofs.Loads.{store_fast, store_away, with_halves}
use Rattle.order_memory.proofs.memory.Memory.store_fast.Goals as goal

pub returns-in-Ok-clause-follows : goal.returns-in-Ok-clause-follows
returns-in-Ok-clause-follows c = λ rooms x t i.
    (let r = c.in-Ok.ensures.halves in
    let m = memref_is _ _ _ c.requires.there c.index_mut.ensures.value in
    let is = ap (λ (m : HalvesShape). slice_get m.halves c.args.half) (sym m) ∙ r.1 in
    store_fast rooms x _ t c.args.number c.args.half c.args.cell r.0 c.args.value i is c.requires.there c.requires.half_there _ refl refl refl refl refl
    (changed_is _ c.args.number c.args.half _ c.requires.there _ _ m c.in-Ok.ensures.cells r.2 ∙ ap (λ z. changed _ c.args.number c.args.half (here (set r.0 c.args.cell z)) c.requires.there) (to_z-of_z w64 c.args.value (search rules))))

pub returns-in-Err-clause-follows : goal.returns-in-Err-clause-follows
returns-in-Err-clause-follows c = λ rooms x t i.
    (let r = c.in-Err.ensures.halves in
    let m = memref_is _ _ _ c.requires.there c.index_mut.ensures.value in
    let is = ap (λ (m : HalvesShape). slice_get m.halves c.args.half) (sym m) ∙ r.0 in
    (x, store_away rooms x _ t c.args.number c.args.half c.args.cell c.in-Err.field-0.tag c.args.value is, with_halves rooms x _ t x.halves _ (subst (SameHalves rooms x.halves) (sym (put_back _ c.args.number _ _ r.1 m)) t.halves) refl refl refl refl refl))
