use Rattle.std.proofs.Common.{rules, w64, SFits, sym, refl, ap, ◌∙◌, subst, arith, length, replicate, All, to_z, of_z}
use Rattle.std.proofs.lemmas.Int.{to_z-of_z}
use Rattle.affine_ast.specs.Sizes.{element_bits}
use Rattle.int_ops.specs.Wrapped.{wrapped}
use Rattle.fast_halves.specs.Shape.{HalvesShape, here, IsHere}
use Rattle.order_memory.proofs.Changed.{memref_is}
use Rattle.order_memory.proofs.Allocs.{allocates, allocate_faults}
use Rattle.order_memory.proofs.memory.Memory.allocate.Goals as goal

pub refill-requires : goal.refill-requires
refill-requires c =
    let m = memref_is _ _ _ c.requires.number c.index_mut.ensures.value in
    subst (All IsHere) (sym (ap (λ (m : HalvesShape). m.halves) m)) c.requires.home

pub returns-then-bytes-capacity-clause-follows : goal.returns-then-bytes-capacity-clause-follows
returns-then-bytes-capacity-clause-follows c = λ rooms x t room. allocate_faults rooms x _ t c.args.number c.args.element c.args.sizes.now c.args.filler c.args.capacity room c.bytes_of-bytes.result c.bytes_of-bytes.ensures.bytes (omega (arith, c.if-bytes-capacity.true, c.requires.live))

pub returns-clause-follows : goal.returns-clause-follows
returns-clause-follows c = λ rooms x t room.
    (let m = memref_is _ _ _ c.requires.number c.index_mut.ensures.value in
    let wide : SFits w64 c.wrap-value.result = search rules in
    let filled : SFits w64 c.args.filler = search rules in
    let value = to_z-of_z w64 c.wrap-value.result wide ∙ c.wrap-value.ensures ∙ ap (wrapped (element_bits c.args.element)) (to_z-of_z w64 c.args.filler filled) in
    allocates rooms x _ t c.args.number c.args.element c.args.sizes.now c.args.filler c.args.capacity room c.requires.number (to_z w64 (of_z w64 c.wrap-value.result)) value c.bytes_of-bytes.result c.bytes_of-bytes.ensures.bytes (omega (arith, c.if-bytes-capacity.false, c.requires.live))
    c.refill.new.self (c.refill.ensures.cells ∙ ap (λ (m : HalvesShape). m.cells) m)
    (c.refill.ensures.halves ∙ (λ k. replicate (length (m k).halves) (here (replicate (m k).cells (to_z w64 (of_z w64 c.wrap-value.result))))))
    _ refl refl refl refl refl refl)
