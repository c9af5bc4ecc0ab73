use Rattle.std.proofs.Common.{rules, w64, sym, refl, ap, ◌∙◌, subst, arith, length, replicate, All}
use Rattle.std.proofs.lemmas.Int.{to_z-of_z}
use Rattle.fast_halves.specs.Shape.{HalvesShape, here, IsHere}
use Rattle.overlap_memory.proofs.Changed.{memref_is}
use Rattle.overlap_memory.proofs.Allocs.{all_here, allocate_follows}
use Rattle.overlap_memory.proofs.memory.Memory.allocate.Goals as goal

pub refill-requires : goal.refill-requires
refill-requires c =
    let y = c.requires.tied in
    let m = memref_is _ _ _ c.requires.number c.index_mut.ensures.value in
    subst (All IsHere) (sym (ap (λ (m : HalvesShape). m.halves) m)) (all_here _ _ _ y.1 y.2 c.args.number y.3)

pub returns : goal.returns
returns c = record {
  follows = λ shape y t free z element sizes many is room.
      let m = memref_is _ _ _ c.requires.number c.index_mut.ensures.value in
      allocate_follows _ _ _ y t c.args.number free z c.args.filler element sizes c.args.bytes many is room c.requires.number _ refl refl refl c.in-Some.ensures.1 c.refill.new.self
      (c.refill.ensures.cells ∙ ap (λ (m : HalvesShape). m.cells) m) (c.refill.ensures.halves ∙ (λ k. replicate (length (m k).halves) (here (replicate (m k).cells (to_z-of_z w64 c.args.filler (search rules) k))))) refl c.args.capacity (omega (arith, c.in-Some.ensures.1, c.if-live-capacity.false));
}
