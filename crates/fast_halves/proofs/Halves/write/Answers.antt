use Rattle.std.proofs.Common.{◌≡◌, ◌<◌, length, arith, rules, to_z, of_z, w64, sym, ap, ◌∙◌}
use Rattle.std.specs.Prelude.{slice_get, slice_set, Some}
use Rattle.std.proofs.lemmas.List.{map-set, length-map}
use Rattle.std.proofs.lemmas.Int.{to_z-of_z}
use Rattle.fast_halves.specs.Shape.{shape, shapes, here}
use Rattle.fast_halves.proofs.Shapes.{shape_at}
use Rattle.fast_halves.proofs.Halves.write.Goals as goal

pub returns-clause-halves : goal.returns-clause-halves
returns-clause-halves c =
    let inside = c.self.inside in
    let k = c.args.half in
    let long : length inside.halves.items ≡ length c.args.self.now.halves = sym (length-map inside.halves.items shape) ∙ ap (λ z. length z.halves) c.self.view_is in
    let at : k < length inside.halves.items = omega arith in
    let h = c.index_mut.result.now in
    let told = c.write.ensures in (
      told.0,
      ap (λ z. slice_get z.halves k) (sym c.self.view_is) ∙ shape_at inside.halves.items k h at c.index_mut.ensures.value ∙ ap Some told.1,
      map-set shape inside.halves.items k c.write.new.self ∙ ap (slice_set (shapes inside.halves.items) k) told.2 ∙ ap (λ z. slice_set z.halves k (here (slice_set told.0 c.args.cell (to_z w64 (of_z w64 c.args.value))))) c.self.view_is ∙ ap (λ z. slice_set c.args.self.now.halves k (here (slice_set told.0 c.args.cell z))) (to_z-of_z w64 c.args.value (search rules)),
    )
