use Rattle.std.proofs.Common.{◌≡◌, ◌<◌, length, arith, sym, subst, ap, ◌∙◌}
use Rattle.std.specs.Prelude.{slice_get, slice_set, Some}
use Rattle.std.proofs.lemmas.List.{map-set, length-map}
use Rattle.fast_halves.specs.Shape.{shape, shapes, away, Fitting}
use Rattle.fast_halves.proofs.Shapes.{shape_at}
use Rattle.fast_halves.proofs.Halves.lend.Goals as goal

pub returns-clause-halves : goal.returns-clause-halves
returns-clause-halves c =
    let inside = c.self.inside in
    let k = c.args.half in
    let long : length inside.halves.items ≡ length c.args.self.now.halves = sym (length-map inside.halves.items shape) ∙ ap (λ z. length z.halves) c.self.view_is in
    let at : k < length inside.halves.items = omega arith in
    let h = c.index_mut.result.now in (
      ap (λ z. slice_get z.halves k) (sym c.self.view_is) ∙ shape_at inside.halves.items k h at c.index_mut.ensures.value ∙ ap (λ q. Some (shape q)) c.lend.ensures.0,
      subst (Fitting inside.cells) (sym c.index_mut.ensures.value ∙ c.lend.ensures.0) (c.self.invariant k h at) ∙ ap (λ z. z.cells) c.self.view_is,
      map-set shape inside.halves.items k c.lend.new.self ∙ ap (λ q. slice_set (shapes inside.halves.items) k (shape q)) c.lend.ensures.1 ∙ ap (λ z. slice_set z.halves k (away c.args.tag)) c.self.view_is,
    )
