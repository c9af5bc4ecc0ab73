use Rattle.std.proofs.Common.{ap, ◌∙◌}
use Rattle.std.specs.Prelude.{slice_set}
use Rattle.std.proofs.lemmas.List.{map-set}
use Rattle.fast_halves.specs.Shape.{shape, here}
use Rattle.fast_halves.specs.declared.Half.TheVariants.{Here}
use Rattle.fast_halves.proofs.Halves.accept.Goals as goal

pub returns : goal.returns
returns c =
    let view = c.self.view_is in
    let halves = map-set shape c.self.inside.halves.items c.args.half (Here c.args.cells) ∙ ap (λ z. slice_set z.halves c.args.half (here c.args.cells.items)) view in
    λ k. record { cells = (view k).cells; halves = halves k }
