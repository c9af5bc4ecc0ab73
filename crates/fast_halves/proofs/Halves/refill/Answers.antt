use Rattle.std.proofs.Common.{sym, subst, ap}
use Rattle.std.specs.List.{All}
use Rattle.fast_halves.specs.Shape.{IsHere, IsHereWith}
use Rattle.fast_halves.proofs.Shapes.{all_here}
use Rattle.fast_halves.proofs.Halves.refill.Goals as goal

pub refill_each-requires : goal.refill_each-requires
refill_each-requires c =
    let inside = c.self.inside in
    subst (All (IsHereWith inside.cells)) (sym c.as_mut_slice.ensures.value) (all_here inside.cells inside.halves.items c.self.invariant (subst (All IsHere) (sym (ap (λ z. z.halves) c.self.view_is)) c.requires))
