use Rattle.std.proofs.Common.{w64, to_z, of_z, ap, ◌∙◌}
use Rattle.tag_table.specs.Steps.{stored}
use Rattle.tag_table.specs.Shapes.{compute_of}
use Rattle.tag_table.proofs.Shown.{compute_me}
use Rattle.tag_table.proofs.bus.Bus.store.Goals as goal

pub invariant_of-seat : goal.invariant_of-seat
invariant_of-seat c =
    let is = c.seat.invariant.0 in
    let v = compute_of c.seat.inside.seat.me.0 in
    compute_me _ _ (c.store_slow.ensures.stored v (ap (λ m. m.0) is) ∙ (λ k. (stored v c.args.word (to_z w64 (of_z w64 c.args.value)), (is k).1))) c.seat.invariant.1
