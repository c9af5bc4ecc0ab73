use Rattle.std.proofs.Common.{rules, ap, ◌∙◌, sym, subst}
use Rattle.tag_table.specs.Shapes.{NoneStarted, compute_of}
use Rattle.tag_table.proofs.Opens.{settled_list}
use Rattle.tag_table.proofs.bus.Bus.close.Goals as goal

pub returns : goal.returns
returns c =
    let last = c.close_with-closed.ensures.values.2 in
    let key = c.self.invariant in
    let v = compute_of c.seat.inside.seat.me.0 in
    let same = c.seat.view_is in
    settled_list _ _ c.self.inside.tags _ _ v (ap (λ m. m.0) c.seat.invariant.0) (subst NoneStarted (sym same) c.requires.compute.1) key.0.2 last.0 last.1 _ last.2 _ (search rules) (λ i lt. c.read_out.ensures i (search rules))
    ∙ ap (λ z. z.prompt) same
