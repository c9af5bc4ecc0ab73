use Rattle.std.proofs.Common.{arith, drop, sym, ◌∙◌}
use Rattle.affine_io.proofs.Fronts.{front_given}
use Rattle.affine_io.proofs.remaining.Remaining.give.Goals as goal

pub returns-clause-front : goal.returns-clause-front
returns-clause-front c =
    let given = front_given c.deref.result.now c.copy_from_slice.new.self (drop c.min-count.result c.args.into.now) c.self.inside.at c.min-count.result
    (omega (arith, c.min-count.ensures)) c.copy_from_slice.ensures.after in
    sym c.self.view_is ∙ (rw c.deref.ensures.value at given)
