use Rattle.std.proofs.Common.{sym, arith, ◌∙◌}
use Rattle.bus_model.proofs.Places.{meets_at, meets_nowhere}
use Rattle.bus_model.proofs.transfer.meets.Goals as goal

pub returns-then-slow-clause-value : goal.returns-then-slow-clause-value
returns-then-slow-clause-value c = sym (meets_at c.args.a.now c.args.slow c.loop-element.element (omega arith) (sym c.slow.ensures ∙ c.if-slow.true))

pub returns-clause-value : goal.returns-clause-value
returns-clause-value c = sym (meets_nowhere c.args.a.now c.args.slow (λ e lt. c.loop-element.invariant e (omega arith)))
