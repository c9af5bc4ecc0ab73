use Rattle.std.proofs.Common.{◌∙◌, sym, ap, arith}
use Rattle.order_machine.specs.Policies.{last_of}
use Rattle.order_machine.proofs.Obeyed.{no_step, last_get}
use Rattle.order_machine.proofs.machine.Machine.last.Goals as goal

pub returns-then-count-eq0 : goal.returns-then-count-eq0
returns-then-count-eq0 c = λ s steps at. let l = c.enabled-count.ensures s steps at in (l.0, l.1, sym (ap last_of (no_step l.0 (sym l.2 ∙ c.if-count-eq0.true))))

pub nth-requires : goal.nth-requires
nth-requires c = let y = c.requires in let l = c.enabled-count.ensures y.0 y.1 y.2 in (y.0, y.1, l.0, y.2, l.1, omega (arith, l.2, c.if-count-eq0.false))

pub returns : goal.returns
returns c = λ s steps at. let l = c.enabled-count.ensures s steps at in (l.0, l.1, sym (last_get l.0 _ c.nth.result (omega (arith, l.2, c.if-count-eq0.false)) (c.nth.ensures s steps l.0 at l.1)))
