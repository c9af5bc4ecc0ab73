use Rattle.std.proofs.Common.{◌∙◌, sym, ap, arith}
use Rattle.std.specs.Prelude.{slice_get}
use Rattle.order_machine.proofs.Obeyed.{no_step}
use Rattle.order_machine.proofs.machine.Machine.first.Goals as goal

pub returns-then-enabled-eq0 : goal.returns-then-enabled-eq0
returns-then-enabled-eq0 c = λ s steps at. let l = c.enabled.ensures s steps at in (l.0, l.1, sym (ap (λ e. slice_get e 0) (no_step l.0 (sym l.2 ∙ c.if-enabled-eq0.true))))

pub nth-requires : goal.nth-requires
nth-requires c = let y = c.requires in let l = c.enabled.ensures y.0 y.1 y.2 in (y.0, y.1, l.0, y.2, l.1, omega (arith, l.2, c.if-enabled-eq0.false))

pub returns : goal.returns
returns c = λ s steps at. let l = c.enabled.ensures s steps at in (l.0, l.1, sym (c.nth.ensures s steps l.0 at l.1))
