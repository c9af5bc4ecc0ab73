use Rattle.std.proofs.Common.{arith}
use Rattle.order_machine.proofs.Moves.{went, stayed}
use Rattle.order_machine.proofs.machine.Machine.go.Goals as goal

pub make-requires-clause-stood : goal.make-requires-clause-stood
make-requires-clause-stood c = let y = c.requires.somewhere in (y.0, y.1, y.2.stood)

pub returns-then-not-make : goal.returns-then-not-make
returns-then-not-make c = λ s steps at. stayed s steps _ at c.args.step _ c.make.ensures.count (c.if-not-make.ensures.made s steps at.stood)

pub returns : goal.returns
returns c = λ s steps at. went s steps _ at c.args.step _ _ c.make.ensures.count (λ few. omega (arith, few, c.saturating_add-self.ensures)) (c.if-not-make.ensures.made s steps at.stood)
