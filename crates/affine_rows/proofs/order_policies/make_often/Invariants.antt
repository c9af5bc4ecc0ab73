use Rattle.order_machine.specs.Standing.{IsSomewhere}
use Rattle.affine_rows.proofs.order_policies.make_often.Given as goal

abbrev pub invariant-loop-turn : goal.invariant-loop-turn
invariant-loop-turn l = IsSomewhere l.machine
