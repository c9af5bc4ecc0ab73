use Rattle.std.proofs.Common.{◌≡◌, ◌+◌, drop}
use Rattle.box_covers.specs.Covers.{others_pass}
use Rattle.box_covers.proofs.sweeps.others_pass.Given as goal

abbrev pub invariant-loop-number : goal.invariant-loop-number
invariant-loop-number l = others_pass l.fn.first l.goings l.fn.places ≡ others_pass (l.fn.first + l.number) (drop l.number l.goings) l.fn.places
