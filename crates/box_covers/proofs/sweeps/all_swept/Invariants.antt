use Rattle.std.proofs.Common.{◌≡◌, drop}
use Rattle.box_covers.specs.Covers.{all_swept}
use Rattle.box_covers.proofs.sweeps.all_swept.Given as goal

abbrev pub invariant-loop-number : goal.invariant-loop-number
invariant-loop-number l = all_swept l.fn.first l.fn.goings l.dims l.fn.places ≡ all_swept l.fn.first l.fn.goings (drop l.number l.dims) (drop l.number l.fn.places)
