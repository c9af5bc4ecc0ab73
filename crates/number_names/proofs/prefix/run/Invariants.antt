use Rattle.std.proofs.Common.{◌≡◌, ◌+◌, drop}
use Rattle.number_names.specs.Underscores.{run}
use Rattle.number_names.proofs.prefix.run.Given as goal

abbrev pub invariant-loop-byte : goal.invariant-loop-byte
invariant-loop-byte l = record {
  at : l.count ≡ l.byte-index;
  sum : run l.text ≡ l.count + run (drop l.byte-index l.text);
}
