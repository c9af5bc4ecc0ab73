use Rattle.std.proofs.Common.{◌≡◌, ◌≤◌, ◌++◌, take, drop, length}
use Rattle.direct_meaning.specs.Memory.{slow_list}
use Rattle.run_laws.specs.StaysFitting.{refilled}
use Rattle.run_parts.proofs.image.refill.Given as goal

abbrev pub invariant-loop-place : goal.invariant-loop-place
invariant-loop-place l = record {
  same : refilled l.initial.memrefs.items l.slow ≡ take l.place l.memrefs.items ++ refilled (drop l.place l.memrefs.items) l.rest;
  long : length l.memrefs.items ≡ length l.initial.memrefs.items;
  enough : length (slow_list (drop l.place l.memrefs.items)) ≤ length l.rest;
}
