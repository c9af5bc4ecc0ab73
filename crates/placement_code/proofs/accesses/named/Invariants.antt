use Rattle.std.proofs.Common.{◌≡◌, ◌≤◌, ◌++◌, drop, length}
use Rattle.made_names.specs.Made.{made_name}
use Rattle.placement_texts.specs.Template.{begins_from, named}
use Rattle.placement_code.proofs.accesses.named.Given as goal

abbrev pub invariant-loop-dim : goal.invariant-loop-dim
invariant-loop-dim l = record {
  same : named (begins_from (made_name l.number) 0 l.dims) ≡ l.names ++ named (begins_from (made_name l.number) l.k (drop l.dim-index l.dims));
  counted : l.k ≡ l.dim-index;
  few : length l.names ≤ l.k;
}
