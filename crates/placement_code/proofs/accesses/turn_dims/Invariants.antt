use Rattle.std.proofs.Common.{◌≡◌, ◌+◌, ◌++◌, ℕ, drop}
use Rattle.made_names.specs.Made.{made_name}
use Rattle.placement_texts.specs.Template.{begins_from, turn_dims}
use Rattle.placement_code.proofs.accesses.turn_dims.Given as goal

abbrev pub invariant-loop-dim : goal.invariant-loop-dim
invariant-loop-dim l = record {
  same : (number : ℕ) → turn_dims 0 (begins_from (made_name number) 0 l.dims) ≡ l.exprs ++ turn_dims l.turn (begins_from (made_name number) l.turn (drop l.dim-index l.dims));
  counted : l.turn ≡ l.dim-index;
}
