use Rattle.std.proofs.Common.{◌≡◌, ◌≤◌, ◌+◌, ◌++◌, ℕ, drop, length}
use Rattle.made_names.specs.Made.{made_name}
use Rattle.placement_texts.specs.Template.{begins_from, turn_places}
use Rattle.placement_code.proofs.accesses.turn_places.Given as goal

abbrev pub invariant-loop-dim : goal.invariant-loop-dim
invariant-loop-dim l = record {
  same : (number : ℕ) → turn_places 0 (length l.dims) (begins_from (made_name number) 0 l.dims) ≡ l.exprs ++ turn_places l.turn l.k (begins_from (made_name number) l.turn (drop l.dim-index l.dims));
  counted : l.turn ≡ l.dim-index;
  few : l.k ≤ length l.dims + l.dim-index;
}
