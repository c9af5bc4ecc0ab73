use Rattle.std.proofs.Common.{◌≡◌, ◌≤◌, ◌++◌, ℕ, drop}
use Rattle.made_names.specs.Made.{made_name}
use Rattle.placement_texts.specs.Template.{begins_from, place_exprs}
use Rattle.placement_code.proofs.accesses.place_exprs.Given as goal

abbrev pub invariant-loop-dim : goal.invariant-loop-dim
invariant-loop-dim l = record {
  same : (number : ℕ) → place_exprs 0 (begins_from (made_name number) 0 l.dims) ≡ l.exprs ++ place_exprs l.k (begins_from (made_name number) l.dim-index (drop l.dim-index l.dims));
  few : l.k ≤ l.dim-index;
}
