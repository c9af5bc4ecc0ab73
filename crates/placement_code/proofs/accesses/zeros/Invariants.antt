use Rattle.std.proofs.Common.{◌≡◌, ◌+◌, ◌++◌, ℕ, drop}
use Rattle.made_names.specs.Made.{made_name}
use Rattle.placement_texts.specs.Template.{begins_from, zeros}
use Rattle.placement_code.proofs.accesses.zeros.Given as goal

abbrev pub invariant-loop-dim : goal.invariant-loop-dim
invariant-loop-dim l = (number : ℕ) → zeros (begins_from (made_name number) 0 l.dims) ≡ l.exprs ++ zeros (begins_from (made_name number) l.dim-index (drop l.dim-index l.dims))
