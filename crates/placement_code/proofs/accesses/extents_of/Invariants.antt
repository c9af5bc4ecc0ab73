use Rattle.std.proofs.Common.{◌≡◌, ◌++◌, drop}
use Rattle.placement_texts.specs.Template.{dim_extents}
use Rattle.placement_code.proofs.accesses.extents_of.Given as goal

abbrev pub invariant-loop-dim : goal.invariant-loop-dim
invariant-loop-dim l = dim_extents l.dims ≡ l.extents ++ dim_extents (drop l.dim-index l.dims)
