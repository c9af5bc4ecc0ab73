use Rattle.std.proofs.Common.{◌≡◌, ◌++◌, drop}
use Rattle.placement_texts.specs.Template.{dim_sizes}
use Rattle.placement_code.proofs.accesses.sizes_of.Given as goal

abbrev pub invariant-loop-dim : goal.invariant-loop-dim
invariant-loop-dim l = dim_sizes l.dims ≡ l.sizes ++ dim_sizes (drop l.dim-index l.dims)
