use Rattle.std.proofs.Common.{◌≡◌, ◌++◌, drop}
use Rattle.region_texts.specs.Text.{further_dimensions}
use Rattle.region_texts.proofs.text.put_further_dimensions.Given as goal

abbrev pub invariant-loop-dim : goal.invariant-loop-dim
invariant-loop-dim l = l.out.items ++ further_dimensions l.names (drop l.dim-index l.dims) ≡ l.initial.out.items ++ further_dimensions l.names l.dims
