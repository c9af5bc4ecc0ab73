use Rattle.std.proofs.Common.{◌≡◌, drop}
use Rattle.module_regions.specs.Lines.{sizes_of}
use Rattle.module_regions.proofs.sizes.sizes_of.Given as goal

abbrev pub invariant-loop-arg : goal.invariant-loop-arg
invariant-loop-arg l = sizes_of l.args l.memref ≡ sizes_of (drop l.arg-index l.args) l.memref
