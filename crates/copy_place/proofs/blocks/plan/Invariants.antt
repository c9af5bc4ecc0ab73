use Rattle.std.proofs.Common.{◌≡◌, map}
use Rattle.affine_ast.specs.Nest.{nest}
use Rattle.loop_paths.specs.Found.{found_of, found_at}
use Rattle.plan_laws.specs.Sites.{loops_at}
use Rattle.copy_place.specs.Planning.{IsPlannedTo}
use Rattle.copy_place.proofs.blocks.plan.Given as goal

-- the memrefs of so many blocks are decided; the paths stay those of the module's blocks
abbrev pub invariant-loop-place : goal.invariant-loop-place
invariant-loop-place l = record {
  planned : IsPlannedTo l.asking l.place l.planning;
  module_ : l.asking.verified.now ≡ l.module;
  options_ : l.asking.options ≡ l.options;
  paths : map found_of l.paths.items ≡ map (found_at (nest l.module.inner.body)) (loops_at l.options.depth (nest l.module.inner.body));
}
