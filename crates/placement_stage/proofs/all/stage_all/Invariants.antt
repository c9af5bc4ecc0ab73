use Rattle.std.proofs.Common.{◌≡◌, drop}
use Rattle.affine_ast.specs.Nest.{nest}
use Rattle.placement_stage.specs.All.{staged_with, AllMayBeStaged}
use Rattle.placement_stage.proofs.all.stage_all.Given as goal

abbrev pub invariant-loop-one : goal.invariant-loop-one
invariant-loop-one l = record {
  may : AllMayBeStaged (drop l.one-index l.plan) (nest l.made);
  same : staged_with l.plan (nest l.fn.text) ≡ staged_with (drop l.one-index l.plan) (nest l.made);
}
