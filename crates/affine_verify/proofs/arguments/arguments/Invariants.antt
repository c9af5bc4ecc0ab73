use Rattle.std.proofs.Common.{◌≡◌, drop}
use Rattle.affine_ast.specs.Scope.{Around}
use Rattle.affine_ast.specs.Validity.{Told, told_arguments}
use Rattle.affine_rules.specs.Scoped.{around_of}
use Rattle.affine_verify.specs.Comes.{Counts}
use Rattle.affine_verify.proofs.arguments.arguments.Given as goal

abbrev pub invariant-loop-arg : goal.invariant-loop-arg
invariant-loop-arg l = record {
  told : (body : Around → Told) → told_arguments l.args body (around_of l.initial.scoped) ≡ told_arguments (drop l.arg-index l.args) body (around_of l.scoped);
  counts : Counts l.initial.scoped l.scoped;
}
