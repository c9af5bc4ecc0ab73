use Rattle.std.proofs.Common.{◌≡◌, ◌≤◌, drop}
use Rattle.affine_ast.specs.Nest.{nest}
use Rattle.affine_ast.specs.Validity.{told}
use Rattle.affine_rules.specs.Scoped.{around_of}
use Rattle.affine_verify.specs.Comes.{Extends}
use Rattle.affine_verify.proofs.walk.+walk.Given as goal

abbrev pub invariant-list-loop-place : goal.invariant-list-loop-place
invariant-list-loop-place l = record {
  told : told (nest l.fn.stmts) (around_of l.initial.scoped) ≡ told (nest (drop l.place l.fn.stmts)) (around_of l.scoped);
  kept : Extends l.initial.scoped l.scoped;
  small : l.scoped.totals.statements ≤ 65536;
}
