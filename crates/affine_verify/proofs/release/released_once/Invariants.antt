use Rattle.std.proofs.Common.{◌≡◌, ◌-◌, drop, length, reverse}
use Rattle.affine_ast.specs.Nest.{nest}
use Rattle.affine_verify.specs.Deallocs.{Lists, once_each}
use Rattle.affine_verify.proofs.release.released_once.Given as goal

abbrev pub invariant-loop-done : goal.invariant-loop-done
invariant-loop-done l = record {
  lists : Lists l.deallocs (nest (drop (length l.stmts - l.done) l.stmts));
  once : l.once.items ≡ reverse (once_each (drop (length l.stmts - l.done) l.stmts));
}
