use Rattle.std.proofs.Common.{◌≡◌, ◌+◌, ◌^◌, ◌≤◌, ◌<◌, max, drop}
use Rattle.affine_ast.specs.Nest.{nest}
use Rattle.module_work.proofs.Weights.{weight_of, weight_of_all}
use Rattle.peak_laws.specs.Peak.{peak_of, bytes_in}
use Rattle.copy_place.proofs.bytes.+walk.Given as goal

abbrev pub invariant-region-loop-stmt : goal.invariant-region-loop-stmt
invariant-region-loop-stmt l = record {
  greatest : max l.initial.live.most (peak_of (nest l.fn.stmts) l.initial.live.now) ≡ max l.live.most (peak_of (nest (drop l.stmt-index l.fn.stmts)) l.live.now);
  room : l.live.now + bytes_in (nest (drop l.stmt-index l.fn.stmts)) < 2 ^ 64;
  most : l.live.now ≤ l.live.most;
}

abbrev pub decreases-statement : goal.decreases-statement
decreases-statement l = weight_of l.stmt.now

abbrev pub decreases-region : goal.decreases-region
decreases-region l = weight_of_all l.stmts.now
