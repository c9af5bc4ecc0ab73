use Rattle.std.proofs.Common.{◌≡◌, ◌≤◌, ◌+◌, ◌++◌, drop, length}
use Rattle.std.specs.Prelude.{All}
use Rattle.placement_code.specs.Redirects.{less_dims}
use Rattle.placement_code.specs.Small.{IsWell}
use Rattle.placement_code.proofs.redirects.less_places.Given as goal

abbrev pub invariant-loop-expr : goal.invariant-loop-expr
invariant-loop-expr l = record {
  same : less_dims l.first l.exprs l.dims ≡ l.differences ++ less_dims l.k (drop l.expr-index l.exprs) l.rest;
  well : All IsWell l.rest;
  within : l.k + length l.rest ≤ l.first + length l.dims;
}
