use Rattle.std.proofs.Common.{◌≡◌, ◌++◌, drop}
use Rattle.projection.specs.Sides.{on_side}
use Rattle.projection.proofs.side.rows_on.Given as goal

abbrev pub invariant-loop-at : goal.invariant-loop-at
invariant-loop-at l = on_side l.side l.k l.rows.rows ≡ l.out.items ++ on_side l.side l.k (drop l.at l.rows.rows)
