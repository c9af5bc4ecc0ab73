use Rattle.std.proofs.Common.{◌≡◌, ◌++◌, drop}
use Rattle.made_names.specs.Made.{made_name}
use Rattle.placement_lists.specs.Statements.{places_from}
use Rattle.placement_code.proofs.places.places.Given as goal

abbrev pub invariant-loop-dim : goal.invariant-loop-dim
invariant-loop-dim l = record {
  same : places_from (made_name l.number) 0 l.dims ≡ l.stmts ++ places_from (made_name l.number) l.k (drop l.dim-index l.dims);
  counted : l.k ≡ l.dim-index;
}
