use Rattle.std.proofs.Common.{◌≡◌, take, map}
use Rattle.placement_texts.specs.Normal.{index_of, renumbered}
use Rattle.normal_subscripts.proofs.access.results_in.Given as goal

abbrev pub invariant-loop-expr : goal.invariant-loop-expr
invariant-loop-expr l = l.made ≡ map (renumbered (λ n. index_of n l.order)) (take l.expr-index l.exprs)
