use Rattle.std.proofs.Common.{◌≡◌}
use Rattle.loop_paths.proofs.Walks.{IsAdded}
use Rattle.loop_paths.proofs.paths.+paths.Given as goal

abbrev pub invariant-add_all-loop-position : goal.invariant-add_all-loop-position
invariant-add_all-loop-position l =
    IsAdded l.depth l.initial.trail.steps l.initial.trail.round l.other l.stmts l.position l.initial.out.items l.out.items
    × (l.trail ≡ l.initial.trail)
