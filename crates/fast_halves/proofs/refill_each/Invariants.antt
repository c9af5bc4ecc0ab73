use Rattle.std.proofs.Common.{◌≡◌, ℕ, ◌<◌, [], length, replicate, slice_index_or}
use Rattle.std.specs.List.{All}
use Rattle.fast_halves.specs.Shape.{here, shapes, IsHereWith}
use Rattle.fast_halves.proofs.refill_each.Given as goal

abbrev pub invariant-loop-half : goal.invariant-loop-half
invariant-loop-half l = record {
  long : length l.halves ≡ length l.initial.halves;
  all_here : All (IsHereWith l.cells) l.halves;
  filled : (k : ℕ) → k < l.half → slice_index_or (shapes l.halves) k (here []) ≡ here (replicate l.cells l.filler);
}
