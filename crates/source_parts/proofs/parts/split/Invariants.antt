use Rattle.std.proofs.Common.{length, ◌-◌, ◌≡◌, ◌≤◌, ◌++◌, take, drop}
use Rattle.source_parts.specs.Parts.{text_part, image_part}
use Rattle.source_parts.proofs.parts.split.Given as goal

abbrev pub invariant-loop-at : goal.invariant-loop-at
invariant-loop-at l = record {
  text : text_part l.source ≡ take l.at l.source ++ text_part (drop l.at l.source);
  image : image_part l.source ≡ image_part (drop l.at l.source);
  within : l.at ≤ length l.source;
}

abbrev pub decreases-loop-at : goal.decreases-loop-at
decreases-loop-at l = length l.source - l.at
