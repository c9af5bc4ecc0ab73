use Rattle.std.proofs.Common.{ap, sym, ◌∙◌, length, arith}
use Rattle.std.proofs.lemmas.List.{length-reverse}
use Rattle.nest_walk.specs.Standing.{Standing}
use Rattle.nest_walk.proofs.Frames.{pushed}
use Rattle.nest_walk.proofs.position.Position.push.Goals as goal
