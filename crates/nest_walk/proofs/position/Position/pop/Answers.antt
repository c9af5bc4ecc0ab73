use Rattle.std.proofs.Common.{refl, arith}
use Rattle.nest_walk.proofs.Frames.{popped, none_left}
use Rattle.nest_walk.proofs.position.Position.pop.Goals as goal
