use Rattle.ring_samples.proofs.Example.{example_is_ring}
use Rattle.ring_samples.proofs.Outward.{outward_is_ring}
use Rattle.ring_samples.proofs.Mixed.{mixed_is_ring}
use Rattle.ring_samples.proofs.rings_are_kept.Goals as goal

pub returns : goal.returns
returns c = record { copied = example_is_ring; outward = outward_is_ring; mixed = mixed_is_ring }
