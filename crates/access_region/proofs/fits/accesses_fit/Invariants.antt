use Rattle.std.proofs.Common.{◌≡◌, drop}
use Rattle.affine_expr.specs.Bounded.{ranges}
use Rattle.access_region.specs.Places.{accesses_fit}
use Rattle.access_region.proofs.fits.accesses_fit.Given as goal

abbrev pub invariant-loop-access : goal.invariant-loop-access
invariant-loop-access l = accesses_fit (ranges l.places) l.accesses ≡ accesses_fit (ranges l.places) (drop l.access-index l.accesses)
