-- The numbers of a span fit 64 bits.
use Rattle.std.proofs.Common.{◌≡◌, false, Some, ℤ, to_z, of_z}
use Rattle.std.proofs.lemmas.Int.{to_z-of_z}
use Rattle.std.specs.Int.{w64, w128}
use Rattle.affine_expr.specs.Pure.{is_outside}
use Rattle.affine_expr.specs.Guarded.{small}
use Rattle.affine_expr.proofs.Limits.{fits_w64, fits_w128}

pub kept : (z : ℤ) → is_outside z ≡ false → Some (to_z w64 (of_z w64 (to_z w128 (of_z w128 z)))) ≡ small z
unfolding small
kept z h =
    let f = fits_w64 z h in
    let g = fits_w128 z h in
    rw (h, to_z-of_z w128 z g, to_z-of_z w64 z f)
