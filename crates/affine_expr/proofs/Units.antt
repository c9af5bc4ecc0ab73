-- The coefficients of one variable.
use Rattle.std.proofs.Common.{◌≡◌, ℕ, ◌≤◌, pos, replicate, arith}
use Rattle.std.specs.Prelude.{slice_set}
use Rattle.std.proofs.lemmas.List.{set_past, length-replicate}

-- a place past the end changes nothing
pub past : (width place : ℕ) → width ≤ place → slice_set (replicate width (pos 0)) place (pos 1) ≡ replicate width (pos 0)
past width place h = set_past (replicate width (pos 0)) place (pos 1) (omega (arith, length-replicate width (pos 0)))
