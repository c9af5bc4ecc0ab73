-- Where a reading stopped that didn't come to the end.
use Rattle.std.specs.Prelude.{◌≡◌, ◌↔◌, ℕ, ◌+◌, ◌<◌, ◌≤◌, List, length, Option}
use Rattle.std.specs.Io.KnownBytes.{Consumes}
use Rattle.affine_io.specs.declared.source.TheConstants.{READ_PIECE}
use Rattle.affine_io.specs.declared.source.ReadStop.{ReadStop}
use Rattle.affine_io.specs.declared.source.ReadStop.TheVariants.{TooLong}

-- the source lost some bytes from its front, they are more than the limit exactly where the reading
-- stopped as too long, and no more than one piece is past the limit
pub record StopsAfter (stop : ReadStop) (limit : ℕ) (before now : Option (List ℕ)) : Type 0 where
  pub bytes : List ℕ
  pub lost : Consumes before now bytes
  pub over : (stop ≡ TooLong) ↔ (limit < length bytes)
  pub near : length bytes ≤ limit + READ_PIECE
