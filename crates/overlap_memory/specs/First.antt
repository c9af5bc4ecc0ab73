-- The states of the prompt meaning at the beginning of a run.
use Rattle.std.specs.Prelude.{◌≡◌, ℕ, ℤ, List, [], length, None}
use Rattle.fast_halves.specs.Shape.{HalvesShape}
use Rattle.prompt_semantics.specs.Device.{Device}
use Rattle.overlap_memory.specs.Tied.{FastShape, memref_at}

-- these words are in slow memory, no half has a cell yet, and nothing is outstanding
pub record IsFirst (words : List ℤ) (y : Device) : Type 0 where
  pub slow : y.state.slow ≡ words
  pub halves : (number half : ℕ) → y.halves number half ≡ []
  pub live : y.live ≡ 0
  pub outstanding : y.outstanding ≡ []

-- the memrefs of these halves, none of them allocated
abbrev pub shape_at_first : List HalvesShape → FastShape
shape_at_first hs = record {
  count = length hs;
  cells = λ number. (memref_at hs number).cells;
  halves = λ number. length (memref_at hs number).halves;
  rooms = λ number. None;
}
