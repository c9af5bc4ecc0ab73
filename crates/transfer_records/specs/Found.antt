-- What is asked of the records of outstanding transfers.
use Rattle.std.specs.Prelude.{◌≡◌, ℕ, ◌<◌, ◌≤◌, ◌^◌, true, false, List, length, Option, Some, None, slice_get}
use Rattle.std.specs.List.{remove}
use Rattle.bus_model.specs.declared.transfer.Transfer.{Transfer}
use Rattle.bus_model.specs.Places.{slow_place}
use Rattle.prompt_semantics.specs.Device.{is_started, record_of, without}

-- the places of its elements can be computed
pub record HasPlaces (t : Transfer) : Type 0 where
  pub some_chunk : 1 ≤ t.chunk
  pub fit : (e : ℕ) → e < t.count → slow_place t e < 2 ^ 32

-- each element of one lies before each of the other
abbrev pub EndsBefore : Transfer → Transfer → Type 0
EndsBefore one other = (e f : ℕ) → e < one.count → f < other.count → slow_place one e < slow_place other f

-- the tag's record at a place, without which the others are left; or the tag isn't started
abbrev pub Finds : List Transfer → ℕ → Option ℕ → Type 0
Finds ts tag None = (is_started ts tag ≡ false) × (record_of tag ts ≡ None)
Finds ts tag (Some place) = (is_started ts tag ≡ true) × (place < length ts) × (record_of tag ts ≡ slice_get ts place) × (without tag ts ≡ remove ts place)
