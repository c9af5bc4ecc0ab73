-- Where the elements of a transfer lie.
use Rattle.std.specs.Prelude.{◌≡◌, ℕ, ◌+◌, ◌*◌, ◌/◌, ◌%◌, ◌≤◌, Bool, List, map, nat_eq}
use Rattle.std.specs.List.{list_any, range_with_len}
use Rattle.bus_model.specs.declared.transfer.Transfer.{Transfer}

-- the slow place of an element: chunks of side by side elements, begun a stride apart
unfoldable pub slow_place : Transfer → ℕ → ℕ
slow_place t e = t.base + e / t.chunk * t.stride + e % t.chunk

-- the slow places of all its elements, in their order
abbrev pub slow_places : Transfer → List ℕ
slow_places t = map (slow_place t) (range_with_len 0 t.count)

-- whether an element of a transfer lies at a slow place
abbrev pub meets : Transfer → ℕ → Bool
meets t place = list_any (nat_eq place) (slow_places t)

-- each place is that of one element alone
abbrev pub PlacesAreDistinct : Type 0
PlacesAreDistinct = (t : Transfer) → 1 ≤ t.chunk → t.chunk ≤ t.stride → (e f : ℕ) → slow_place t e ≡ slow_place t f → e ≡ f
