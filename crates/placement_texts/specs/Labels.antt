-- Numbers of fast memrefs and tags where an allocation of each stands in a text in which it didn't stand before: those behind
-- it move up. And actions with other places and other numbers.
use Rattle.std.specs.Prelude.{ℕ, ◌+◌, List, Option, Some, None, nat_lt, if◌then◌else◌}
use Rattle.bus_model.specs.declared.transfer.Transfer.{Transfer}
use Rattle.direct_meaning.specs.Action.{Home, SlowMemref, FastMemref, TagMemref, Place, Slow, Fast, Outside, Action, Known, Sets, Loads, Stores, RawLoads, RawStores, Operates, Converts, Allocates, Releases, AllocatesTags, ReleasesTags, Starts, Waits, Faults, Returns}
use Rattle.boxes.specs.Boxes.{Side}
use Rattle.placement_texts.specs.Boxes.{box_place}

-- what is put into a text: the numbers of its fast memref and of its first tag, and how many tags
pub record Numbers : Type 0 where
  pub fast : ℕ
  pub tag : ℕ
  pub tags : ℕ

-- where `count` new numbers stand from `from` on, a number from there on becomes a later one
unfoldable pub moved_up : ℕ → ℕ → ℕ → ℕ
moved_up from count n = if nat_lt n from then n else n + count

abbrev pub fast_up : Numbers → ℕ → ℕ
fast_up new n = moved_up new.fast 1 n

abbrev pub tag_up : Numbers → ℕ → ℕ
tag_up new n = moved_up new.tag new.tags n

-- what a memref stands for, in the new text
abbrev pub home_up : Numbers → Option Home → Option Home
home_up new (Some (SlowMemref number first)) = Some (SlowMemref number first)
home_up new (Some (FastMemref number)) = Some (FastMemref (fast_up new number))
home_up new (Some (TagMemref first)) = Some (TagMemref (tag_up new first))
home_up new None = None

abbrev pub transfer_up : Numbers → Transfer → Transfer
transfer_up new t = record t { tag = tag_up new t.tag; fast = fast_up new t.fast }

-- where slow places go; a cell stays one of its fast memref
abbrev pub place_with : (ℕ → Place) → Numbers → Place → Place
place_with f new (Slow p) = f p
place_with f new (Fast number half cell) = Fast (fast_up new number) half cell
place_with f new Outside = Outside

-- an action of the new text, where slow places go somewhere
abbrev pub action_with : (ℕ → Place) → Numbers → Action → Action
action_with f new (Loads r place) = Loads r (place_with f new place)
action_with f new (Stores x place) = Stores x (place_with f new place)
action_with f new (RawLoads r home sizes at) = RawLoads r (home_up new home) sizes at
action_with f new (RawStores x home sizes at) = RawStores x (home_up new home) sizes at
action_with f new (Allocates number element sizes) = Allocates (fast_up new number) element sizes
action_with f new (Releases number element sizes) = Releases (fast_up new number) element sizes
action_with f new (AllocatesTags first count) = AllocatesTags (tag_up new first) count
action_with f new (ReleasesTags first count) = ReleasesTags (tag_up new first) count
action_with f new (Starts t) = Starts (transfer_up new t)
action_with f new (Waits tag count) = Waits (tag_up new tag) count
action_with f new Known = Known
action_with f new (Sets r z) = Sets r z
action_with f new (Operates r op bits a b) = Operates r op bits a b
action_with f new (Converts r kind from to x) = Converts r kind from to x
action_with f new (Faults k) = Faults k
action_with f new Returns = Returns

-- with new numbers alone
abbrev pub action_up : Numbers → Action → Action
action_up new = action_with Slow new

-- and with the box of the memref that begins at `first` in the new fast memref
abbrev pub action_in_box : ℕ → List Side → Numbers → Action → Action
action_in_box first spans new = action_with (box_place first spans new.fast) new
