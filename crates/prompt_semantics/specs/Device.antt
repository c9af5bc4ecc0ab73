-- The state of a module with transfers, each of which completes at its start.
use Rattle.std.specs.Prelude.{ℕ, ◌+◌, ◌*◌, ◌-◌, max, ℤ, Bool, false, ◌&&◌, List, [], ◌∷◌, ◌++◌, replicate, Option, Some, None, nat_eq, nat_lt, nat_le, if◌then◌else◌}
use Rattle.std.specs.List.{list_any}
use Rattle.affine_ast.specs.declared.types.Element.{Element}
use Rattle.int_ops.specs.Wrapped.{wrapped}
use Rattle.bus_model.specs.declared.transfer.Transfer.{Transfer}
use Rattle.bus_model.specs.Copies.{moved_in, moved_out}
use Rattle.direct_meaning.specs.Transfers.{meets, overlap}
use Rattle.direct_meaning.specs.Static.{product, element_bits, element_bytes}
use Rattle.direct_meaning.specs.Actions.{half_cells}
use Rattle.direct_meaning.specs.Direct.{State}

pub record Device : Type 0 where
  -- what the names of data hold, and the slow list
  pub state : State
  -- the cells of each half of each fast memref
  pub halves : ℕ → ℕ → List ℤ
  -- the bytes of the fast memrefs that are allocated and not yet released
  pub live : ℕ
  -- the transfers that were started and not yet waited for, in the order of their starts
  pub outstanding : List Transfer
  -- how many actions there were, a faulting one among them
  pub actions : ℕ
  -- the steps of engines that the started transfers take: the count and two for each
  pub engine_steps : ℕ
  -- the greatest number of live bytes so far
  pub peak : ℕ

-- a fast memref's bytes
abbrev pub bytes_of : Element → List ℕ → ℕ
bytes_of element sizes = product sizes * element_bytes element

-- a half of a table of halves changed
unfoldable pub put_half : {A : Type 0} → (ℕ → ℕ → A) → ℕ → ℕ → A → ℕ → ℕ → A
put_half halves number half new n h = if nat_eq number n && nat_eq half h then new else halves n h

-- all halves of one memref changed
unfoldable pub put_halves : {A : Type 0} → (ℕ → ℕ → A) → ℕ → A → ℕ → ℕ → A
put_halves halves number new n h = if nat_eq number n then new else halves n h

-- a fresh half: each cell holds the filler, taken into the signed range of its element
abbrev pub fresh_half : ℤ → Element → List ℕ → List ℤ
fresh_half filler element sizes = replicate (half_cells sizes) (wrapped (element_bits element) filler)

-- a fast memref that is allocated, with its halves fresh
abbrev pub allocated : ℤ → ℕ → Element → List ℕ → Device → Device
allocated filler number element sizes y = record y {
  halves = put_halves y.halves number (fresh_half filler element sizes);
  live = y.live + bytes_of element sizes;
  peak = max y.peak (y.live + bytes_of element sizes);
}

abbrev pub released : Element → List ℕ → Device → Device
released element sizes y = record y { live = y.live - bytes_of element sizes }

-- a half is away while a transfer of it is outstanding
abbrev pub is_away : List Transfer → ℕ → ℕ → Bool
is_away outstanding number half = list_any (λ t. nat_eq t.fast number && nat_eq t.half half) outstanding

-- some half of a fast memref is away
abbrev pub has_away : List Transfer → ℕ → Bool
has_away outstanding number = list_any (λ t. nat_eq t.fast number) outstanding

-- a tag is started while a transfer with it is outstanding
abbrev pub is_started : List Transfer → ℕ → Bool
is_started outstanding tag = list_any (λ t. nat_eq t.tag tag) outstanding

-- one of so many tags from the first on is started
abbrev pub has_started : List Transfer → ℕ → ℕ → Bool
has_started outstanding first count = list_any (λ t. nat_le first t.tag && nat_lt t.tag (first + count)) outstanding

-- a slow load races with an outgoing transfer of the place, a slow store with any transfer of it
abbrev pub load_races : List Transfer → ℕ → Bool
load_races outstanding place = list_any (λ t. (if t.incoming then false else meets t place)) outstanding

abbrev pub store_races : List Transfer → ℕ → Bool
store_races outstanding place = list_any (λ t. meets t place) outstanding

-- an outgoing start races with any transfer that shares a slow place with it, an incoming one with an outgoing one
abbrev pub start_races : List Transfer → Transfer → Bool
start_races outstanding t = list_any (λ o. (if t.incoming then (if o.incoming then false else overlap o t) else overlap o t)) outstanding

abbrev pub copied_in : Transfer → Device → Device
copied_in t y = record y { halves = put_half y.halves t.fast t.half (moved_in t y.state.slow (y.halves t.fast t.half)) }

abbrev pub copied_out : Transfer → Device → Device
copied_out t y = record y { state = record y.state { slow = moved_out t (y.halves t.fast t.half) y.state.slow } }

-- a transfer on record, behind those that were started before it
abbrev pub recorded : Transfer → Device → Device
recorded t y = record y { outstanding = y.outstanding ++ t ∷ []; engine_steps = y.engine_steps + (t.count + 2) }

-- a start: all elements are copied at once, in the transfer's direction, and the transfer is recorded
unfoldable pub started : Transfer → Device → Device
started t y = recorded t (if t.incoming then copied_in t y else copied_out t y)

-- the record of a tag's transfer
abbrev pub record_of : ℕ → List Transfer → Option Transfer
record_of tag [] = None
record_of tag (t ∷ ts) = if nat_eq t.tag tag then Some t else record_of tag ts

-- the records without a tag's transfer
abbrev pub without : ℕ → List Transfer → List Transfer
without tag [] = []
without tag (t ∷ ts) = if nat_eq t.tag tag then ts else t ∷ without tag ts
