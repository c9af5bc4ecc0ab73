-- Allocations, starts and waits, by what the code finds.
use Rattle.std.proofs.Common.{◌≡◌, ℕ, zero, suc, ◌+◌, ◌*◌, ◌<◌, ◌≤◌, ℤ, Bool, true, false, List, [], ◌∷◌, ◌++◌, length, take, drop, get_or, refl, sym, ap, ◌∙◌, subst, arith, Ok, Err}
use Rattle.std.specs.Prelude.{nat_eq, nat_le, replicate, Some, if◌then◌else◌}
use Rattle.std.specs.List.{remove}
use Rattle.std.proofs.lemmas.List.{drop_all, take_all, append-nil}
use Rattle.std.proofs.lemmas.Option.{slice_get-get_or}
use Rattle.std.proofs.lemmas.Bool.{le-leb, leb-true, eq-eqb}
use Rattle.affine_ast.specs.declared.types.Element.{Element}
use Rattle.affine_ast.specs.Sizes.{element_bits}
use Rattle.int_ops.specs.Wrapped.{wrapped}
use Rattle.bus_model.specs.declared.step.FaultKind.TheVariants.{Touched, Race, Tag, Capacity, Shape}
use Rattle.bus_model.specs.declared.transfer.Transfer.{Transfer}
use Rattle.direct_meaning.specs.Action.{Place, Slow, Fast, Outside}
use Rattle.direct_meaning.specs.Actions.{half_cells}
use Rattle.direct_meaning.specs.Direct.{End, Fault}
use Rattle.prompt_semantics.specs.Device as model
use Rattle.prompt_semantics.specs.Device.{bytes_of, put_halves, fresh_half, allocated, is_away, is_started, start_races, copied_in, copied_out, recorded, started, record_of, without}
use Rattle.prompt_semantics.specs.Prompt.{refused, prompt_alloc, prompt_start, wait_on}
use Rattle.prompt_semantics.proofs.Laws.{halves_same, halves_other}
use Rattle.prompt_laws.specs.Reaches.{PlaceIn, StartIn}
use Rattle.prompt_laws.specs.Rooms.{Room, room_of, room_at}
use Rattle.prompt_meaning.specs.declared.fast.FastMemref.{FastMemref}
use Rattle.transfer_records.specs.Found.{Finds}
use Rattle.prompt_meaning.specs.Held.{PlaceReached, TransferReached}
use Rattle.prompt_meaning.specs.Memrefs.{memref_at, halves_at, CellIn, FillsHalves, HasRoom, AreRooms}
use Rattle.prompt_meaning.specs.Steps.{copied}
use Rattle.prompt_meaning.specs.Takes.{TakesWithin}
use Rattle.prompt_meaning.proofs.Agreement.{HalvesAgree}

-- ---- rooms

pub record RoomIs (rooms : List Room) (fs : List FastMemref) (k : ℕ) : Type 0 where
  pub memref : FastMemref
  pub is : memref_at fs k ≡ Some memref
  pub there : k < length fs
  pub room : HasRoom (room_at rooms k) memref

pub room_is : (rooms : List Room) (fs : List FastMemref) (k : ℕ) → AreRooms rooms fs → k < length rooms → RoomIs rooms fs k
room_is [] [] k are there = absurd (omega (arith, there))
room_is [] (f ∷ fs) k are there = absurd are
room_is (r ∷ rooms) [] k are there = absurd are
room_is (r ∷ rooms) (f ∷ fs) zero are there = record { memref = f; is = refl; there = omega arith; room = are.0 }
room_is (r ∷ rooms) (f ∷ fs) (suc k) are there =
    let more = room_is rooms fs k are.1 (omega (arith, there)) in
    let t = more.there in
    record { memref = more.memref; is = more.is; there = omega (arith, t); room = more.room }

in_all : (h n half c : ℕ) → h < n → c < half → h * half + c < n * half
in_all h n half c a b = grind (arith, a, b)

half_in_all : (h n half : ℕ) → h < n → h * half + half ≤ n * half
half_in_all h n half a = grind (arith, a)

module _ (rooms : List Room) (fs : List FastMemref) (are : AreRooms rooms fs) where
  pub cell_in : (k h c : ℕ) → k < length rooms → h < (room_at rooms k).halves → c < (room_at rooms k).cells → CellIn fs k h c
  cell_in k h c there half below =
      let r = room_is rooms fs k are there in
      let low : c < r.memref.half = subst (λ n. c < n) (sym r.room.half_is) below in
      record {
        memref = r.memref;
        is = r.is;
        there = r.there;
        in_half = low;
        inside = subst (λ n. h * r.memref.half + c < n) (ap (λ n. (room_at rooms k).halves * n) r.room.half_is ∙ sym r.room.cells_are) (in_all h (room_at rooms k).halves r.memref.half c half low);
      }

  pub place_reached : (y : model.Device) (place : Place) → PlaceIn rooms y place → PlaceReached y.state.slow fs place
  place_reached y (Slow place) h = h
  place_reached y (Fast number half cell) h = cell_in number half cell h.0.there h.0.half_there h.1
  place_reached y Outside h = tt

  pub transfer_reached : (y : model.Device) (t : Transfer) → StartIn rooms y t → TransferReached (length y.state.slow) t fs
  transfer_reached y t h = record {
    there = (room_is rooms fs t.fast are h.half.there).there;
    cells = λ c below. cell_in t.fast t.half (t.offset + c) h.half.there h.half.half_there (let i = h.inside in omega (arith, i, below));
    some_chunk = h.some_chunk;
    places = h.places;
    places_fit = h.places_fit;
  }

  -- ---- an allocation

  module _ (after : List FastMemref) (number : ℕ) (element : Element) (sizes : List ℕ) (filler value : ℤ) (room : room_at rooms number ≡ room_of element sizes) (there : number < length rooms) (fills : FillsHalves number value fs after) (is : value ≡ wrapped (element_bits element) filler) where
    fresh_agree : HalvesAgree rooms (put_halves (halves_at fs) number (fresh_half filler element sizes)) (halves_at after)
    fresh_agree k h low half long = by (nat_eq number k) refl
      where
        r : RoomIs rooms fs number
        r = room_is rooms fs number are there

        cells : r.memref.half ≡ half_cells sizes
        cells = r.room.half_is ∙ ap (λ (x : Room). x.cells) room

        inside : (h : ℕ) → h < (room_at rooms number).halves → h * r.memref.half + r.memref.half ≤ length r.memref.cells.items
        inside h l = subst (λ n. h * r.memref.half + r.memref.half ≤ n) (ap (λ n. (room_at rooms number).halves * n) r.room.half_is ∙ sym r.room.cells_are) (half_in_all h (room_at rooms number).halves r.memref.half l)

        by : (t : Bool) → nat_eq number k ≡ t → put_halves (halves_at fs) number (fresh_half filler element sizes) k h ≡ halves_at after k h
        by true t =
            let e : number ≡ k = grind (arith, t) in
            (λ i. put_halves (halves_at fs) number (fresh_half filler element sizes) (sym e i) h) ∙ halves_same (halves_at fs) number h (fresh_half filler element sizes)
            ∙ (λ i. replicate (sym cells i) (sym is i)) ∙ sym (fills.filled r.memref h r.is (inside h (subst (λ k. h < (room_at rooms k).halves) (sym e) half)))
            ∙ (λ i. halves_at after (e i) h)
        by false t = halves_other (halves_at fs) number k h (fresh_half filler element sizes) t ∙ sym (fills.others k h t)

    pub alloc_done : (capacity : ℕ) (y z : model.Device) → y.halves ≡ halves_at fs → z.halves ≡ halves_at after → y.live + bytes_of element sizes ≤ capacity → z ≡ record (allocated filler number element sizes y) { halves = z.halves } → TakesWithin rooms (Ok tt) (prompt_alloc filler capacity number element sizes y) z
    alloc_done capacity y z here new fits rest = subst (λ b. TakesWithin rooms (Ok tt) (if b then End (allocated filler number element sizes y) else Fault Capacity y) z) (sym (le-leb (y.live + bytes_of element sizes) capacity fits))
        (record { rest = rest; halves = subst (λ z. z) (λ i. HalvesAgree rooms (put_halves (sym here i) number (fresh_half filler element sizes)) (sym new i)) fresh_agree })

pub alloc_faults : (rooms : List Room) (filler : ℤ) (capacity number : ℕ) (element : Element) (sizes : List ℕ) (y : model.Device) → capacity < y.live + bytes_of element sizes → TakesWithin rooms (Err Capacity) (prompt_alloc filler capacity number element sizes y) y
alloc_faults rooms filler capacity number element sizes y over = by (nat_le (y.live + bytes_of element sizes) capacity) refl
  where
    by : (t : Bool) → nat_le (y.live + bytes_of element sizes) capacity ≡ t → TakesWithin rooms (Err Capacity) (if t then End (allocated filler number element sizes y) else Fault Capacity y) y
    by true t = let l = leb-true (y.live + bytes_of element sizes) capacity t in absurd (omega (arith, l, over))
    by false t = (refl, record { rest = refl; halves = λ n h a b l. refl })

-- ---- starts and waits

module _ (t : Transfer) (y : model.Device) where
  pub start_tag : is_started y.outstanding t.tag ≡ true → prompt_start t y ≡ Fault Tag y
  start_tag e = ap (λ b. refused b Tag y (refused (is_away y.outstanding t.fast t.half) Touched y (refused (start_races y.outstanding t) Race y (End (started t y))))) e

  pub start_done : (z : model.Device) → is_started y.outstanding t.tag ≡ false → is_away y.outstanding t.fast t.half ≡ false → start_races y.outstanding t ≡ false → z ≡ copied t y → prompt_start t y ≡ End (recorded t z)
  unfolding started
  start_done z a b c e =
      (λ i. refused (a i) Tag y (refused (b i) Touched y (refused (c i) Race y (End (started t y))))) ∙ ap (λ z. End (recorded t z)) (sym e)

same_number : (a b : ℕ) → nat_eq a b ≡ true → a ≡ b
same_number a b h = grind (arith, h)

module _ (ts : List Transfer) (tag count place : ℕ) (x : Transfer) (f : Finds ts tag (Some place)) (at : x ≡ get_or ts place x) (y : model.Device) where
  here : record_of tag ts ≡ Some x
  here = f.2 ∙ slice_get-get_or ts place x f.1 ∙ ap (λ t. Some t) (sym at)

  pub wait_shape : (x.count ≡ count → ⊥) → wait_on (record_of tag ts) tag count y ≡ Fault Shape y
  wait_shape ne = ap (λ o. wait_on o tag count y) here ∙ ap (λ b. if b then End (record y { outstanding = without tag y.outstanding }) else Fault Shape y) (by (nat_eq x.count count) refl)
    where
      by : (t : Bool) → nat_eq x.count count ≡ t → t ≡ false
      by true t = absurd (ne (same_number x.count count t))
      by false t = refl

  pub wait_done : x.count ≡ count → y.outstanding ≡ ts → wait_on (record_of tag ts) tag count y ≡ End (record y { outstanding = remove ts place })
  wait_done e same =
      ap (λ o. wait_on o tag count y) here ∙ ap (λ b. if b then End (record y { outstanding = without tag y.outstanding }) else Fault Shape y) (eq-eqb x.count count e)
      ∙ ap (λ os. End (record y { outstanding = os })) (ap (without tag) same ∙ f.3)

-- ---- lists

pub rooms_long : (rooms : List Room) (fs : List FastMemref) → AreRooms rooms fs → length rooms ≡ length fs
rooms_long [] [] h = refl
rooms_long [] (f ∷ fs) h = absurd h
rooms_long (r ∷ rooms) [] h = absurd h
rooms_long (r ∷ rooms) (f ∷ fs) h = ap suc (rooms_long rooms fs h.1)

pub copied_records : (t : Transfer) (y : model.Device) → (copied t y).outstanding ≡ y.outstanding
copied_records t y = by t.incoming
  where
    by : (b : Bool) → (if b then copied_in t y else copied_out t y).outstanding ≡ y.outstanding
    by true = refl
    by false = refl

-- a list that is written over as a whole
pub written_over : (xs ws : List FastMemref) (n : ℕ) → length xs ≡ n → length ws ≡ n → take n (ws ++ drop (length ws) xs) ≡ ws
written_over xs ws n h k =
    ap (λ l. take n (ws ++ l)) (drop_all (length ws) xs (omega (arith, h, k))) ∙ ap (take n) (append-nil ws) ∙ take_all n ws (omega (arith, k))
