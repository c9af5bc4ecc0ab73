-- Halves made for the rooms of a text are those of the first state.
use Rattle.std.proofs.Common.{◌≡◌, ℕ, ℤ, zero, suc, ◌≤◌, pos, List, [], ◌∷◌, length, replicate, refl, sym, ap, ◌∙◌, subst, arith}
use Rattle.std.specs.Prelude.{Some, slice_get, vec_capacity}
use Rattle.std.proofs.lemmas.List.{length-replicate}
use Rattle.fast_halves.specs.Shape.{HalfShape, HalvesShape, here}
use Rattle.prompt_laws.specs.Rooms.{Room, room_at}
use Rattle.bus_model.specs.Engines.{Flight}
use Rattle.run_parts.specs.Registered.{values_of}
use Rattle.order_meaning.specs.Agree.{TagsApart}
use Rattle.order_meaning.specs.Listed.{IsWaiting}
use Rattle.order_meaning.specs.Machine.{Here, Core, transfers_of}
use Rattle.order_engines.specs.Flying.{flights_of, AllFlyWithin}
use Rattle.order_memory.specs.declared.memory.Memory.{Memory}
use Rattle.order_memory.specs.Tied.{AllHome, Tied, IsFirst}
use Rattle.fast_rooms.specs.Rooms.{HaveRooms}
use Rattle.order_memory.specs.Halves.{memref_at, SameHalf, SameHalves}

-- what stands in a list of equal things
pub in_equals : (n : ℕ) (v : HalfShape) (k : ℕ) (w : HalfShape) → slice_get (replicate n v) k ≡ Some w → v ≡ w
in_equals zero v k w e = absurd (cc)
in_equals (suc n) v zero w e = cc
in_equals (suc n) v (suc k) w e = in_equals n v k w e

as_many : (rooms : List Room) (hs : List HalvesShape) → HaveRooms rooms hs → length hs ≡ length rooms
as_many [] [] a = refl
as_many [] (m ∷ hs) a = absurd a
as_many (r ∷ rooms) [] a = absurd a
as_many (r ∷ rooms) (m ∷ hs) a = ap suc (as_many rooms hs a.1)

cells_at : (rooms : List Room) (hs : List HalvesShape) (n : ℕ) → HaveRooms rooms hs → (memref_at hs n).cells ≡ (room_at rooms n).cells
cells_at [] [] n a = refl
cells_at [] (m ∷ hs) n a = absurd a
cells_at (r ∷ rooms) [] n a = absurd a
cells_at (r ∷ rooms) (m ∷ hs) zero a = a.0.cells_are
cells_at (r ∷ rooms) (m ∷ hs) (suc n) a = cells_at rooms hs n a.1

halves_at : (rooms : List Room) (hs : List HalvesShape) (n : ℕ) → HaveRooms rooms hs
    → (memref_at hs n).halves ≡ replicate (room_at rooms n).halves (here (replicate (room_at rooms n).cells (pos 0)))
halves_at [] [] n a = refl
halves_at [] (m ∷ hs) n a = absurd a
halves_at (r ∷ rooms) [] n a = absurd a
halves_at (r ∷ rooms) (m ∷ hs) zero a = a.0.halves_are
halves_at (r ∷ rooms) (m ∷ hs) (suc n) a = halves_at rooms hs n a.1

-- a half without cells
no_cells : (c : List ℤ) (cells : ℕ) → c ≡ [] → length c ≡ cells → c ≡ replicate cells (pos 0)
no_cells [] zero q e = refl
no_cells [] (suc n) q e = absurd (omega (arith, e))
no_cells (z ∷ c) n q e = absurd (cc)

pub first_halves : (rooms : List Room) (hs : List HalvesShape) → HaveRooms rooms hs → SameHalves rooms (λ number half. Here []) hs
first_halves rooms hs a = record {
  memrefs = as_many rooms hs a;
  cells = λ n. cells_at rooms hs n a;
  many = λ n. ap (λ l. length l) (halves_at rooms hs n a) ∙ length-replicate (room_at rooms n).halves (here (replicate (room_at rooms n).cells (pos 0)));
  same = λ n h v at. subst (λ w. SameHalf (room_at rooms n).cells (Here []) w)
      (in_equals (room_at rooms n).halves (here (replicate (room_at rooms n).cells (pos 0))) h v (sym (ap (λ l. slice_get l h) (halves_at rooms hs n a)) ∙ at))
      (no_cells [] (room_at rooms n).cells refl);
}

no_flight : (f : Flight) (k : ℕ) → slice_get [] k ≡ Some f → ⊥
no_flight f k e = cc

no_tag : (t k : ℕ) → slice_get [] k ≡ Some t → ⊥
no_tag t k e = cc

none_waiting : IsWaiting [] []
none_waiting = record { ascending = tt; members = λ t. ((λ h. absurd h), (λ h. absurd (no_tag t h.0 h.1))) }

-- a memory before the first action
module _ (rooms : List Room) (x : Core) (m : Memory) (slow : List ℤ) (first : IsFirst slow x) (values : values_of m.registers ≡ (λ n. pos 0)) (words : m.slow.items ≡ slow) (are : HaveRooms rooms m.halves.items)
    (records : m.records.items ≡ []) (flying : m.flights.flying.items ≡ []) (waiting : m.flights.waiting.items ≡ []) (live : m.live ≡ 0)
    (room : 65536 ≤ vec_capacity m.flights.flying) (waiting_room : 65537 ≤ vec_capacity m.flights.waiting) (record_room : 65536 ≤ vec_capacity m.records) where
  pub first_tied : Tied rooms x m
  first_tied = record {
    registers = first.registers ∙ sym values;
    slow = first.slow_is ∙ sym words;
    live = first.live ∙ sym live;
    flights = first.flights ∙ ap flights_of (sym flying);
    records = records ∙ ap transfers_of (sym first.flights);
    halves = subst (λ H. SameHalves rooms H m.halves.items) (sym first.halves) (first_halves rooms m.halves.items are);
    home = subst (AllHome rooms) (sym first.flights) tt;
    fly = record {
      waiting = subst (λ z. z) (λ k. IsWaiting (flights_of (sym flying k)) (sym waiting k)) none_waiting;
      apart = subst (λ l. TagsApart (transfers_of (flights_of l))) (sym flying) tt;
      fly = subst (λ l. AllFlyWithin (length m.slow.items) (flights_of l)) (sym flying) (λ k f e. absurd (no_flight f k e));
    };
    room = room;
    waiting_room = waiting_room;
    record_room = record_room;
  }
