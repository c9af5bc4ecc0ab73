-- An action with its operands read.
use Rattle.std.proofs.Common.{◌≡◌, ℕ, ℤ, ◌<◌, ◌≤◌, List, length, sym, ap, ◌∙◌, subst, arith}
use Rattle.std.specs.Prelude.{vec_capacity}
use Rattle.affine_ast.specs.declared.name.Name.{Name}
use Rattle.affine_ast.specs.Names.{put}
use Rattle.direct_meaning.specs.Action.{Place, Slow, Fast, Outside}
use Rattle.direct_meaning.specs.Direct.{keep}
use Rattle.run_parts.specs.Registered.{values_of}
use Rattle.prompt_laws.specs.Reaches.{FlightsFit}
use Rattle.prompt_laws.specs.Rooms.{Room}
use Rattle.order_meaning.specs.Machine.{Core, transfers_of}
use Rattle.order_engines.specs.declared.flights.Flights.{Flights}
use Rattle.order_engines.specs.Flying.{flights_of}
use Rattle.order_engines.specs.Waiting.{IsFlights}
use Rattle.order_memory.specs.declared.memory.Memory.{Memory}
use Rattle.order_memory.specs.Halves.{SameHalves}
use Rattle.order_memory.specs.Tied.{Tied}
use Rattle.order_memory.specs.Reaches.{PlaceIn, PlaceThere}

module _ (rooms : List Room) (x : Core) (m : Memory) (t : Tied rooms x m) where
  pub number_there : (number : ℕ) → number < length rooms → number < length m.halves.items
  number_there number l = let e = t.halves.memrefs in omega (arith, e, l)

  pub place_there : (place : Place) → PlaceIn rooms x place → PlaceThere m.slow.items m.halves.items place
  place_there (Slow place) h = subst (λ (l : List ℤ). place < length l) t.slow h
  place_there (Fast number half cell) h = record {
    there = number_there number h.0.there;
    half_there = let e = t.halves.many number in let l = h.0.half_there in omega (arith, e, l);
    cell_there = let e = t.halves.cells number in let l = h.1 in omega (arith, e, l);
  }
  place_there Outside h = tt

  pub records_fit : FlightsFit (length x.state.slow) (transfers_of x.flights) → (size : ℕ) × FlightsFit size m.records.items
  records_fit h = (length x.state.slow, subst (FlightsFit (length x.state.slow)) (sym t.records) h)

  -- a name's new value
  pub kept : (r : Name) (z : ℤ) (m' : Memory) → values_of m'.registers ≡ put (values_of m.registers) r z → m'.slow ≡ m.slow → m'.halves ≡ m.halves → m'.records ≡ m.records → m'.flights ≡ m.flights → m'.live ≡ m.live
      → Tied rooms (record x { state = keep r z x.state }) m'
  kept r z m' registers slow halves records flights live = record {
    registers = ap (λ v. put v r z) t.registers ∙ sym registers;
    slow = t.slow ∙ ap (λ l. l.items) (sym slow);
    live = t.live ∙ sym live;
    flights = t.flights ∙ ap (λ (fs : Flights). flights_of fs.flying.items) (sym flights);
    records = ap (λ rs. rs.items) records ∙ t.records;
    halves = subst (λ hs. SameHalves rooms x.halves hs.items) (sym halves) t.halves;
    home = t.home;
    fly = subst (λ z. z) (λ k. IsFlights (length (sym slow k).items) (sym flights k)) t.fly;
    room = subst (λ (fs : Flights). 65536 ≤ vec_capacity fs.flying) (sym flights) t.room;
    waiting_room = subst (λ (fs : Flights). 65537 ≤ vec_capacity fs.waiting) (sym flights) t.waiting_room;
    record_room = subst (λ rs. 65536 ≤ vec_capacity rs) (sym records) t.record_room;
  }

  -- other registers that hold the same
  pub same_registers : (m' : Memory) → values_of m'.registers ≡ values_of m.registers → m'.slow ≡ m.slow → m'.halves ≡ m.halves → m'.records ≡ m.records → m'.flights ≡ m.flights → m'.live ≡ m.live → Tied rooms x m'
  same_registers m' registers slow halves records flights live = record {
    registers = t.registers ∙ sym registers;
    slow = t.slow ∙ ap (λ l. l.items) (sym slow);
    live = t.live ∙ sym live;
    flights = t.flights ∙ ap (λ (fs : Flights). flights_of fs.flying.items) (sym flights);
    records = ap (λ rs. rs.items) records ∙ t.records;
    halves = subst (λ hs. SameHalves rooms x.halves hs.items) (sym halves) t.halves;
    home = t.home;
    fly = subst (λ z. z) (λ k. IsFlights (length (sym slow k).items) (sym flights k)) t.fly;
    room = subst (λ (fs : Flights). 65536 ≤ vec_capacity fs.flying) (sym flights) t.room;
    waiting_room = subst (λ (fs : Flights). 65537 ≤ vec_capacity fs.waiting) (sym flights) t.waiting_room;
    record_room = subst (λ rs. 65536 ≤ vec_capacity rs) (sym records) t.record_room;
  }
