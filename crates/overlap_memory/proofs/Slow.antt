-- Loads and stores of slow places.
use Rattle.std.proofs.Common.{◌≡◌, ℕ, ℤ, Bool, true, false, set, sym, ap, ◌∙◌, length-set}
use Rattle.std.specs.Prelude.{Some, Ok, Err, if◌then◌else◌}
use Rattle.bus_model.specs.declared.step.FaultKind.{FaultKind}
use Rattle.bus_model.specs.declared.step.FaultKind.TheVariants.{Race}
use Rattle.bus_model.specs.declared.transfer.Started.{Started}
use Rattle.bus_model.specs.Places.{meets}
use Rattle.bus_model.specs.Copies.{number_at}
use Rattle.bus_model.proofs.Places.{meets_at}
use Rattle.tag_table.specs.Rule.{started_at, ClearOfOut, ClearOfAll}
use Rattle.tag_table.specs.Shapes.{BusShape, with_word}
use Rattle.direct_meaning.specs.Action.{Slow}
use Rattle.direct_meaning.specs.Direct.{Outcome, End, Fault, keep, write}
use Rattle.prompt_semantics.specs.Device.{Device, load_races, store_races, record_of}
use Rattle.prompt_semantics.specs.Prompt.{refused, prompt_store}
use Rattle.overlap_memory.specs.declared.memory.Memory.{Memory}
use Rattle.overlap_memory.specs.Tied.{Tied, FastShape, Follows, Gives}
use Rattle.overlap_memory.proofs.Lists.{both_ways, if_false, record_of_started, any_none}

pub goes_on : (b : Bool) (k : FaultKind) (y : Device) (go : Outcome Device) → b ≡ false → refused b k y go ≡ go
goes_on b k y go e = ap (λ b. refused b k y go) e

pub stops : (b : Bool) (k : FaultKind) (y : Device) (go : Outcome Device) → b ≡ true → refused b k y go ≡ Fault k y
stops b k y go e = ap (λ b. refused b k y go) e

module _ (bus : BusShape) (shape : FastShape) (x : Memory) (y : Device) (a : Tied bus shape x y) where
  pub on_record : (tag : ℕ) (st : Started) → started_at x.seat.tags tag ≡ Some st → record_of tag y.outstanding ≡ Some st.transfer
  on_record tag st h = record_of_started y.halves y.outstanding tag st (sym (a.tags tag) ∙ h)

  pub clear_of_out : (place : ℕ) → load_races x.records.items place ≡ false → ClearOfOut x.seat.tags place
  clear_of_out place none tag e st h out lt q =
      let p = any_none (λ t. if t.incoming then false else meets t place) y.outstanding tag st.transfer (sym (ap (λ ts. load_races ts place) a.records) ∙ none) (on_record tag st h) in
      both_ways (meets st.transfer place) (meets_at st.transfer place e lt q) (sym (if_false st.transfer.incoming false (meets st.transfer place) out) ∙ p)

  pub clear_of_all : (place : ℕ) → store_races x.records.items place ≡ false → ClearOfAll x.seat.tags place
  clear_of_all place none tag e st h lt q =
      let p = any_none (λ t. meets t place) y.outstanding tag st.transfer (sym (ap (λ ts. store_races ts place) a.records) ∙ none) (on_record tag st h) in
      both_ways (meets st.transfer place) (meets_at st.transfer place e lt q) p

  pub load_faults : (place : ℕ) → load_races x.records.items place ≡ true → Gives (Err Race) (Slow place) y
  load_faults place races r = stops (load_races y.outstanding place) Race y _ (sym (ap (λ ts. load_races ts place) a.records) ∙ races)

  pub load_gives : (place : ℕ) (z : ℤ) → load_races x.records.items place ≡ false → z ≡ number_at x.seat.prompt place → Gives (Ok z) (Slow place) y
  load_gives place z none is r =
      goes_on (load_races y.outstanding place) Race y _ (sym (ap (λ ts. load_races ts place) a.records) ∙ none)
      ∙ ap (λ z. End (record y { state = keep r z y.state })) (sym (is ∙ ap (λ l. number_at l place) a.slow))

  pub store_faults : (place : ℕ) (z : ℤ) → store_races x.records.items place ≡ true → Follows bus shape (Err Race) (prompt_store z (Slow place) y) x
  store_faults place z races = (y, stops (store_races y.outstanding place) Race y _ (sym (ap (λ ts. store_races ts place) a.records) ∙ races), a)

  pub store_follows : (place : ℕ) (z : ℤ) → store_races x.records.items place ≡ false → Follows bus shape (Ok tt) (prompt_store z (Slow place) y) (record x { seat = with_word x.seat place z })
  store_follows place z none = (
    record y { state = write place z y.state },
    goes_on (store_races y.outstanding place) Race y _ (sym (ap (λ ts. store_races ts place) a.records) ∙ none),
    record {
      seat = a.seat;
      helper = a.helper;
      tagged = a.tagged;
      small = a.small;
      sized = a.sized ∙ sym (length-set x.seat.prompt place z);
      slow = ap (λ l. set l place z) a.slow;
      records = a.records;
      tags = a.tags;
      tags_apart = a.tags_apart;
      placed = a.placed;
      memrefs = a.memrefs;
      cells = a.cells;
      halves = a.halves;
      here = a.here;
      away = a.away;
      allocated = a.allocated;
      rooms = a.rooms;
      live = a.live;
      counted = a.counted;
      room = a.room;
    },
  )
