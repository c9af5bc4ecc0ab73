use Rattle.std.proofs.Common.{◌≡◌, ◌-◌, map}
use Rattle.std.specs.List.{list_any, range_with_len}
use Rattle.bus_model.specs.Places.{slow_place, meets}
use Rattle.direct_meaning.specs.Transfers.{overlap}
use Rattle.transfer_records.proofs.meeting.shares.Given as goal

-- what is left of the elements tells it
abbrev pub invariant-loop-element : goal.invariant-loop-element
invariant-loop-element l = overlap l.one l.other ≡ list_any (meets l.other) (map (slow_place l.one) (range_with_len l.element (l.one.count - l.element)))
