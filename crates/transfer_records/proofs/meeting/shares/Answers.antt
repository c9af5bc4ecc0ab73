use Rattle.std.proofs.Common.{◌∙◌, sym, ap}
use Rattle.bus_model.specs.Places.{slow_place, meets}
use Rattle.transfer_records.proofs.Found.{overlap_next}
use Rattle.transfer_records.proofs.meeting.shares.Goals as goal

pub loop-element-preserved : goal.loop-element-preserved
loop-element-preserved c = overlap_next (meets c.args.other.now) (slow_place c.args.one.now) c.loop-element.element c.args.one.now.count _ c.loop-element-test.true (ap (meets c.args.other.now) (sym c.slow.ensures) ∙ sym c.has_place.ensures ∙ c.if-has_place.false) c.loop-element.invariant
