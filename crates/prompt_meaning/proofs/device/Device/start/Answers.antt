use Rattle.std.proofs.Common.{◌≡◌, ◌∙◌, ap, sym, subst, length, false, arith, ◌+◌}
use Rattle.std.specs.List.{All}
use Rattle.direct_meaning.specs.Direct.{End}
use Rattle.prompt_semantics.specs.Device as model
use Rattle.prompt_semantics.specs.Device.{is_away, is_started, start_races}
use Rattle.prompt_meaning.specs.Held.{device_at}
use Rattle.transfer_records.specs.Found.{HasPlaces}
use Rattle.fast_rooms.proofs.Flights.{all_have_places, room_for}
use Rattle.prompt_meaning.proofs.Starting.{transfer_reached, start_done, copied_records}
use Rattle.prompt_meaning.proofs.device.Device.start.Goals as goal

pub start_races-requires-clause-outstanding : goal.start_races-requires-clause-outstanding
start_races-requires-clause-outstanding c = subst (All HasPlaces) (sym c.as_slice-3.ensures.value) (all_have_places (length c.args.self.now.slow.items) _ c.requires.reached.flights)

pub start_races-requires-clause-start : goal.start_races-requires-clause-start
start_races-requires-clause-start c = let r = c.requires.reached.reaches in record { some_chunk = r.some_chunk; fit = λ e below. (let k = r.places_fit e below in omega (arith, k)) }

pub copy-requires : goal.copy-requires
copy-requires c = transfer_reached c.requires.reached.rooms c.args.self.now.fasts.items c.requires.reached.are (device_at c.args.self.now) c.args.transfer c.requires.reached.reaches

pub push_reserved-requires : goal.push_reserved-requires
push_reserved-requires c =
    let t = c.args.transfer in
    let idle : is_started c.args.self.now.outstanding.items t.tag ≡ false = subst (λ ts. is_started ts t.tag ≡ false) c.as_slice.ensures.value c.in_default.ensures.0 in
    let room = room_for (length c.args.self.now.slow.items) c.args.self.now.outstanding.items t c.requires.reached.flights idle c.requires.reached.reaches.tag_fits in
    let kept = ap (λ (y : model.Device). length y.outstanding) c.copy.ensures.copied ∙ ap length (copied_records t (device_at c.args.self.now)) in
    let many = c.copy.new.self.outstanding.ok.0 in
    let same = c.copy.ensures.same.records in
    let all = c.requires.reached.records in
    omega (arith, room, kept, many, same, all)

pub returns-clause-takes : goal.returns-clause-takes
returns-clause-takes c =
    let t = c.args.transfer in
    let idle : is_started c.args.self.now.outstanding.items t.tag ≡ false = subst (λ ts. is_started ts t.tag ≡ false) c.as_slice.ensures.value c.in_default.ensures.0 in
    let here : is_away c.args.self.now.outstanding.items t.fast t.half ≡ false = ap (λ ts. is_away ts t.fast t.half) (sym c.as_slice-2.ensures.value) ∙ sym c.is_away.ensures ∙ c.if-is_away.false in
    let free : start_races c.args.self.now.outstanding.items t ≡ false = ap (λ ts. start_races ts t) (sym c.as_slice-3.ensures.value) ∙ sym c.start_races.ensures ∙ c.if-start_races.false in
    start_done t (device_at c.args.self.now) (device_at c.copy.new.self) idle here free c.copy.ensures.copied
    ∙ ap (λ os. End (record (device_at c.copy.new.self) { outstanding = os; engine_steps = c.copy.new.self.engine_steps + (t.count + 2) })) (sym c.push_reserved.ensures.items)
