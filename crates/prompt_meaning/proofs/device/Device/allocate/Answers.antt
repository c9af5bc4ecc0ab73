use Rattle.std.proofs.Common.{◌≡◌, ◌∙◌, ◌+◌, ◌<◌, ◌≤◌, max, ap, sym, refl, subst, length, arith, rules, w64, SFits, of_z, to_z}
use Rattle.std.proofs.lemmas.Int.{to_z-of_z}
use Rattle.affine_ast.specs.Sizes.{element_bits}
use Rattle.int_ops.specs.Wrapped.{wrapped}
use Rattle.prompt_semantics.specs.Device.{bytes_of}
use Rattle.prompt_meaning.specs.Held.{device_at}
use Rattle.std.specs.Vec.{with_items}
use Rattle.prompt_meaning.specs.Memrefs.{halves_at, FillsHalves, AreRooms}
use Rattle.prompt_meaning.proofs.Starting.{room_is, rooms_long, written_over, alloc_done}
use Rattle.prompt_meaning.proofs.device.Device.allocate.Goals as goal

pub fill_all-requires : goal.fill_all-requires
fill_all-requires c =
    subst (λ l. c.args.number < length l) (sym c.as_mut_slice.ensures.value)
    (room_is c.requires.reached.rooms c.args.self.now.fasts.items c.args.number c.requires.reached.are c.requires.reached.reaches.there).there

pub returns-clause-takes : goal.returns-clause-takes
returns-clause-takes c = λ rooms are room.
    (let d = c.args.self.now in
    let r = room_is c.requires.reached.rooms d.fasts.items c.args.number c.requires.reached.are c.requires.reached.reaches.there in
    let long = rooms_long rooms d.fasts.items are in
    let low = r.there in
    let there : c.args.number < length rooms = omega (arith, long, low) in
    let bytes = c.bytes_of-bytes.ensures.bytes in
    let over = c.if-bytes-self.false in
    let live = c.requires.reached.live in
    let fits : d.live + bytes_of c.args.element c.args.sizes.now ≤ d.capacity = omega (arith, bytes, over, live) in
    let wide : SFits w64 c.wrap-value.result = search rules in
    let filled : SFits w64 d.filler = search rules in
    let value = to_z w64 (of_z w64 c.wrap-value.result) in
    let after = c.fill_all.new.fasts in
    let more = rooms_long rooms after (c.fill_all.ensures.rooms rooms (subst (AreRooms rooms) (sym c.as_mut_slice.ensures.value) are)) in
    let old = d.fasts.ok.0 in
    let as_long : length after ≡ d.fasts.len = omega (arith, long, more, old) in
    let new : (with_items d.fasts after).items ≡ after = written_over d.fasts.items after d.fasts.len (sym old) as_long in
    alloc_done rooms d.fasts.items are after c.args.number c.args.element c.args.sizes.now d.filler value room there
    (subst (λ l. FillsHalves c.args.number value l after) c.as_mut_slice.ensures.value c.fill_all.ensures.filled)
    (to_z-of_z w64 c.wrap-value.result wide ∙ c.wrap-value.ensures ∙ ap (wrapped (element_bits c.args.element)) (to_z-of_z w64 d.filler filled))
    d.capacity (device_at d) (record (device_at d) { halves = halves_at (with_items d.fasts after).items; live = d.live + c.bytes_of-bytes.result; peak = c.max-self.result }) refl (ap halves_at new) fits
    (λ i. record (device_at d) { halves = halves_at (with_items d.fasts after).items; live = d.live + bytes i; peak = (c.max-self.ensures ∙ ap (λ b. max d.peak (d.live + b)) bytes) i }))
