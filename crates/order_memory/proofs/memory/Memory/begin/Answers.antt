use Rattle.std.proofs.Common.{◌∙◌, sym, ap, arith, refl}
use Rattle.std.specs.Prelude.{slice_get}
use Rattle.fast_halves.specs.Shape.{HalvesShape}
use Rattle.order_memory.proofs.Changed.{memref_is, changed_is}
use Rattle.order_memory.proofs.Starts.{start_there, no_flight, start_room, start_flying_room, few_tags, begins, not_both}
use Rattle.order_memory.proofs.memory.Memory.begin.Goals as goal

pub index_mut-requires : goal.index_mut-requires
index_mut-requires c = let y = c.requires.tied in let l = start_there y.0 y.1 _ y.2 c.args.transfer y.3 in grind (arith, l)

pub unreachable-requires : goal.unreachable-requires
unreachable-requires c =
    let y = c.requires.tied in
    let m = memref_is _ _ _ (start_there y.0 y.1 _ y.2 c.args.transfer y.3) c.index_mut.ensures.value in
    not_both _ c.requires.here.0 c.in_default.field-0.tag c.requires.here.1 (ap (λ (m : HalvesShape). slice_get m.halves c.args.transfer.half) (sym m) ∙ c.in_default.ensures.halves.0)

pub push_reserved-requires : goal.push_reserved-requires
push_reserved-requires c = let y = c.requires.tied in omega (arith, start_room y.0 y.1 _ y.2 c.args.transfer y.3 c.requires.idle y.4, y.2.record_room, c.args.self.now.records.ok.0)

pub start-requires-clause-kept : goal.start-requires-clause-kept
start-requires-clause-kept c = (_, c.requires.tied.2.fly)

pub start-requires-clause-idle : goal.start-requires-clause-idle
start-requires-clause-idle c = let y = c.requires.tied in no_flight y.0 y.1 _ y.2 c.args.transfer y.3 c.requires.idle

pub start-requires-clause-room : goal.start-requires-clause-room
start-requires-clause-room c = let y = c.requires.tied in omega (arith, start_flying_room y.0 y.1 _ y.2 c.args.transfer y.3 c.requires.idle y.4, y.2.room)

pub start-requires-clause-waiting_room : goal.start-requires-clause-waiting_room
start-requires-clause-waiting_room c = let y = c.requires.tied in omega (arith, few_tags y.0 y.1 _ y.2 y.4, y.2.waiting_room)

pub returns-clause-follows : goal.returns-clause-follows
returns-clause-follows c = λ rooms x t can.
    (let m = memref_is _ _ _ (start_there rooms x _ t c.args.transfer can) c.index_mut.ensures.value in
    let lent = c.in-Ok.ensures.halves in
    begins rooms x _ t c.args.transfer can c.requires.idle c.requires.free c.in-Ok.cells.items
    (ap (λ (m : HalvesShape). slice_get m.halves c.args.transfer.half) (sym m) ∙ lent.0) (lent.1 ∙ ap (λ (m : HalvesShape). m.cells) m) _ refl refl refl
    c.push_reserved.ensures.items c.start.ensures.flights (changed_is _ c.args.transfer.fast c.args.transfer.half _ (start_there rooms x _ t c.args.transfer can) _ _ m c.lend.ensures.cells lent.2)
    c.start.ensures.kept c.start.ensures.room c.start.ensures.waiting_room c.push_reserved.ensures.capacity)
