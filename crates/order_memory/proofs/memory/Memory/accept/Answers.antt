use Rattle.std.proofs.Common.{◌≡◌, ◌∙◌, sym, ap, subst, refl, true, arith}
use Rattle.std.specs.Prelude.{slice_get}
use Rattle.fast_halves.specs.Shape.{HalvesShape, IsAway}
use Rattle.bus_model.specs.Engines.{Flight, flight_of}
use Rattle.order_meaning.specs.Machine.{is_finished}
use Rattle.order_meaning.proofs.Flights.{none_some, same_some}
use Rattle.order_engines.specs.Flying.{flight}
use Rattle.order_memory.specs.Reaches.{IsOut}
use Rattle.order_memory.proofs.Changed.{memref_is, changed_is}
use Rattle.order_memory.proofs.Waits.{accept_there, accept_long, accept_away, accepts, accepts_known}
use Rattle.order_memory.proofs.memory.Memory.accept.Goals as goal

pub collect-requires-clause-kept : goal.collect-requires-clause-kept
collect-requires-clause-kept c = (_, c.requires.tied.3.fly)

pub collect-requires-clause-finished : goal.collect-requires-clause-finished
collect-requires-clause-finished c = λ f e.
    (let y = c.requires.tied in
    let same = same_some y.2 f (sym y.4 ∙ ap (λ fs. flight_of fs c.args.tag) y.3.flights ∙ e) in
    subst (λ f. is_finished f ≡ true) same y.5)

pub unreachable-requires : goal.unreachable-requires
unreachable-requires c = let y = c.requires.tied in none_some _ y.2 c.in_default.ensures.collected.0 (ap (λ fs. flight_of fs c.args.tag) (sym y.3.flights) ∙ y.4)

pub index_mut-requires : goal.index_mut-requires
index_mut-requires c =
    let y = c.requires.tied in
    let f = flight c.in-Some.flying in
    let found = ap (λ fs. flight_of fs c.args.tag) y.3.flights ∙ c.in-Some.ensures.collected.0 in
    let out = subst (λ (g : Flight). IsOut (y.1.halves g.transfer.fast g.transfer.half)) (same_some y.2 f (sym y.4 ∙ found)) y.6 in
    let l = accept_there y.0 y.1 _ y.3 c.args.tag f found out in grind (arith, l)

pub accept-requires-clause-away : goal.accept-requires-clause-away
accept-requires-clause-away c =
    let y = c.requires.tied in
    let f = flight c.in-Some.flying in
    let found = ap (λ fs. flight_of fs c.args.tag) y.3.flights ∙ c.in-Some.ensures.collected.0 in
    let out = subst (λ (g : Flight). IsOut (y.1.halves g.transfer.fast g.transfer.half)) (same_some y.2 f (sym y.4 ∙ found)) y.6 in
    let m = memref_is _ _ _ (accept_there y.0 y.1 _ y.3 c.args.tag f found out) c.index_mut.ensures.value in
    subst IsAway (sym (ap (λ (m : HalvesShape). slice_get m.halves f.transfer.half) m)) (accept_away y.0 y.1 _ y.3 c.args.tag f found out)

pub accept-requires-clause-length : goal.accept-requires-clause-length
accept-requires-clause-length c =
    let y = c.requires.tied in
    let f = flight c.in-Some.flying in
    let found = ap (λ fs. flight_of fs c.args.tag) y.3.flights ∙ c.in-Some.ensures.collected.0 in
    let out = subst (λ (g : Flight). IsOut (y.1.halves g.transfer.fast g.transfer.half)) (same_some y.2 f (sym y.4 ∙ found)) y.6 in
    let m = memref_is _ _ _ (accept_there y.0 y.1 _ y.3 c.args.tag f found out) c.index_mut.ensures.value in
    accept_long y.0 y.1 _ y.3 c.args.tag f found out ∙ sym (ap (λ (m : HalvesShape). m.cells) m)

pub returns-clause-tied : goal.returns-clause-tied
returns-clause-tied c = λ rooms x g t here away.
    (let f = flight c.in-Some.flying in
    let found = ap (λ fs. flight_of fs c.args.tag) t.flights ∙ c.in-Some.ensures.collected.0 in
    let same = same_some g f (sym here ∙ found) in
    let out = subst (λ (g : Flight). IsOut (x.halves g.transfer.fast g.transfer.half)) same away in
    let there = accept_there rooms x _ t c.args.tag f found out in
    let m = memref_is _ _ _ there c.index_mut.ensures.value in
    accepts_known rooms x _ t c.args.tag f found out g same _
    (accepts rooms x _ t c.args.tag f found out _ refl refl refl (c.remove.ensures.items ∙ sym c.requires.left) c.in-Some.ensures.collected.1
    (changed_is _ f.transfer.fast f.transfer.half _ there _ _ m (ap (λ (m : HalvesShape). m.cells) c.accept.ensures) (ap (λ (m : HalvesShape). m.halves) c.accept.ensures))
    c.collect.ensures.kept c.collect.ensures.room c.collect.ensures.waiting c.remove.ensures.capacity))
