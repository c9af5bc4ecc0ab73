use Rattle.std.proofs.Common.{sym, subst}
use Rattle.walk_actions.specs.Meant.{place_meant}
use Rattle.overlap_memory.specs.Tied.{Gives}
use Rattle.overlap_runner.specs.Held.{PlaceReached}
use Rattle.overlap_runner.proofs.Ties.{slow_reached, fast_reached, fast_has}
use Rattle.overlap_runner.proofs.places.load.Goals as goal

pub load_slow-requires-clause-tied : goal.load_slow-requires-clause-tied
load_slow-requires-clause-tied c = let r = c.requires.reached in (r.1, r.2, r.3.tied)

pub load_slow-requires-clause-place : goal.load_slow-requires-clause-place
load_slow-requires-clause-place c =
    let r = c.requires.reached in
    slow_reached c.args.bus.now r.0 r.1 c.args.memory.now r.2 c.in-Slow.place
    (subst (λ p. PlaceReached c.args.bus.now r.0 r.1 c.args.memory.now r.2 (place_meant p)) c.in-Slow.is r.3)

pub load_fast-requires-clause-tied : goal.load_fast-requires-clause-tied
load_fast-requires-clause-tied c = let r = c.requires.reached in (r.1, r.2, r.3.tied)

pub load_fast-requires-clause-place : goal.load_fast-requires-clause-place
load_fast-requires-clause-place c =
    let r = c.requires.reached in
    fast_reached c.args.bus.now r.0 r.1 c.args.memory.now r.2 c.in-Fast.number c.in-Fast.half c.in-Fast.cell
    (subst (λ p. PlaceReached c.args.bus.now r.0 r.1 c.args.memory.now r.2 (place_meant p)) c.in-Fast.is r.3)

pub returns-in-Slow-clause-gives : goal.returns-in-Slow-clause-gives
returns-in-Slow-clause-gives c = λ rooms shape y r.
    subst (λ p. Gives c.load_slow.result (place_meant p) y) (sym c.in-Slow.is) (c.load_slow.ensures.gives shape y r.tied)

pub returns-in-Fast-clause-gives : goal.returns-in-Fast-clause-gives
returns-in-Fast-clause-gives c = λ rooms shape y r.
    (let here = subst (λ p. PlaceReached c.args.bus.now rooms shape c.args.memory.now y (place_meant p)) c.in-Fast.is r in
    subst (λ p. Gives c.load_fast.result (place_meant p) y) (sym c.in-Fast.is)
    (c.load_fast.ensures.gives shape y r.tied (fast_has c.args.bus.now rooms shape c.args.memory.now y c.in-Fast.number c.in-Fast.half c.in-Fast.cell here)))
