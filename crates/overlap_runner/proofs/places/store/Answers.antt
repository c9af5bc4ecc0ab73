use Rattle.std.proofs.Common.{rules, w64, refl, sym, subst}
use Rattle.std.proofs.lemmas.Int.{to_z-of_z}
use Rattle.direct_meaning.specs.Action.{Slow, Fast}
use Rattle.std.specs.Prelude.{Err}
use Rattle.bus_model.specs.declared.step.FaultKind.TheVariants.{Bounds}
use Rattle.prompt_semantics.specs.Prompt.{prompt_store}
use Rattle.walk_actions.specs.Meant.{place_meant}
use Rattle.overlap_memory.specs.Tied.{Follows}
use Rattle.overlap_runner.specs.Held.{PlaceReached}
use Rattle.overlap_runner.proofs.Ties.{slow_reached, fast_reached, fast_has}
use Rattle.overlap_runner.proofs.places.store.Goals as goal

pub store_slow-requires-clause-tied : goal.store_slow-requires-clause-tied
store_slow-requires-clause-tied c = let r = c.requires.reached in (r.1, r.2, r.3.tied)

pub store_slow-requires-clause-place : goal.store_slow-requires-clause-place
store_slow-requires-clause-place c =
    let r = c.requires.reached in
    slow_reached c.args.bus.now r.0 r.1 c.args.memory.now r.2 c.in-Slow.place
    (subst (λ p. PlaceReached c.args.bus.now r.0 r.1 c.args.memory.now r.2 (place_meant p)) c.in-Slow.is r.3)

pub store_fast-requires-clause-tied : goal.store_fast-requires-clause-tied
store_fast-requires-clause-tied c = let r = c.requires.reached in (r.1, r.2, r.3.tied)

pub store_fast-requires-clause-place : goal.store_fast-requires-clause-place
store_fast-requires-clause-place c =
    let r = c.requires.reached in
    fast_reached c.args.bus.now r.0 r.1 c.args.memory.now r.2 c.in-Fast.number c.in-Fast.half c.in-Fast.cell
    (subst (λ p. PlaceReached c.args.bus.now r.0 r.1 c.args.memory.now r.2 (place_meant p)) c.in-Fast.is r.3)

pub returns-in-Slow : goal.returns-in-Slow
returns-in-Slow c = record {
  follows = λ rooms shape y r.
      subst (λ p. Follows c.args.bus.now shape c.store_slow.result (prompt_store c.args.value (place_meant p) y) c.store_slow.new.self) (sym c.in-Slow.is) (subst (λ v. Follows c.args.bus.now shape c.store_slow.result (prompt_store v (Slow c.in-Slow.place) y) c.store_slow.new.self) (to_z-of_z w64 c.args.value (search rules)) (c.store_slow.ensures.follows shape y r.tied));
}

pub returns-in-Fast : goal.returns-in-Fast
returns-in-Fast c = record {
  follows = λ rooms shape y r.
      (let here = subst (λ p. PlaceReached c.args.bus.now rooms shape c.args.memory.now y (place_meant p)) c.in-Fast.is r in
      subst (λ p. Follows c.args.bus.now shape c.store_fast.result (prompt_store c.args.value (place_meant p) y) c.store_fast.new.self) (sym c.in-Fast.is)
      (subst (λ v. Follows c.args.bus.now shape c.store_fast.result (prompt_store v (Fast c.in-Fast.number c.in-Fast.half c.in-Fast.cell) y) c.store_fast.new.self) (to_z-of_z w64 c.args.value (search rules))
      (c.store_fast.ensures.follows shape y r.tied (fast_has c.args.bus.now rooms shape c.args.memory.now y c.in-Fast.number c.in-Fast.half c.in-Fast.cell here))));
}

pub returns-in-Outside : goal.returns-in-Outside
returns-in-Outside c = record {
  follows = λ rooms shape y r.
      subst (λ p. Follows c.args.bus.now shape (Err Bounds) (prompt_store c.args.value (place_meant p) y) c.args.memory.now) (sym c.in-Outside.is) (y, refl, r.tied);
}
