use Rattle.std.proofs.Common.{rules, ◌-◌, length, take, drop, get_or, refl, sym, ap, ◌∙◌, arith}
use Rattle.std.proofs.lemmas.Bool.{eqb-true, eqb-false}
use Rattle.std.proofs.lemmas.Int.{to_z-of_z}
use mir.Val.{SFits}
use mir.Syntax.{w64}
use Rattle.std.specs.Int.{int_max}
use Rattle.direct_meaning.specs.Static.{greatest}
use Rattle.walk_actions.specs.Looked.{env_of}
use Rattle.walk_actions.specs.Values.{value_in, use_of}
use Rattle.walk_actions.proofs.Values.{room_is, room_stays, result_at, rest_at, no_results, rest_is, best_more, best_all}
use Rattle.walk_actions.proofs.environment.Environment.greatest.Goals as goal

pub returns-then-is_empty-clause-value : goal.returns-then-is_empty-clause-value
returns-then-is_empty-clause-value c =
    sym (ap greatest (no_results (env_of c.args.self.now) (use_of c.args.self.now c.args.at.now) (sym (ap length c.as_slice-results.ensures) ∙ eqb-true _ _ (sym c.is_empty.ensures ∙ c.if-is_empty.true))))

pub value-greatest-requires-clause-safe : goal.value-greatest-requires-clause-safe
value-greatest-requires-clause-safe c =
    let some = eqb-false _ _ (sym c.is_empty.ensures ∙ c.if-is_empty.false) in
    result_at c.args.self.now c.args.at.now 0 c.index-results-0.result c.requires.safe (omega (arith, some, ap length c.as_slice-results.ensures)) (c.index-results-0.is ∙ ap (λ xs. get_or xs 0 c.index-results-0.result) c.as_slice-results.ensures)

pub value-requires-clause-room : goal.value-requires-clause-room
value-requires-clause-room c =
    room_stays c.args.self.now _ _ c.args.at.now (room_is c.args.self.now _ c.args.at.now c.requires.operands c.requires.safe) c.loop-expr.invariant.capacity

pub value-requires-clause-safe : goal.value-requires-clause-safe
value-requires-clause-safe c =
    rest_at c.args.self.now c.args.at.now _ c.loop-expr.expr-index c.expr-item.result c.requires.safe (rest_is c.args.at.now.map.results c.as_slice-results.result.now _ c.as_slice-results.ensures refl) (omega arith) c.expr-item.is

pub loop-expr-preserved : goal.loop-expr-preserved
loop-expr-preserved c =
    let f : SFits w64 c.value-greatest.result = search rules in
    let g : SFits w64 c.value.result = search rules in
    let h : SFits w64 c.max-greatest.result = search rules in
    let best = (simp to_z-of_z at c.loop-expr.invariant.best) in
    let more = (simp to_z-of_z at c.max-greatest.ensures.value) in
    record {
      best = simp to_z-of_z (more ∙ (λ i. int_max (best i) (c.value.ensures.value i)) ∙ best_more int_max c.value-greatest.result (value_in (env_of c.args.self.now) (use_of c.args.self.now c.args.at.now)) _ c.loop-expr.expr-index c.expr-item.result (omega arith) c.expr-item.is);
      capacity = c.value.ensures.capacity ∙ c.loop-expr.invariant.capacity;
    }

pub returns-clause-value : goal.returns-clause-value
returns-clause-value c =
    let f : SFits w64 c.value-greatest.result = search rules in
    let best = (simp to_z-of_z at c.loop-expr.invariant.best) in
    let some = eqb-false _ _ (sym c.is_empty.ensures ∙ c.if-is_empty.false) in
    best_all int_max (env_of c.args.self.now) (use_of c.args.self.now c.args.at.now) c.index-results-0.result (take (length c.as_slice-results.result.now - 1) (drop 1 c.as_slice-results.result.now)) c.loop-expr.expr-index _ c.value-greatest.result
    (omega (arith, some, ap length c.as_slice-results.ensures)) (c.index-results-0.is ∙ ap (λ xs. get_or xs 0 c.index-results-0.result) c.as_slice-results.ensures)
    (rest_is c.args.at.now.map.results c.as_slice-results.result.now _ c.as_slice-results.ensures refl) (omega arith) c.value-greatest.ensures.value best greatest (λ y ys. refl)
