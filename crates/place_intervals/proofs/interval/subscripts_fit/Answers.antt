use Rattle.std.proofs.Common.{rules, arith, ◌≡◌, get_or, length, true, false, ◌&&◌, ◌+◌, ◌<◌, pos, ◌-ℤ◌, drop, ap, sym, ◌∙◌}
use Rattle.affine_expr.specs.declared.map.Interval.{Interval}
use Rattle.affine_expr.specs.Bounded.{ranges}
use Rattle.place_intervals.specs.Places.{fits, subscripts_fit}
use Rattle.place_intervals.proofs.FitLoops.{subscripts_turn, same_at}
use Rattle.place_intervals.proofs.interval.subscripts_fit.Goals as goal

pub returns-then-not-subscript_fits : goal.returns-then-not-subscript_fits
returns-then-not-subscript_fits c =
    let k = c.loop-number.number in
    let e : Interval = get_or c.args.subscripts.now k (record { least = pos 0; greatest = pos 0 }) in
    let r : Interval = get_or c.args.places.now k (record { least = pos 0; greatest = pos 0 }) in
    let rest = subscripts_fit (ranges (drop (k + 1) c.args.subscripts.now)) (ranges (drop (k + 1) c.args.places.now)) in
    let a : k < length c.args.subscripts.now = omega arith in
    let b : k < length c.args.places.now = omega arith in
    let f : fits (e.least -ℤ r.greatest) (e.greatest -ℤ r.least) ≡ false = search rules in
    sym (c.loop-number.invariant ∙ subscripts_turn c.args.subscripts.now c.args.places.now k e r a b (same_at c.args.subscripts.now k (record { least = pos 0; greatest = pos 0 }) e a) (same_at c.args.places.now k (record { least = pos 0; greatest = pos 0 }) r b) ∙ ap (λ f. f && rest) f)

pub loop-number-preserved : goal.loop-number-preserved
loop-number-preserved c =
    let k = c.loop-number.number in
    let e : Interval = get_or c.args.subscripts.now k (record { least = pos 0; greatest = pos 0 }) in
    let r : Interval = get_or c.args.places.now k (record { least = pos 0; greatest = pos 0 }) in
    let rest = subscripts_fit (ranges (drop (k + 1) c.args.subscripts.now)) (ranges (drop (k + 1) c.args.places.now)) in
    let a : k < length c.args.subscripts.now = omega arith in
    let b : k < length c.args.places.now = omega arith in
    let f : fits (e.least -ℤ r.greatest) (e.greatest -ℤ r.least) ≡ true = search rules in
    c.loop-number.invariant ∙ subscripts_turn c.args.subscripts.now c.args.places.now k e r a b (same_at c.args.subscripts.now k (record { least = pos 0; greatest = pos 0 }) e a) (same_at c.args.places.now k (record { least = pos 0; greatest = pos 0 }) r b) ∙ ap (λ f. f && rest) f
