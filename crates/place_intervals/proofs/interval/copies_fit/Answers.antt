use Rattle.std.proofs.Common.{rules, arith, ◌≡◌, get_or, length, true, false, ◌&&◌, ◌+◌, ◌<◌, pos, ◌+ℤ◌, ◌-ℤ◌, drop, ap, sym, ◌∙◌}
use Rattle.affine_expr.specs.declared.map.Interval.{Interval}
use Rattle.affine_expr.specs.Bounded.{ranges}
use Rattle.place_intervals.specs.Places.{fits, copies_fit}
use Rattle.place_intervals.proofs.FitLoops.{copies_turn, same_at}
use Rattle.place_intervals.proofs.interval.copies_fit.Goals as goal

pub returns-then-not-copy_fits : goal.returns-then-not-copy_fits
returns-then-not-copy_fits c =
    let k = c.loop-number.number in
    let r : Interval = get_or c.args.places.now k (record { least = pos 0; greatest = pos 0 }) in
    let rest = copies_fit (drop (k + 1) c.args.dims.now) (ranges (drop (k + 1) c.args.places.now)) in
    let b : k < length c.args.places.now = omega arith in
    let a : k < length c.args.dims.now = omega arith in
    let f : fits r.least (r.greatest +ℤ ((c.index-dims-number.result).extent -ℤ pos 1)) ≡ false = search rules in
    sym (c.loop-number.invariant ∙ copies_turn c.args.dims.now c.args.places.now k c.index-dims-number.result r a b c.index-dims-number.is (same_at c.args.places.now k (record { least = pos 0; greatest = pos 0 }) r b) ∙ ap (λ f. f && rest) f)

pub loop-number-preserved : goal.loop-number-preserved
loop-number-preserved c =
    let k = c.loop-number.number in
    let r : Interval = get_or c.args.places.now k (record { least = pos 0; greatest = pos 0 }) in
    let rest = copies_fit (drop (k + 1) c.args.dims.now) (ranges (drop (k + 1) c.args.places.now)) in
    let b : k < length c.args.places.now = omega arith in
    let a : k < length c.args.dims.now = omega arith in
    let f : fits r.least (r.greatest +ℤ ((c.index-dims-number.result).extent -ℤ pos 1)) ≡ true = search rules in
    c.loop-number.invariant ∙ copies_turn c.args.dims.now c.args.places.now k c.index-dims-number.result r a b c.index-dims-number.is (same_at c.args.places.now k (record { least = pos 0; greatest = pos 0 }) r b) ∙ ap (λ f. f && rest) f
