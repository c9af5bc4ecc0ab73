use Rattle.std.proofs.Common.{rules, arith, ◌≡◌, get_or, length, [], ◌∷◌, ◌++◌, ◌+◌, ◌<◌, drop, Some, ap, sym, append-nil, ◌∙◌}
use Rattle.affine_expr.specs.Bounded.{ranges}
use Rattle.place_intervals.proofs.FitLoops.{same_at}
use Rattle.place_intervals.proofs.FormRanges.{before, places_turn, places_ended}
use Rattle.place_intervals.specs.Places.{place_ranges}
use Rattle.place_intervals.proofs.interval.place_ranges.Goals as goal

pub loop-number-preserved : goal.loop-number-preserved
loop-number-preserved c =
    let k = c.loop-number.number in
    let a : k < length c.args.dims.now = omega arith in
    let b : k < length c.args.sizes.now = omega arith in
    let n = get_or c.args.sizes.now k 0 in
    let grown : c.push.new.self.items ≡ c.loop-number.places.items ++ c.in-Some.place ∷ [] = search rules in
    c.loop-number.invariant ∙ places_turn (ranges c.args.intervals.now) c.args.sizes.now c.args.dims.now k c.index-dims-number.result n a b c.index-dims-number.is (same_at c.args.sizes.now k 0 n b) c.loop-number.places.items c.in-Some.place c.in-Some.ensures
    ∙ ap (λ xs. before (ranges xs) (place_ranges (ranges c.args.intervals.now) (drop (k + 1) c.args.sizes.now) (drop (k + 1) c.args.dims.now))) (sym grown)

pub returns : goal.returns
returns c =
    sym (c.loop-number.invariant
    ∙ ap (before (ranges c.loop-number.places.items)) (places_ended (ranges c.args.intervals.now) c.args.sizes.now c.args.dims.now c.loop-number.number (omega arith))
    ∙ ap Some (append-nil (ranges c.loop-number.places.items)))
