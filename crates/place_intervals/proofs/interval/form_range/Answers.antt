use Rattle.std.proofs.Common.{rules, arith, ◌≡◌, None, FitsSigned, get_or, pos, refl, ap, sym, ◌∙◌}
use Rattle.std.specs.Prelude.{option_map}
use Rattle.std.specs.Int.{w128}
use Rattle.std.proofs.lemmas.Int.{to_z-of_z}
use Rattle.affine_expr.specs.Bounded.{range_at, ranges}
use Rattle.place_intervals.proofs.FormRanges.{turn, stop}
use Rattle.place_intervals.proofs.interval.form_range.Goals as goal

pub returns-in_err-total : goal.returns-in_err-total
returns-in_err-total c =
    let n : c.from_residual.result ≡ None = search rules in
    let fits : FitsSigned w128 c.args.constant = c.ranges.constant in
    let inv = simp to_z-of_z at c.loop-place.invariant in
    ap (option_map range_at) n
    ∙ stop c.args.coefs.now _ (ranges c.args.intervals.now) c.loop-place.place (get_or c.args.coefs.now c.loop-place.place (pos 0)) (omega arith) refl (option_map range_at c.loop-place.total) (search (rules, to_z-of_z))
    ∙ sym inv

pub loop-place-preserved : goal.loop-place-preserved
loop-place-preserved c =
    c.loop-place.invariant ∙ turn c.args.coefs.now _ (ranges c.args.intervals.now) c.loop-place.place (get_or c.args.coefs.now c.loop-place.place (pos 0)) (omega arith) refl (option_map range_at c.loop-place.total) _ (search (rules, to_z-of_z))
