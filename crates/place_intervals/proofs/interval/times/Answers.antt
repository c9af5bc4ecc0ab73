use Rattle.std.proofs.Common.{rules, ◌≡◌, None, Some, FitsSigned, ap, ◌∙◌}
use Rattle.std.specs.Int.{w64}
use Rattle.std.specs.Prelude.{option_map}
use Rattle.std.proofs.lemmas.Int.{to_z-of_z}
use Rattle.affine_expr.specs.Bounded.{range_at}
use Rattle.affine_expr.specs.Guarded.{small}
use Rattle.place_intervals.proofs.Outsides.{times_none, times_some}
use Rattle.place_intervals.proofs.interval.times.Goals as goal

pub returns-in_err-factor : goal.returns-in_err-factor
returns-in_err-factor c =
    let n : c.from_residual-in_err-factor.result ≡ None = search rules in
    let h : small c.args.factor ≡ None = search (rules, to_z-of_z) in
    ap (option_map range_at) n ∙ times_none (range_at c.args.range) c.args.factor h

pub returns : goal.returns
returns c =
    let h : small c.args.factor ≡ Some c.in_ok-factor.factor = search (rules, to_z-of_z) in
    let fits : FitsSigned w64 c.in_ok-factor.factor = search rules in
    let s = simp to_z-of_z at c.scaled.ensures in
    s ∙ times_some (range_at c.args.range) (range_at c.in_ok-range.range) c.args.factor c.in_ok-factor.factor c.in_ok-range.ensures h
