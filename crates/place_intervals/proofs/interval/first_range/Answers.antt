use Rattle.std.proofs.Common.{rules, ◌≡◌, pos, neg_ℤ, ◌∙◌}
use Rattle.std.proofs.lemmas.Int.{to_z-of_z}
use Rattle.affine_expr.specs.Bounded.{range_at}
use Rattle.place_intervals.proofs.Outsides.{first_minus}
use Rattle.place_intervals.proofs.interval.first_range.Goals as goal

pub returns-then-coef-eqminus1 : goal.returns-then-coef-eqminus1
returns-then-coef-eqminus1 c =
    let e : c.args.coef ≡ neg_ℤ (pos 1) = search (rules, to_z-of_z) in
    c.turned.ensures ∙ first_minus (range_at c.args.range) (range_at c.in_ok-range.range) c.args.coef e c.in_ok-range.ensures
