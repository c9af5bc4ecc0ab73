use Rattle.std.proofs.Common.{rules, ◌≡◌, Option, None, ap, ◌∙◌}
use Rattle.std.specs.Prelude.{option_map}
use Rattle.std.proofs.lemmas.Int.{to_z-of_z}
use Rattle.affine_expr.specs.declared.map.Interval.{Interval}
use Rattle.affine_expr.specs.Spread.{Range}
use Rattle.affine_expr.specs.Bounded.{range_at, ranges}
use Rattle.place_intervals.specs.TermRanges.{form_range}
use Rattle.place_intervals.proofs.PlaceRanged.{place_none, place_clamped}
use Rattle.place_intervals.proofs.interval.varying_range.Goals as goal

pub returns : goal.returns
returns c = place_clamped (ranges c.args.intervals.now) c.args.size c.args.dim.now (range_at c.in_ok-range.range) (range_at c.clamped-moved.result) c.room-most.result c.requires (search (rules, to_z-of_z)) (search rules) (search (rules, to_z-of_z)) (search (rules, to_z-of_z))

pub returns-in_err-range : goal.returns-in_err-range
returns-in_err-range c =
    let none : ◌≡◌ {A = Option Range} None (form_range c.args.dim.now.coefs c.args.dim.now.offset (ranges c.args.intervals.now)) = search (rules, to_z-of_z) in
    let out : ◌≡◌ {A = Option Interval} c.from_residual.result None = search rules in
    ap (option_map range_at) out ∙ place_none (ranges c.args.intervals.now) c.args.size c.args.dim.now c.requires none
