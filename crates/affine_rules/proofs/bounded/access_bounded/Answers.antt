use Rattle.std.proofs.Common.{◌∙◌, ap, take, drop, map}
use Rattle.std.specs.List.{list_all}
use Rattle.affine_expr.specs.Bounded.{ranges}
use Rattle.affine_expr.specs.Pure.{is_pure}
use Rattle.affine_ast.specs.Rules.{is_small_dimension, access_pure, has_interval}
use Rattle.affine_ast.specs.Scope.{ranges_in}
use Rattle.affine_rules.specs.Scoped.{scope_of}
use Rattle.affine_rules.proofs.Intervals.{access_found, access_large, leaves_among}
use Rattle.affine_rules.proofs.bounded.access_bounded.Goals as goal

pub returns-then-not-are_small_dimensions : goal.returns-then-not-are_small_dimensions
returns-then-not-are_small_dimensions c =
    access_large (scope_of c.args.names.now.entries) c.args.at.now c.are_small_dimensions.result (c.are_small_dimensions.ensures ∙ ap (list_all (is_small_dimension (scope_of c.args.names.now.entries))) (c.parted.ensures.dims ∙ ap (take c.args.at.now.map.dims) c.as_slice-operands.ensures)) c.if-not-are_small_dimensions.true

pub have_intervals-requires-clause-pure : goal.have_intervals-requires-clause-pure
unfolding access_pure
have_intervals-requires-clause-pure c = ap (list_all is_pure) c.as_slice-2.ensures ∙ c.requires.pure

pub have_intervals-requires-clause-leaves : goal.have_intervals-requires-clause-leaves
have_intervals-requires-clause-leaves c =
    ap (list_all _) c.as_slice-2.ensures
    ∙ leaves_among (ranges_in (scope_of c.args.names.now.entries)) c.args.at.now c.in_ok-intervals.intervals.items c.parted_intervals.result.0.now c.parted_intervals.result.1.now (c.in_ok-intervals.ensures ∙ ap (map (ranges_in (scope_of c.args.names.now.entries))) c.as_slice-operands.ensures) c.requires.fits
    (c.parted_intervals.ensures.dims ∙ ap (take c.args.at.now.map.dims) c.as_slice.ensures.value) (c.parted_intervals.ensures.syms ∙ ap (drop c.args.at.now.map.dims) c.as_slice.ensures.value)

pub returns : goal.returns
returns c =
    access_found (scope_of c.args.names.now.entries) c.args.at.now c.in_ok-intervals.intervals.items c.parted_intervals.result.0.now c.parted_intervals.result.1.now c.are_small_dimensions.result c.have_intervals.result
    (c.are_small_dimensions.ensures ∙ ap (list_all (is_small_dimension (scope_of c.args.names.now.entries))) (c.parted.ensures.dims ∙ ap (take c.args.at.now.map.dims) c.as_slice-operands.ensures)) c.if-not-are_small_dimensions.false (c.in_ok-intervals.ensures ∙ ap (map (ranges_in (scope_of c.args.names.now.entries))) c.as_slice-operands.ensures)
    (c.parted_intervals.ensures.dims ∙ ap (take c.args.at.now.map.dims) c.as_slice.ensures.value) (c.parted_intervals.ensures.syms ∙ ap (drop c.args.at.now.map.dims) c.as_slice.ensures.value)
    (c.have_intervals.ensures ∙ ap (list_all (has_interval (ranges c.parted_intervals.result.0.now) (ranges c.parted_intervals.result.1.now))) c.as_slice-2.ensures)
