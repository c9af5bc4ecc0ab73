use Rattle.std.proofs.Common.{◌∙◌, ap, take, drop}
use Rattle.std.specs.List.{list_all}
use Rattle.affine_expr.specs.Bounded.{ranges}
use Rattle.affine_ast.specs.Rules.{is_small_dimension, set_pure, row_pure, row_bounded}
use Rattle.affine_ast.specs.Scope.{ranges_in}
use Rattle.affine_rules.specs.Scoped.{scope_of}
use Rattle.affine_rules.proofs.Intervals.{set_found, set_large, set_leaves_among}
use Rattle.affine_rules.proofs.bounded.set_bounded.Goals as goal

pub returns-then-not-are_small_dimensions : goal.returns-then-not-are_small_dimensions
returns-then-not-are_small_dimensions c =
    set_large (scope_of c.args.names.now.entries) c.args.set.now c.args.operands.now c.are_small_dimensions.result (c.are_small_dimensions.ensures ∙ ap (list_all (is_small_dimension (scope_of c.args.names.now.entries))) c.parted.ensures.dims) c.if-not-are_small_dimensions.true

pub rows_have_intervals-requires-clause-pure : goal.rows_have_intervals-requires-clause-pure
unfolding set_pure
rows_have_intervals-requires-clause-pure c = ap (list_all row_pure) c.as_slice-2.ensures ∙ c.requires.pure

pub rows_have_intervals-requires-clause-leaves : goal.rows_have_intervals-requires-clause-leaves
rows_have_intervals-requires-clause-leaves c =
    ap (list_all _) c.as_slice-2.ensures
    ∙ set_leaves_among (ranges_in (scope_of c.args.names.now.entries)) c.args.set.now c.args.operands.now c.in_ok-intervals.intervals.items c.parted_intervals.result.0.now c.parted_intervals.result.1.now (c.in_ok-intervals.ensures) c.requires.fits
    (c.parted_intervals.ensures.dims ∙ ap (take c.args.set.now.dims) c.as_slice.ensures.value) (c.parted_intervals.ensures.syms ∙ ap (drop c.args.set.now.dims) c.as_slice.ensures.value)

pub returns : goal.returns
returns c =
    set_found (scope_of c.args.names.now.entries) c.args.set.now c.args.operands.now c.in_ok-intervals.intervals.items c.parted_intervals.result.0.now c.parted_intervals.result.1.now c.are_small_dimensions.result c.rows_have_intervals.result
    (c.are_small_dimensions.ensures ∙ ap (list_all (is_small_dimension (scope_of c.args.names.now.entries))) c.parted.ensures.dims) c.if-not-are_small_dimensions.false (c.in_ok-intervals.ensures)
    (c.parted_intervals.ensures.dims ∙ ap (take c.args.set.now.dims) c.as_slice.ensures.value) (c.parted_intervals.ensures.syms ∙ ap (drop c.args.set.now.dims) c.as_slice.ensures.value)
    (c.rows_have_intervals.ensures ∙ ap (list_all (row_bounded (ranges c.parted_intervals.result.0.now) (ranges c.parted_intervals.result.1.now))) c.as_slice-2.ensures)
