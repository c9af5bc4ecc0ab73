use Rattle.std.proofs.Common.{◌∙◌, ap, take, drop, map}
use Rattle.std.specs.List.{list_all}
use Rattle.affine_expr.specs.Bounded.{ranges}
use Rattle.affine_expr.specs.Pure.{is_pure}
use Rattle.affine_expr.specs.Spread.{range_of}
use Rattle.affine_ast.specs.Rules.{access_pure}
use Rattle.affine_rules.proofs.Intervals.{leaves_among}
use Rattle.module_work.specs.Table.{ranges_of}
use Rattle.module_work.proofs.Tables.{results_bounded, results_found}
use Rattle.access_region.proofs.gather.intervals_of.Goals as goal

pub intervals_at-requires-clause-pure : goal.intervals_at-requires-clause-pure
unfolding access_pure
intervals_at-requires-clause-pure c = ap (list_all is_pure) c.as_slice-3.ensures ∙ c.requires.pure

pub intervals_at-requires-clause-leaves : goal.intervals_at-requires-clause-leaves
intervals_at-requires-clause-leaves c =
    ap (list_all _) c.as_slice-3.ensures
    ∙ leaves_among (ranges_of c.args.table.now.entries) c.args.at.now c.in_ok-operands.operands.items c.parted_intervals.result.0.now c.parted_intervals.result.1.now
    (c.in_ok-operands.ensures ∙ ap (map (ranges_of c.args.table.now.entries)) c.as_slice.ensures) c.requires.fits
    (c.parted_intervals.ensures.dims ∙ ap (take c.args.at.now.map.dims) c.as_slice-2.ensures.value) (c.parted_intervals.ensures.syms ∙ ap (drop c.args.at.now.map.dims) c.as_slice-2.ensures.value)

pub intervals_at-requires-clause-bounded : goal.intervals_at-requires-clause-bounded
intervals_at-requires-clause-bounded c =
    ap (list_all _) c.as_slice-3.ensures
    ∙ results_bounded (ranges_of c.args.table.now.entries) c.args.at.now c.in_ok-operands.operands.items c.parted_intervals.result.0.now c.parted_intervals.result.1.now
    (c.in_ok-operands.ensures ∙ ap (map (ranges_of c.args.table.now.entries)) c.as_slice.ensures)
    (c.parted_intervals.ensures.dims ∙ ap (take c.args.at.now.map.dims) c.as_slice-2.ensures.value) (c.parted_intervals.ensures.syms ∙ ap (drop c.args.at.now.map.dims) c.as_slice-2.ensures.value) c.requires.bounded

pub returns : goal.returns
returns c =
    results_found (ranges_of c.args.table.now.entries) c.args.at.now c.in_ok-operands.operands.items c.parted_intervals.result.0.now c.parted_intervals.result.1.now
    (c.in_ok-operands.ensures ∙ ap (map (ranges_of c.args.table.now.entries)) c.as_slice.ensures)
    (c.parted_intervals.ensures.dims ∙ ap (take c.args.at.now.map.dims) c.as_slice-2.ensures.value) (c.parted_intervals.ensures.syms ∙ ap (drop c.args.at.now.map.dims) c.as_slice-2.ensures.value)
    (ranges c.in_ok-found.found.items)
    (c.in_ok-found.ensures ∙ ap (map (range_of (ranges c.parted_intervals.result.0.now) (ranges c.parted_intervals.result.1.now))) c.as_slice-3.ensures)
