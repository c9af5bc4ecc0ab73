use Rattle.std.proofs.Common.{rules, ◌∙◌, ◌+◌, sym, arith, get_or, pos, w64, SFits}
use Rattle.std.proofs.lemmas.Int.{to_z-of_z}
use Rattle.walk_actions.proofs.Cells.{cell_more, cell_none, cell_bound, cell_below}
use Rattle.run_parts.proofs.elements.element.Goals as goal

pub returns-in_err-number-clause-value : goal.returns-in_err-number-clause-value
returns-in_err-number-clause-value c =
    let f : SFits w64 (get_or c.args.subscripts.now c.loop-place.place (pos 0)) = search rules in
    let none = (simp to_z-of_z at c.in_err-number.ensures.value) in
    c.from_residual.ensures
    ∙ cell_none c.args.sizes.now c.args.subscripts.now c.loop-place.place c.loop-place.cell _ (omega arith) (omega (arith, c.requires.rank)) (sym none) c.loop-place.invariant.rest

pub overflow_mul-cell : goal.overflow_mul-cell
overflow_mul-cell c =
    let b = cell_bound c.args.sizes.now c.loop-place.place c.loop-place.cell c.in_ok-number.number c.requires.sizes (omega arith) c.in_ok-number.ensures.below c.loop-place.invariant.bound in
    omega (arith, cell_below c.args.sizes.now (c.loop-place.place + 1) _ c.requires.sizes b, c.requires.few)

pub overflow_add-cell : goal.overflow_add-cell
overflow_add-cell c =
    let b = cell_bound c.args.sizes.now c.loop-place.place c.loop-place.cell c.in_ok-number.number c.requires.sizes (omega arith) c.in_ok-number.ensures.below c.loop-place.invariant.bound in
    omega (arith, cell_below c.args.sizes.now (c.loop-place.place + 1) _ c.requires.sizes b, c.requires.few)

pub loop-place-preserved : goal.loop-place-preserved
loop-place-preserved c =
    let f : SFits w64 (get_or c.args.subscripts.now c.loop-place.place (pos 0)) = search rules in
    let some = (simp to_z-of_z at c.in_ok-number.ensures.value) in
    record {
      rest = cell_more c.args.sizes.now c.args.subscripts.now c.loop-place.place c.loop-place.cell c.in_ok-number.number _ (omega arith) (omega (arith, c.requires.rank)) (sym some) c.loop-place.invariant.rest;
      bound = cell_bound c.args.sizes.now c.loop-place.place c.loop-place.cell c.in_ok-number.number c.requires.sizes (omega arith) c.in_ok-number.ensures.below c.loop-place.invariant.bound;
    }
