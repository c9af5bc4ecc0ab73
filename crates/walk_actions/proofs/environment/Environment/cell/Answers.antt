use Rattle.affine_expr.specs.declared.expr.Expr.{Expr}
use Rattle.std.proofs.Common.{rules, ◌≡◌, List, ℕ, ◌+◌, ◌<◌, ℤ, pos, length, map, get_or, sym, ap, ◌∙◌, arith}
use Rattle.std.proofs.lemmas.Int.{to_z-of_z}
use Rattle.std.proofs.lemmas.List.{length-map}
use mir.Val.{SFits}
use mir.Syntax.{w64}
use Rattle.direct_meaning.specs.Static.{within}
use Rattle.walk_actions.specs.Looked.{env_of}
use Rattle.walk_actions.specs.Values.{value_in, use_of}
use Rattle.walk_actions.proofs.Values.{get_or-mapped}
use Rattle.walk_actions.proofs.Cells.{cell_more, cell_none, cell_bound, cell_below}
use Rattle.walk_actions.proofs.environment.Environment.cell.Goals as goal

-- the subscript is the value of its result
subscript_is : (f : Expr → ℤ) (es : List Expr) (k : ℕ) (x : Expr) (z : ℤ) → k < length es → x ≡ get_or es k x → z ≡ f x → z ≡ get_or (map f es) k (pos 0)
subscript_is f es k x z h is e = e ∙ ap f is ∙ sym (get_or-mapped f es k x (pos 0) h)

pub returns-in_err-number-clause-value : goal.returns-in_err-number-clause-value
returns-in_err-number-clause-value c =
    let f : SFits w64 c.value-subscript.result = search rules in
    let subscripts = map (value_in (env_of c.args.self.now) (use_of c.args.self.now c.args.at.now)) c.args.results.now in
    let z = subscript_is (value_in (env_of c.args.self.now) (use_of c.args.self.now c.args.at.now)) c.args.results.now c.loop-place.place c.index-results-place.result c.value-subscript.result (omega arith) c.index-results-place.is c.value-subscript.ensures.value in
    let none = (simp to_z-of_z at c.in_err-number.ensures.value) in
    c.from_residual.ensures
    ∙ cell_none c.args.sizes.now subscripts c.loop-place.place c.loop-place.cell _ (omega arith) (omega (arith, length-map c.args.results.now (value_in (env_of c.args.self.now) (use_of c.args.self.now c.args.at.now))))
    (ap (λ y. within y (get_or c.args.sizes.now c.loop-place.place 0)) (sym z) ∙ sym none) c.loop-place.invariant.rest

pub overflow_mul-cell : goal.overflow_mul-cell
overflow_mul-cell c =
    let b = cell_bound c.args.sizes.now c.loop-place.place c.loop-place.cell c.in_ok-number.number c.requires.sizes (omega arith) c.in_ok-number.ensures.below c.loop-place.invariant.bound in
    omega (arith, cell_below c.args.sizes.now (c.loop-place.place + 1) _ c.requires.sizes b, c.requires.few)

pub overflow_add-cell : goal.overflow_add-cell
overflow_add-cell c =
    let b = cell_bound c.args.sizes.now c.loop-place.place c.loop-place.cell c.in_ok-number.number c.requires.sizes (omega arith) c.in_ok-number.ensures.below c.loop-place.invariant.bound in
    omega (arith, cell_below c.args.sizes.now (c.loop-place.place + 1) _ c.requires.sizes b, c.requires.few)

pub loop-place-preserved : goal.loop-place-preserved
loop-place-preserved c =
    let f : SFits w64 c.value-subscript.result = search rules in
    let subscripts = map (value_in (env_of c.args.self.now) (use_of c.args.self.now c.args.at.now)) c.args.results.now in
    let z = subscript_is (value_in (env_of c.args.self.now) (use_of c.args.self.now c.args.at.now)) c.args.results.now c.loop-place.place c.index-results-place.result c.value-subscript.result (omega arith) c.index-results-place.is c.value-subscript.ensures.value in
    let some = (simp to_z-of_z at c.in_ok-number.ensures.value) in
    record {
      rest = cell_more c.args.sizes.now subscripts c.loop-place.place c.loop-place.cell c.in_ok-number.number _ (omega arith) (omega (arith, length-map c.args.results.now (value_in (env_of c.args.self.now) (use_of c.args.self.now c.args.at.now))))
          (ap (λ y. within y (get_or c.args.sizes.now c.loop-place.place 0)) (sym z) ∙ sym some) c.loop-place.invariant.rest;
      bound = cell_bound c.args.sizes.now c.loop-place.place c.loop-place.cell c.in_ok-number.number c.requires.sizes (omega arith) c.in_ok-number.ensures.below c.loop-place.invariant.bound;
      capacity = c.value-subscript.ensures.capacity ∙ c.loop-place.invariant.capacity;
    }
